use Rattle.std.proofs.Common.{sym, subst, ◌∙◌, ap}
use Rattle.json_text.specs.Nodes.{Spells}
use Rattle.json_text.specs.Naming.{object_start}
use Rattle.json_text.proofs.Membered.{members_invariant, begins_members}
use Rattle.json_text.proofs.node.JsonNode.members.Goals as goal

pub invariant_of-result : goal.invariant_of-result
invariant_of-result c = members_invariant c.token-text.result.now c.as_bytes.result.now c.first_name-at.result c.first_name-at.ensures c.as_bytes.ensures.value c.token-text.ensures.sound

pub returns : goal.returns
returns c =
    λ tree x. begins_members c.token-text.result.now c.first_name-at.result (c.first_name-at.ensures ∙ ap object_start c.as_bytes.ensures.value) tree
    (subst (λ s. Spells s tree) (sym c.token-text.ensures.value) x)
