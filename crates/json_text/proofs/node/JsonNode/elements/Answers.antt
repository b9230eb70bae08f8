use Rattle.std.proofs.Common.{sym, subst, ◌∙◌, ap}
use Rattle.json_text.specs.Nodes.{Spells}
use Rattle.json_text.specs.Walks.{walk_start}
use Rattle.json_text.proofs.Walking.{walk_invariant, begins_walk}
use Rattle.json_text.proofs.node.JsonNode.elements.Goals as goal

pub invariant_of-result : goal.invariant_of-result
invariant_of-result c = walk_invariant c.token-text.result.now c.as_bytes.result.now c.first_place-at.result c.first_place-at.ensures c.as_bytes.ensures.value c.token-text.ensures.sound

pub returns : goal.returns
returns c =
    λ tree x. begins_walk c.token-text.result.now c.first_place-at.result (c.first_place-at.ensures ∙ ap walk_start c.as_bytes.ensures.value) tree
    (subst (λ s. Spells s tree) (sym c.token-text.ensures.value) x)
