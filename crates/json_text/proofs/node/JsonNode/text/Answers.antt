use Rattle.std.proofs.Common.{sym, subst}
use Rattle.json_text.specs.Nodes.{Spells}
use Rattle.json_text.proofs.Quoted.{short_none, other_none, quoted_text, begins, ends}
use Rattle.json_text.proofs.node.JsonNode.text.Goals as goal

pub returns-then-len-lt2 : goal.returns-then-len-lt2
returns-then-len-lt2 c = λ tree x. short_none c.self.inside.token.now tree c.if-len-lt2.true (subst (λ s. Spells s tree) (sym c.self.view_is) x)

pub range-requires-clause-start_boundary : goal.range-requires-clause-start_boundary
range-requires-clause-start_boundary c =
    λ h. begins c.self.inside.token.now (rw c.as_bytes.ensures.value at c.as_bytes.ensures.utf8) c.if-len-lt2.false (rw c.as_bytes.ensures.value at c.if-as_bytes-eq34.true)

pub range-requires-clause-end_boundary : goal.range-requires-clause-end_boundary
range-requires-clause-end_boundary c =
    ends c.self.inside.token.now c.if-len-lt2.false (rw c.as_bytes.ensures.value at c.if-as_bytes-eq34.true) c.self.invariant

pub returns-then-as_bytes-eq34 : goal.returns-then-as_bytes-eq34
returns-then-as_bytes-eq34 c =
    λ tree x. quoted_text c.self.inside.token.now c.range.result.now c.json.result tree (rw c.as_bytes.ensures.value at c.if-as_bytes-eq34.true) c.range.ensures.value c.json.ensures.value
    (subst (λ s. Spells s tree) (sym c.self.view_is) x)

pub returns : goal.returns
returns c = λ tree x. other_none c.self.inside.token.now tree (rw c.as_bytes.ensures.value at c.if-as_bytes-eq34.false) (subst (λ s. Spells s tree) (sym c.self.view_is) x)
