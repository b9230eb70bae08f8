use Rattle.std.proofs.Common.{arith, ◌≡◌}
use Rattle.json_text.specs.Walks.{elements_of}
use Rattle.json_text.proofs.Walking.{past_end, goes_on, first_is_at}
use Rattle.json_text.proofs.node.JsonNode.element.Goals as goal

pub returns-in-None : goal.returns-in-None
returns-in-None c =
    λ tree x. past_end (elements_of tree) c.loop-passed.passed c.args.k ((c.in-None.ensures.element _ (c.loop-passed.invariant tree x)).0) (omega arith)

pub loop-passed-preserved : goal.loop-passed-preserved
loop-passed-preserved c =
    λ tree x. goes_on (elements_of tree) c.loop-passed.passed _ _ _ (c.in-Some.ensures.element _ (c.loop-passed.invariant tree x))

pub returns-in-Some-next : goal.returns-in-Some-next
returns-in-Some-next c =
    λ tree x. let at_end : c.loop-passed.passed ≡ c.args.k = omega arith in
    first_is_at (elements_of tree) c.loop-passed.passed c.args.k _ _ _ at_end (c.in-Some-next.ensures.element _ (c.loop-passed.invariant tree x))

pub returns-in-None-next : goal.returns-in-None-next
returns-in-None-next c =
    λ tree x. let at_end : c.loop-passed.passed ≡ c.args.k = omega arith in
    past_end (elements_of tree) c.loop-passed.passed c.args.k ((c.in-None-next.ensures.element _ (c.loop-passed.invariant tree x)).0) (omega arith)
