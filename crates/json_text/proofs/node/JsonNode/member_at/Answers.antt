use Rattle.std.proofs.Common.{arith, ◌≡◌}
use Rattle.json_text.specs.Naming.{members_of}
use Rattle.json_text.proofs.Membered.{past_members, goes_on, member_is_at}
use Rattle.json_text.proofs.node.JsonNode.member_at.Goals as goal

pub returns-in-None : goal.returns-in-None
returns-in-None c =
    λ tree x. past_members (members_of tree) c.loop-passed.passed c.args.k ((c.in-None.ensures.member _ (c.loop-passed.invariant tree x)).0) (omega arith)

pub loop-passed-preserved : goal.loop-passed-preserved
loop-passed-preserved c =
    λ tree x. goes_on (members_of tree) c.loop-passed.passed _ _ _ _ (c.in-Some.ensures.member _ (c.loop-passed.invariant tree x))

pub returns-in-Some-step : goal.returns-in-Some-step
returns-in-Some-step c =
    λ tree x. let at_end : c.loop-passed.passed ≡ c.args.k = omega arith in
    member_is_at (members_of tree) c.loop-passed.passed c.args.k _ _ _ _ _ at_end (c.in-Some-step.ensures.member _ (c.loop-passed.invariant tree x)) c.json.ensures.value

pub returns-in-None-step : goal.returns-in-None-step
returns-in-None-step c =
    λ tree x. let at_end : c.loop-passed.passed ≡ c.args.k = omega arith in
    past_members (members_of tree) c.loop-passed.passed c.args.k ((c.in-None-step.ensures.member _ (c.loop-passed.invariant tree x)).0) (omega arith)
