use Rattle.std.specs.Prelude.{Some}
use Rattle.std.proofs.Common.{sym, ap, ◌∙◌}
use Rattle.select_request.proofs.Finding.{unmet_here, unmet_later}
use Rattle.select_request.proofs.checks.first_unmet.Goals as goal

pub returns-then-not-is_met : goal.returns-then-not-is_met
returns-then-not-is_met c =
    ap Some c.fault.ensures ∙ sym (unmet_here c.args.found.now c.args.checks.now c.loop-check.check-index _ c.loop-check-test.true c.if-not-is_met.ensures) ∙ c.loop-check.invariant

pub loop-check-preserved : goal.loop-check-preserved
loop-check-preserved c =
    sym (unmet_later c.args.found.now c.args.checks.now c.loop-check.check-index _ c.loop-check-test.true c.if-not-is_met.ensures) ∙ c.loop-check.invariant
