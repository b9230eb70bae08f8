use Rattle.std.proofs.Common.{◌∙◌, arith}
use Rattle.line_window.proofs.WayLaws.{near_grown, measuring_more, measured_failed}
use Rattle.line_window.proofs.window.Window.measure.Goals as goal

pub pieces-preserved : goal.pieces-preserved
pieces-preserved g c =
    let at = c.pieces.invariant in
    let seen = c.in-Unended.ensures in
    let kept = c.refill.ensures.faults.kept in
    let faults = at.faults in
    record {
      measuring =
          measuring_more _ c.args.self.now c.pieces.self c.refill.new.self c.pieces.scanned c.in-Unended.len _ _ _ at.measuring
          (near_grown c.args.self.now c.pieces.self at.measuring.grows c.requires.near) seen.0 seen.1 seen.4
          c.refill.ensures.window c.refill.ensures.piece c.in_ok-refill.ensures.read.1 (λ object tells h. c.refill.ensures.told object (at.current ∙ tells) h) c.refill.ensures.taken;
      faults = omega arith;
      held = c.refill.ensures.held ∙ at.held;
      current = c.refill.ensures.current ∙ at.current;
      absent = c.refill.ensures.absent ∙ at.absent;
    }

pub returns-in_err-refill-clause-window : goal.returns-in_err-refill-clause-window
returns-in_err-refill-clause-window g c =
    let at = c.pieces.invariant in
    measured_failed _ c.args.self.now c.pieces.self c.refill.new.self c.pieces.scanned c.from_residual.result _ _ _ at.measuring c.from_residual.ensures.0
    c.refill.ensures.window c.in_err-refill.ensures.read.0 c.in_err-refill.ensures.read.1 (λ object tells h. c.refill.ensures.told object (at.current ∙ tells) h) c.refill.ensures.taken
