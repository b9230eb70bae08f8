use Rattle.std.proofs.Common.{arith}
use Rattle.select_tool.proofs.ListingLaws.{came_more, failed_more, length-left_of}
use Rattle.select_tool.proofs.replies.feed.Goals as goal

pub loop-done-preserved : goal.loop-done-preserved
loop-done-preserved g c =
    let i = c.loop-done.invariant in
    let s = c.in-Ok.ensures.steps in
    record {
      within = omega (arith, s.1.within, length-left_of c.args.piece.now c.loop-done.done i.within);
      ready = s.1.ready;
      taken = omega (arith, s.1.taken, i.taken);
      answers = came_more c.args.frames.now c.loop-done.frames c.step.new.frames c.args.lister.now c.loop-done.lister c.step.new.lister c.args.piece.now
          c.loop-done.done c.in-Ok.count _ _ _ i.within i.answers s.1;
      faults = omega (arith, i.faults, c.step.ensures.faults);
    }

pub returns-in-Err-clause-feeds : goal.returns-in-Err-clause-feeds
returns-in-Err-clause-feeds g c =
    let i = c.loop-done.invariant in
    failed_more c.in-Err.trouble c.args.frames.now c.loop-done.frames c.args.lister.now c.loop-done.lister c.args.piece.now c.loop-done.done _ _ _
    i.within i.taken i.answers c.in-Err.ensures.steps
