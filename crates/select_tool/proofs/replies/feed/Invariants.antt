use Rattle.std.proofs.Common.{◌≡◌, ◌+◌, ◌-◌, ◌≤◌, ◌++◌, length, take}
use Rattle.select_tool.specs.Listening.{IsReady, Answers}
use Rattle.select_tool.proofs.replies.feed.Given as goal

abbrev pub invariant-loop-done : goal.invariant-loop-done
invariant-loop-done g l = record {
  within : l.done ≤ length l.piece;
  ready : IsReady l.frames;
  taken : l.frames.taken ≡ l.initial.frames.taken + l.done;
  answers : Answers (l.initial.frames.kept ++ take l.done l.piece) l.frames.kept l.initial.lister l.lister
      (g.O.Sink.written l.initial.out) (g.O.Sink.written l.out);
  faults : g.O.Sink.faults l.initial.out ≤ g.O.Sink.faults l.out;
}

abbrev pub decreases-loop-done : goal.decreases-loop-done
decreases-loop-done g l = length l.piece - l.done
