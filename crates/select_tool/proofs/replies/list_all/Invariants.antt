use Rattle.std.proofs.Common.{◌≡◌, ◌+◌, ◌-◌, ◌^◌, ◌≤◌, length}
use Rattle.select_tool.specs.Listening.{IsReady}
use Rattle.select_tool.proofs.ListingLaws.{Came}
use Rattle.select_tool.proofs.EndingLaws.{RoseAtLeast}
use Rattle.select_tool.proofs.replies.list_all.Given as goal

abbrev pub invariant-pieces : goal.invariant-pieces
invariant-pieces g l = record {
  buffer : length l.buffer ≡ length l.initial.buffer;
  limit : l.taken ≤ 2 ^ 40;
  ready : IsReady l.frames;
  count : l.frames.taken ≡ l.taken;
  came : Came l.taken l.frames.kept l.initial.lister l.lister (g.I.Source.left l.initial.input) (g.I.Source.left l.input)
      (g.O.Sink.written l.initial.out) (g.O.Sink.written l.out);
  rose : RoseAtLeast l.taken (g.I.Source.taken l.initial.input) (g.I.Source.taken l.input);
  input_taken : g.I.Source.taken l.input ≤ g.I.Source.taken l.initial.input + l.taken;
  input_faults : g.I.Source.faults l.initial.input ≤ g.I.Source.faults l.input;
  out_faults : g.O.Sink.faults l.initial.out ≤ g.O.Sink.faults l.out;
}

abbrev pub decreases-pieces : goal.decreases-pieces
decreases-pieces g l = 2 ^ 40 - l.taken
