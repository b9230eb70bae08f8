-- What the loop over the pieces has written.
use Rattle.std.proofs.Common.{◌≡◌, ◌+◌, ◌-◌, ◌<◌, ◌≤◌, ◌++◌, length, take}
use Rattle.std.specs.Io.KnownBytes.{Appends}
use Rattle.select_reply.specs.Pieces.{whole_pieces, remainder}
use Rattle.select_reply.specs.Events.{wrapped_frames}
use Rattle.select_reply.specs.Turns.{grown_events, cut_after}
use Rattle.select_reply.proofs.writer.ReplyWriter.add.Given as goal

abbrev pub invariant-pieces : goal.invariant-pieces
invariant-pieces g l = record {
  within : l.done ≤ length l.bytes;
  some : 0 < l.room;
  room : l.room + length l.self.pending ≡ 65536;
  pending : l.self.pending ≡ remainder (l.initial.self.pending ++ take l.done l.bytes);
  cut : l.self.cut ≡ cut_after l.initial.self.cut (whole_pieces (l.initial.self.pending ++ take l.done l.bytes));
  written : Appends (g.K.FrameSink.written l.initial.out) (g.K.FrameSink.written l.out)
      (wrapped_frames g.K.FrameSink.wrap (grown_events l.initial.self.progress l.initial.self.scanned l.initial.self.cut
      (whole_pieces (l.initial.self.pending ++ take l.done l.bytes))));
  scanned : l.self.scanned ≡ l.initial.self.scanned;
  progress : l.self.progress ≡ l.initial.self.progress;
  left : l.self.left ≡ l.initial.self.left;
  faults : g.K.FrameSink.faults l.initial.out ≤ g.K.FrameSink.faults l.out;
  rest : g.K.FrameSink.rest l.out ≡ g.K.FrameSink.rest l.initial.out;
}

abbrev pub decreases-pieces : goal.decreases-pieces
decreases-pieces g l = length l.bytes - l.done
