use Rattle.std.proofs.Common.{◌≡◌, ℕ, ◌+◌, ◌-◌, ◌≤◌, List, false}
use Rattle.std.specs.Prelude.{max}
use Rattle.select_ports.specs.Stored.{IsOpen}
use Rattle.line_window.specs.Sliding.{Tells, Holds, IsSound, SameRules, Took, left}
use Rattle.select_reply.specs.Begun.{is_full}
use Rattle.record_stream.specs.Streaming.{asking, LinesStreamed}
use Rattle.record_stream.proofs.stream.answer_lines.Given as goal

abbrev pub invariant-turns : goal.invariant-turns
invariant-turns g l = record {
  open_ : IsOpen (g.S.Store.current l.store) l.window.size;
  sound : IsSound l.window;
  works : l.window.failed ≡ false;
  free : is_full l.reply.left ≡ false;
  rules : SameRules l.initial.window l.window;
  forward : l.initial.window.upto ≤ l.window.upto;
  near : l.window.upto ≤ max l.initial.window.upto (l.initial.window.stop + l.initial.window.longest + 65536);
  taken : Took (l.window.upto - l.initial.window.upto) (g.S.Store.taken l.initial.store) (g.S.Store.taken l.store);
  held : g.S.Store.held l.store ≡ g.S.Store.held l.initial.store;
  current : g.S.Store.current l.store ≡ g.S.Store.current l.initial.store;
  absent : g.S.Store.absent l.store ≡ g.S.Store.absent l.initial.store;
  store_faults : g.S.Store.faults l.initial.store ≤ g.S.Store.faults l.store;
  out_faults : g.K.FrameSink.faults l.initial.out ≤ g.K.FrameSink.faults l.out;
  rest : g.K.FrameSink.rest l.out ≡ g.K.FrameSink.rest l.initial.out;
  told : (object : List ℕ) → Tells (g.S.Store.current l.initial.store) object → Holds object l.initial.window
      → LinesStreamed (asking g.K.FrameSink.wrap l.initial.reply.progress l.initial.reply.left (g.Y.LineYields.lines l.initial.lines) l.initial.window.longest)
      object (left object l.initial.window) l.window (g.Y.LineYields.lines l.lines) (g.Y.LineYields.last l.lines) l.reply
      (g.K.FrameSink.written l.initial.out) (g.K.FrameSink.written l.out);
}

abbrev pub decreases-turns : goal.decreases-turns
decreases-turns g l = l.window.stop - l.window.place
