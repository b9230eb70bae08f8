use Rattle.std.proofs.Common.{◌≡◌, ℕ, ◌+◌, ◌-◌, ◌≤◌, List, false}
use Rattle.select_ports.specs.Stored.{IsOpen}
use Rattle.line_window.specs.Cuts.{Cut}
use Rattle.line_window.specs.Sliding.{Tells, Holds, SameRules, Took}
use Rattle.csv_cutter.specs.Cutter.{pending_len, IsReady, Left}
use Rattle.select_reply.specs.Begun.{is_full}
use Rattle.record_stream.specs.Streaming.{asking, QuotedStreamed}
use Rattle.record_stream.proofs.quoted.answer_records.Given as goal

abbrev pub invariant-turns : goal.invariant-turns
invariant-turns g l = record {
  open_ : IsOpen (g.S.Store.current l.store) l.window.size;
  ready : IsReady l.cutter l.window;
  works : l.window.failed ≡ false;
  free : is_full l.reply.left ≡ false;
  rules : SameRules l.initial.window l.window;
  forward : l.initial.window.upto ≤ l.window.upto;
  taken : Took (l.window.upto - l.initial.window.upto) (g.S.Store.taken l.initial.store) (g.S.Store.taken l.store);
  held : g.S.Store.held l.store ≡ g.S.Store.held l.initial.store;
  current : g.S.Store.current l.store ≡ g.S.Store.current l.initial.store;
  absent : g.S.Store.absent l.store ≡ g.S.Store.absent l.initial.store;
  store_faults : g.S.Store.faults l.initial.store ≤ g.S.Store.faults l.store;
  out_faults : g.K.FrameSink.faults l.initial.out ≤ g.K.FrameSink.faults l.out;
  rest : g.K.FrameSink.rest l.out ≡ g.K.FrameSink.rest l.initial.out;
  told : (object : List ℕ) (cuts : List Cut) → Tells (g.S.Store.current l.initial.store) object → Holds object l.initial.window
      → Left l.initial.cutter object l.initial.window cuts
      → QuotedStreamed (asking g.K.FrameSink.wrap l.initial.reply.progress l.initial.reply.left (g.Y.LineYields.lines l.initial.lines) l.initial.window.longest)
      object cuts l.cutter l.window (g.Y.LineYields.lines l.lines) (g.Y.LineYields.last l.lines) l.reply
      (g.K.FrameSink.written l.initial.out) (g.K.FrameSink.written l.out);
}

abbrev pub decreases-turns : goal.decreases-turns
decreases-turns g l = l.window.size - (l.window.place + pending_len l.cutter.pending)
