use Rattle.std.proofs.Common.{◌≡◌, ◌+◌, ◌-◌, ◌≤◌, false}
use Rattle.csv_cutter.specs.Looks.{Stays, IsEnding}
use Rattle.csv_cutter.proofs.looks.end_record.Given as goal

abbrev pub invariant-looks : goal.invariant-looks
invariant-looks g l = record {
  stays : Stays (g.S.Store.current l.fn.store) l.fn.window l.window (g.S.Store.taken l.fn.store) (g.S.Store.taken l.store);
  works : l.window.failed ≡ false;
  ending : IsEnding (g.S.Store.current l.fn.store) l.dialect l.fn.window l.window l.at l.state;
  few : l.at ≤ l.longest + 3;
  faults : g.S.Store.faults l.fn.store ≤ g.S.Store.faults l.store;
  held : g.S.Store.held l.store ≡ g.S.Store.held l.fn.store;
  current : g.S.Store.current l.store ≡ g.S.Store.current l.fn.store;
  absent : g.S.Store.absent l.store ≡ g.S.Store.absent l.fn.store;
}

abbrev pub decreases-looks : goal.decreases-looks
decreases-looks g l = l.window.size - (l.window.place + l.at)
