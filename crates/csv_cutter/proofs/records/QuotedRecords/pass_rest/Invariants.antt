use Rattle.std.proofs.Common.{◌≡◌, ◌+◌, ◌-◌, ◌≤◌}
use Rattle.csv_cutter.specs.Looks.{Moves}
use Rattle.csv_cutter.proofs.Taking.{Passing}
use Rattle.csv_cutter.proofs.records.QuotedRecords.pass_rest.Given as goal

abbrev pub invariant-looks : goal.invariant-looks
invariant-looks g l = record {
  moves : Moves (g.S.Store.current l.fn.store) l.fn.window l.window (g.S.Store.taken l.fn.store) (g.S.Store.taken l.store);
  passing : Passing (g.S.Store.current l.fn.store) l.fn.self.dialect l.fn.window l.window l.fn.state l.fn.n l.state l.n;
  dialect : l.self.dialect ≡ l.fn.self.dialect;
  limit : l.self.longest ≡ l.fn.self.longest;
  failed : l.window.failed ≡ l.fn.window.failed;
  faults : g.S.Store.faults l.fn.store ≤ g.S.Store.faults l.store;
  held : g.S.Store.held l.store ≡ g.S.Store.held l.fn.store;
  current : g.S.Store.current l.store ≡ g.S.Store.current l.fn.store;
  absent : g.S.Store.absent l.store ≡ g.S.Store.absent l.fn.store;
}

abbrev pub decreases-looks : goal.decreases-looks
decreases-looks g l = l.window.size - (l.window.place + l.n)
