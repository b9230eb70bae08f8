use Rattle.std.proofs.Common.{◌≡◌, ◌-◌, ◌≤◌}
use Rattle.line_window.specs.Steps.{Going}
use Rattle.line_window.proofs.window.Window.reach.Given as goal

abbrev pub invariant-pieces : goal.invariant-pieces
invariant-pieces g l = record {
  going : Going (g.S.Store.current l.fn.store) l.fn.self l.self (g.S.Store.taken l.fn.store) (g.S.Store.taken l.store);
  faults : g.S.Store.faults l.fn.store ≤ g.S.Store.faults l.store;
  held : g.S.Store.held l.store ≡ g.S.Store.held l.fn.store;
  current : g.S.Store.current l.store ≡ g.S.Store.current l.fn.store;
  absent : g.S.Store.absent l.store ≡ g.S.Store.absent l.fn.store;
}

abbrev pub decreases-pieces : goal.decreases-pieces
decreases-pieces g l = l.self.size - l.self.upto
