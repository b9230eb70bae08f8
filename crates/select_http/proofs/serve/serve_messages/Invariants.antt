-- So many messages were answered, and the store holds what it held.
use Rattle.std.proofs.Common.{◌≡◌, ◌≤◌, ◌-◌}
use Rattle.select_http.specs.Endings.{IsFresh}
use Rattle.select_http.specs.Turns.{Serving}
use Rattle.select_http.proofs.serve.serve_messages.Given as goal

abbrev pub invariant-loop-done : goal.invariant-loop-done
invariant-loop-done g l =
    (l.done ≤ 99)
    × Serving l.limits.longest (g.S.Store.held l.initial.store) (g.L.Listen.seen l.initial.link) (g.L.Listen.seen l.link) l.done l.intake.kept.items
    × IsFresh (g.L.Listen.seen l.link)
    × (g.S.Store.held l.store ≡ g.S.Store.held l.initial.store)
    × (g.S.Store.faults l.initial.store ≤ g.S.Store.faults l.store)

abbrev pub decreases-loop-done : goal.decreases-loop-done
decreases-loop-done g l = 99 - l.done
