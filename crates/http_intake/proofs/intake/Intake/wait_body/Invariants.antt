-- What came is kept, and no call failed.
use Rattle.std.proofs.Common.{◌≡◌, ◌≤◌, ◌-◌, length}
use Rattle.http_intake.specs.Coming.{Comes, Rests}
use Rattle.http_intake.proofs.intake.Intake.wait_body.Given as goal

abbrev pub invariant-loop-self : goal.invariant-loop-self
invariant-loop-self g l =
    Comes (g.L.Listen.seen l.initial.link) (g.L.Listen.seen l.link) l.initial.self.kept.items l.self.kept.items
    × (l.self.spans.items ≡ l.initial.self.spans.items)
    × (l.len ≤ length l.initial.self.kept.items
    → Rests (g.L.Listen.seen l.initial.link) (g.L.Listen.seen l.link) l.initial.self.kept.items l.self.kept.items)

abbrev pub decreases-loop-self : goal.decreases-loop-self
decreases-loop-self g l = l.len - length l.self.kept.items
