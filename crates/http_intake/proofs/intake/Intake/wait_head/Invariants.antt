-- What came is kept, and no call failed. Where a head was there at first, nothing came.
use Rattle.std.proofs.Common.{ℕ, ◌-◌, List, length}
use Rattle.httparse.specs.Grammar.{ReadsRequest, RequestHead}
use Rattle.http_intake.specs.Coming.{Comes, Rests}
use Rattle.http_intake.specs.Heads.{judged}
use Rattle.http_intake.proofs.intake.Intake.wait_head.Given as goal

abbrev pub invariant-loop-self : goal.invariant-loop-self
invariant-loop-self g l =
    Comes (g.L.Listen.seen l.initial.link) (g.L.Listen.seen l.link) l.initial.self.kept.items l.self.kept.items
    × ((tree : RequestHead) (rest : List ℕ) → ReadsRequest (judged l.initial.self.kept.items) tree rest
    → Rests (g.L.Listen.seen l.initial.link) (g.L.Listen.seen l.link) l.initial.self.kept.items l.self.kept.items)

abbrev pub decreases-loop-self : goal.decreases-loop-self
decreases-loop-self g l = 16384 - length l.self.kept.items
