use Rattle.sql_timestamp.proofs.Ranges.{joined_order}
use Rattle.sql_timestamp.proofs.stamp.Stamp.compare.Goals as goal

pub returns : goal.returns
returns c =
    rw (c.then.ensures, c.cmp.ensures, c.cmp-2.ensures, ← c.self.view_is, ← c.other.view_is)
    (joined_order c.self.inside.seconds c.other.inside.seconds c.self.inside.nanoseconds c.other.inside.nanoseconds c.self.invariant.0 c.other.invariant.0)
