use Rattle.std.proofs.Common.{arith}
use Rattle.jiff_core.proofs.SignedLemmas.{signed_arith}
use Rattle.sql_timestamp.proofs.Ranges.{shown_open}
use Rattle.sql_timestamp.proofs.stamp.Stamp.offset.Goals as goal

pub returns-clause-low : goal.returns-clause-low
returns-clause-low c = let shows = shown_open c.self.inside.seconds c.self.inside.offset c.self.invariant.1 in omega (arith, signed_arith)

pub returns-clause-high : goal.returns-clause-high
returns-clause-high c = let shows = shown_open c.self.inside.seconds c.self.inside.offset c.self.invariant.1 in omega (arith, signed_arith)
