use Rattle.std.proofs.Common.{length, ◌-◌}
use Rattle.csv_cutter.specs.Stops.{Strides}
use Rattle.csv_cutter.proofs.stride.walk.Given as goal

abbrev pub invariant-strides : goal.invariant-strides
invariant-strides l = Strides l.dialect l.bytes l.last l.from l.fn.state l.at l.state

abbrev pub decreases-strides : goal.decreases-strides
decreases-strides l = length l.bytes - l.at
