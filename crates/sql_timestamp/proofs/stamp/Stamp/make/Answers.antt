use Rattle.std.proofs.Common.{sym}
use Rattle.std.specs.Int.{w128}
use Rattle.sql_timestamp.proofs.Ranges.{far_none, kept}
use Rattle.sql_timestamp.proofs.stamp.Stamp.make.Goals as goal

pub returns-in_default : goal.returns-in_default
returns-in_default c = sym (far_none c.args.instant _ c.args.offset (kept w128 c.args.instant c.ranges.instant) c.in_default.ensures.far)
