use Rattle.std.proofs.Common.{arith, w16, w64, to_z, of_z, ap, ◌∙◌}
use Rattle.jiff_core.proofs.SignedLemmas.{signed_arith}
use Rattle.sql_timestamp.specs.Instants.{timestamp_of}
use Rattle.sql_timestamp.proofs.Dates.{day_between}
use Rattle.sql_timestamp.proofs.Ranges.{offset_between, at_joined, at_shows, kept}
use Rattle.sql_timestamp.proofs.stamp.Stamp.at.Goals as goal

pub invariant_of-result : goal.invariant_of-result
invariant_of-result c = (
  c.requires.nanosecond,
  let days = day_between c.args.day c.requires.day in
      let ends = offset_between c.args.offset c.requires.offset in
      at_shows c.args.day _ c.args.offset _ c.args.second c.requires.day c.requires.second c.requires.offset (kept w16 c.args.offset c.ranges.offset) (omega (arith, signed_arith)),
)

pub returns : goal.returns
returns c =
    let days = day_between c.args.day c.requires.day in
    let ends = offset_between c.args.offset c.requires.offset in
    ap (timestamp_of _) (kept w16 c.args.offset c.ranges.offset)
    ∙ at_joined c.args.day (to_z w64 (of_z w64 c.second_at.result)) c.args.offset c.args.second c.args.nanosecond (omega (arith, signed_arith))
