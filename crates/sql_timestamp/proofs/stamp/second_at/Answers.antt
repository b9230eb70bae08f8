use Rattle.std.proofs.Common.{arith}
use Rattle.jiff_core.proofs.SignedLemmas.{signed_arith}
use Rattle.sql_timestamp.proofs.Dates.{day_between}
use Rattle.sql_timestamp.proofs.Ranges.{offset_between}
use Rattle.sql_timestamp.proofs.stamp.second_at.Goals as goal

pub overflow_mul-result : goal.overflow_mul-result
overflow_mul-result c = let days = day_between c.args.day c.requires.day in omega (arith, signed_arith)

pub overflow_add-result : goal.overflow_add-result
overflow_add-result c = let days = day_between c.args.day c.requires.day in omega (arith, signed_arith)

pub overflow_sub-result : goal.overflow_sub-result
overflow_sub-result c =
    let days = day_between c.args.day c.requires.day in
    let ends = offset_between c.args.offset c.requires.offset in
    omega (arith, signed_arith)

pub returns : goal.returns
returns c =
    let days = day_between c.args.day c.requires.day in
    let ends = offset_between c.args.offset c.requires.offset in
    omega (arith, signed_arith)
