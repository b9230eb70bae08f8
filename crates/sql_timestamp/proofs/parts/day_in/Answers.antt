use Rattle.std.proofs.Common.{◌≡◌, arith, to_z, of_z, w64}
use Rattle.jiff_core.specs.Date.{epoch_day}
use Rattle.jiff_core.proofs.SignedLemmas.{signed_arith}
use Rattle.sql_timestamp.proofs.Dates.{date_is_day}
use Rattle.sql_timestamp.proofs.parts.day_in.Goals as goal

pub returns-clause-year : goal.returns-clause-year
returns-clause-year c =
    let bound = c.to_unix_epoch_day.ensures.bound in
    let low = c.requires.low in
    let high = c.requires.high in
    let year = c.constrain.ensures.year in
    let value = c.to_unix_epoch_day.ensures.value in
    let same : to_z w64 (of_z w64 c.from.result) ≡ epoch_day c.constrain.result = omega (arith, signed_arith) in
    rw same (date_is_day c.constrain.result (omega (arith, signed_arith)) (omega (arith, signed_arith)))
