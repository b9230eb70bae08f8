use Rattle.std.proofs.Common.{◌≡◌, arith, min, pos, refl, ◌∙◌, to_z, of_z, w16, w64}
use Rattle.jiff_core.specs.Calendar.{days_from_civil, days_in_month}
use Rattle.jiff_core.specs.Date.{epoch_day}
use Rattle.jiff_core.proofs.SignedLemmas.{signed_arith, signed_casts}
use Rattle.sql_timestamp.proofs.Dates.{date_open, date_is_day}
use Rattle.sql_timestamp.proofs.read.day_of.Goals as goal

pub overflow_cast-year : goal.overflow_cast-year
overflow_cast-year c = let open_date = date_open c.args.year c.args.month c.args.day c.requires in let high = open_date.year_high in omega (arith, signed_arith)

pub constrain-requires-clause-year_in : goal.constrain-requires-clause-year_in
constrain-requires-clause-year_in c = let open_date = date_open c.args.year c.args.month c.args.day c.requires in let high = open_date.year_high in omega (arith, signed_casts)

pub constrain-requires-clause-month_in : goal.constrain-requires-clause-month_in
constrain-requires-clause-month_in c = let open_date = date_open c.args.year c.args.month c.args.day c.requires in (open_date.month_low, open_date.month_high)

pub constrain-requires-clause-day_in : goal.constrain-requires-clause-day_in
constrain-requires-clause-day_in c = (date_open c.args.year c.args.month c.args.day c.requires).day_low

pub returns : goal.returns
returns c =
    let bound = c.to_unix_epoch_day.ensures.bound in
    let value = c.to_unix_epoch_day.ensures.value in
    let passed : to_z w64 (of_z w64 c.from.result) ≡ epoch_day c.constrain.result = omega (arith, signed_arith) in
    let open_date = date_open c.args.year c.args.month c.args.day c.requires in
    let low = open_date.year_low in
    let high = open_date.year_high in
    let named : to_z w16 c.args.year ≡ pos c.args.year = omega (arith, signed_casts) in
    let last = open_date.day_high in
    let cut : c.constrain.result.day ≡ min c.args.day (days_in_month (pos c.args.year) c.args.month) = rw named at c.constrain.ensures.day in
    let day : c.constrain.result.day ≡ c.args.day = omega arith in
    let year : c.constrain.result.year ≡ pos c.args.year = c.constrain.ensures.year ∙ named in
    let same : epoch_day c.constrain.result ≡ days_from_civil (pos c.args.year) c.args.month c.args.day = rw (year, c.constrain.ensures.month, day) refl in
    passed ∙ same

pub invariant_of-result : goal.invariant_of-result
invariant_of-result c =
    let bound = c.to_unix_epoch_day.ensures.bound in
    let value = c.to_unix_epoch_day.ensures.value in
    let passed : to_z w64 (of_z w64 c.from.result) ≡ epoch_day c.constrain.result = omega (arith, signed_arith) in
    let open_date = date_open c.args.year c.args.month c.args.day c.requires in
    let low = open_date.year_low in
    let high = open_date.year_high in
    let named : to_z w16 c.args.year ≡ pos c.args.year = omega (arith, signed_casts) in
    let year : c.constrain.result.year ≡ pos c.args.year = c.constrain.ensures.year ∙ named in
    record { in_range = rw passed (date_is_day c.constrain.result (omega (arith, signed_arith)) (omega (arith, signed_arith))) }
