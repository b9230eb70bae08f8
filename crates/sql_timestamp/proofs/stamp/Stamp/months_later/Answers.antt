use Rattle.std.proofs.Common.{◌≡◌, arith, ap, refl, ◌∙◌, ◌+ℤ◌, ◌*ℤ◌, to_z, of_z, w16, w64, FitsSigned, true, Ok}
use Rattle.jiff_core.proofs.SignedLemmas.{signed_arith}
use Rattle.sql_timestamp.specs.Instants.{local_day, is_day}
use Rattle.sql_timestamp.specs.Parts.{month_number}
use Rattle.sql_timestamp.proofs.Dates.{day_between}
use Rattle.sql_timestamp.proofs.Ranges.{kept}
use Rattle.sql_timestamp.proofs.Moves.{no_month, some_month, number_between, far_month, far_product, number_is}
use Rattle.sql_timestamp.proofs.stamp.Stamp.months_later.Goals as goal

pub returns-in_default : goal.returns-in_default
returns-in_default c =
    let day : is_day (local_day c.args.self.now) ≡ true = rw c.shown-shown.ensures.day at c.shown-shown.ensures.year in
    let b = number_between (local_day c.args.self.now) day in
    let lost = rw (kept w64 c.args.n c.ranges.n, kept w64 c.args.unit c.ranges.unit) at c.in_default.ensures in
    no_month c.args.self.now (c.args.n *ℤ c.args.unit) (month_number (local_day c.args.self.now) +ℤ c.args.n *ℤ c.args.unit) refl
    (far_product (month_number (local_day c.args.self.now)) (c.args.n *ℤ c.args.unit) b.0 b.1 lost)

pub returns-in_default-checked_add : goal.returns-in_default-checked_add
returns-in_default-checked_add c =
    let day : is_day (local_day c.args.self.now) ≡ true = rw c.shown-shown.ensures.day at c.shown-shown.ensures.year in
    let b = number_between (local_day c.args.self.now) day in
    let first : c.month_number-first.result ≡ month_number (local_day c.args.self.now) =
    number_is (local_day c.args.self.now) c.date-date.result.year c.month_number-first.result c.date-date.result.month c.date-date.ensures.year c.date-date.ensures.month c.month_number-first.ensures.value in
    let small : FitsSigned w64 c.month_number-first.result = omega (arith, signed_arith) in
    let product : c.in-Some.more ≡ c.args.n *ℤ c.args.unit = rw (kept w64 c.args.n c.ranges.n, kept w64 c.args.unit c.ranges.unit) at c.in-Some.ensures.1 in
    let fits : FitsSigned w64 c.in-Some.more = rw c.in-Some.ensures.1 c.in-Some.ensures.0 in
    no_month c.args.self.now (c.args.n *ℤ c.args.unit) (month_number (local_day c.args.self.now) +ℤ c.args.n *ℤ c.args.unit) refl
    (far_month (month_number (local_day c.args.self.now)) (to_z w64 (of_z w64 c.month_number-first.result)) (c.args.n *ℤ c.args.unit) (to_z w64 (of_z w64 c.in-Some.more))
    (kept w64 c.month_number-first.result small ∙ first) (kept w64 c.in-Some.more fits ∙ product) b.0 b.1 c.in_default-checked_add.ensures)

pub returns-in_default-month_at : goal.returns-in_default-month_at
returns-in_default-month_at c =
    let day : is_day (local_day c.args.self.now) ≡ true = rw c.shown-shown.ensures.day at c.shown-shown.ensures.year in
    let b = number_between (local_day c.args.self.now) day in
    let first : c.month_number-first.result ≡ month_number (local_day c.args.self.now) =
    number_is (local_day c.args.self.now) c.date-date.result.year c.month_number-first.result c.date-date.result.month c.date-date.ensures.year c.date-date.ensures.month c.month_number-first.ensures.value in
    let small : FitsSigned w64 c.month_number-first.result = omega (arith, signed_arith) in
    let product : c.in-Some.more ≡ c.args.n *ℤ c.args.unit = rw (kept w64 c.args.n c.ranges.n, kept w64 c.args.unit c.ranges.unit) at c.in-Some.ensures.1 in
    let fits : FitsSigned w64 c.in-Some.more = rw c.in-Some.ensures.1 c.in-Some.ensures.0 in
    let sum = c.in-Some-checked_add.ensures in
    let total : FitsSigned w64 c.in-Some-checked_add.number = rw sum.1 sum.0 in
    let number : to_z w64 (of_z w64 c.in-Some-checked_add.number) ≡ month_number (local_day c.args.self.now) +ℤ c.args.n *ℤ c.args.unit =
    kept w64 c.in-Some-checked_add.number total ∙ (rw (kept w64 c.month_number-first.result small, kept w64 c.in-Some.more fits, first, product) at sum.1) in
    no_month c.args.self.now (c.args.n *ℤ c.args.unit) (to_z w64 (of_z w64 c.in-Some-checked_add.number)) number c.in_default-month_at.ensures

pub returns : goal.returns
returns c =
    let day : is_day (local_day c.args.self.now) ≡ true = rw c.shown-shown.ensures.day at c.shown-shown.ensures.year in
    let b = number_between (local_day c.args.self.now) day in
    let first : c.month_number-first.result ≡ month_number (local_day c.args.self.now) =
    number_is (local_day c.args.self.now) c.date-date.result.year c.month_number-first.result c.date-date.result.month c.date-date.ensures.year c.date-date.ensures.month c.month_number-first.ensures.value in
    let small : FitsSigned w64 c.month_number-first.result = omega (arith, signed_arith) in
    let product : c.in-Some.more ≡ c.args.n *ℤ c.args.unit = rw (kept w64 c.args.n c.ranges.n, kept w64 c.args.unit c.ranges.unit) at c.in-Some.ensures.1 in
    let fits : FitsSigned w64 c.in-Some.more = rw c.in-Some.ensures.1 c.in-Some.ensures.0 in
    let sum = c.in-Some-checked_add.ensures in
    let total : FitsSigned w64 c.in-Some-checked_add.number = rw sum.1 sum.0 in
    let number : to_z w64 (of_z w64 c.in-Some-checked_add.number) ≡ month_number (local_day c.args.self.now) +ℤ c.args.n *ℤ c.args.unit =
    kept w64 c.in-Some-checked_add.number total ∙ (rw (kept w64 c.month_number-first.result small, kept w64 c.in-Some.more fits, first, product) at sum.1) in
    let days = day_between c.day_in-day.result c.day_in-day.ensures.year in
    let low = c.offset.ensures.low in
    let high = c.offset.ensures.high in
    let passed : FitsSigned w64 c.day_in-day.result = omega (arith, signed_arith) in
    let short : FitsSigned w16 c.offset.result = omega (arith, signed_arith) in
    ap Ok c.at.ensures
    ∙ some_month c.args.self.now (c.args.n *ℤ c.args.unit) (to_z w64 (of_z w64 c.in-Some-checked_add.number)) c.in-Some-month_at.month.year (to_z w64 (of_z w64 c.day_in-day.result))
    (to_z w16 (of_z w16 c.offset.result)) c.in-Some-month_at.month.month c.date-date.result.day _ number c.in-Some-month_at.ensures c.date-date.ensures.day
    (kept w64 c.day_in-day.result passed ∙ c.day_in-day.ensures.value) c.shown-shown.ensures.time (kept w16 c.offset.result short ∙ c.offset.ensures.value)
