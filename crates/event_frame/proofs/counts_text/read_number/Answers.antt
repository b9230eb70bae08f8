use Rattle.std.proofs.Common.{◌≡◌, ◌+◌, ◌*◌, ◌^◌, ◌<◌, refl, arith}
use Rattle.event_frame.proofs.CountsLaws.{left_early, read-start, read-more, no_number-large, spells-number}
use Rattle.event_frame.proofs.counts_text.read_number.Goals as goal

pub loop-digit-init : goal.loop-digit-init
loop-digit-init c = read-start _

pub returns-in_err-tens : goal.returns-in_err-tens
returns-in_err-tens c =
    let over : c.loop-digit.number * 10 < 2 ^ 128 → ⊥ = c.in_err-tens.ensures in
    left_early _ _ _ c.from_residual.ensures
    (no_number-large _ c.loop-digit.at c.loop-digit.number c.in-Some.digit c.loop-digit.invariant c.in-Some.ensures (omega arith))

pub returns-in_err-number : goal.returns-in_err-number
returns-in_err-number c =
    let tens : c.in_ok-tens.tens ≡ c.loop-digit.number * 10 = c.in_ok-tens.ensures.1 in
    let over : c.in_ok-tens.tens + c.from.result < 2 ^ 128 → ⊥ = c.in_err-number.ensures in
    let digit : c.from.result ≡ c.in-Some.digit = c.from.ensures in
    left_early _ _ _ c.from_residual-in_err-number.ensures
    (no_number-large _ c.loop-digit.at c.loop-digit.number c.in-Some.digit c.loop-digit.invariant c.in-Some.ensures (omega arith))

pub loop-digit-preserved : goal.loop-digit-preserved
loop-digit-preserved c =
    let tens : c.in_ok-tens.tens ≡ c.loop-digit.number * 10 = c.in_ok-tens.ensures.1 in
    let digit : c.from.result ≡ c.in-Some.digit = c.from.ensures in
    let next : c.in_ok-number.number ≡ c.in_ok-tens.tens + c.from.result = c.in_ok-number.ensures.1 in
    read-more _ c.loop-digit.at c.loop-digit.number c.in-Some.digit c.in_ok-number.number c.loop-digit.invariant c.in-Some.ensures (omega arith)
    (let fits : c.in_ok-tens.tens + c.from.result < 2 ^ 128 = c.in_ok-number.ensures.0 in omega arith)

pub returns : goal.returns
returns c = spells-number _ _ c.loop-digit.at c.loop-digit.number c.loop-digit.invariant c.if-at-eq0.false c.in_default.ensures refl
