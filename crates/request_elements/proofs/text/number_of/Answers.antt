-- There is room for each digit.
use Rattle.std.proofs.Common.{◌+◌, ◌*◌, ◌<◌, ◌∙◌, length, ap, arith, refl, w32}
use Rattle.std.proofs.Math.Facts.{Fits-of_lt}
use Rattle.std.specs.Char.{digit_value}
use Rattle.request_elements.proofs.TextLaws.{few_digits, digit_room, digit_goes_on, digits_fit}
use Rattle.request_elements.proofs.text.number_of.Goals as goal

pub digits-init : goal.digits-init
digits-init c = record { reads = refl; room = few_digits (length c.args.digits.now) c.requires.few }

pub overflow_mul-number : goal.overflow_mul-number
overflow_mul-number c =
    let l : c.in-Some-to_digit.value < c.args.base = rw c.in-Some-to_digit.ensures.value.1 c.in-Some-to_digit.ensures.value.0 in
    let r = digit_room c.digits.number c.args.base c.in-Some-to_digit.value c.in-Some.digit.now c.in-Some.rest.now c.digits.left.now c.in-Some.ensures.cases.0 c.requires.high l c.digits.invariant.room in
    let f = digits_fit (c.digits.number * c.args.base + c.in-Some-to_digit.value) (length c.in-Some.rest.now) r in
    Fits-of_lt {w = w32} (omega arith)

pub overflow_add-number : goal.overflow_add-number
overflow_add-number c =
    let l : c.in-Some-to_digit.value < c.args.base = rw c.in-Some-to_digit.ensures.value.1 c.in-Some-to_digit.ensures.value.0 in
    let r = digit_room c.digits.number c.args.base c.in-Some-to_digit.value c.in-Some.digit.now c.in-Some.rest.now c.digits.left.now c.in-Some.ensures.cases.0 c.requires.high l c.digits.invariant.room in
    let f = digits_fit (c.digits.number * c.args.base + c.in-Some-to_digit.value) (length c.in-Some.rest.now) r in
    Fits-of_lt {w = w32} (omega arith)

pub digits-preserved : goal.digits-preserved
digits-preserved c =
    let d : digit_value c.in-Some.digit.now < c.args.base = rw (← c.from.ensures) c.in-Some-to_digit.ensures.value.0 in
    let v = c.in-Some-to_digit.ensures.value.1 ∙ ap digit_value c.from.ensures in
    let l : c.in-Some-to_digit.value < c.args.base = rw c.in-Some-to_digit.ensures.value.1 c.in-Some-to_digit.ensures.value.0 in
    record {
      reads = c.digits.invariant.reads ∙ digit_goes_on c.args.base c.digits.number c.in-Some-to_digit.value c.in-Some.digit.now c.in-Some.rest.now c.digits.left.now c.in-Some.ensures.cases.0 d v;
      room = digit_room c.digits.number c.args.base c.in-Some-to_digit.value c.in-Some.digit.now c.in-Some.rest.now c.digits.left.now c.in-Some.ensures.cases.0 c.requires.high l c.digits.invariant.room;
    }
