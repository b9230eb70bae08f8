use Rattle.std.proofs.Common.{arith, ap, ◌∙◌, ◌++◌, length}
use Rattle.sql_timestamp.proofs.Printed.{digits_end, digits_more, digit_below}
use Rattle.sql_timestamp.proofs.print.push_digits.Goals as goal

pub nonzero_div-left : goal.nonzero_div-left
nonzero_div-left c = (digit_below c.digits.places c.digits.left c.weight-unit.result c.digits-test.true c.digits.invariant.1 c.weight-unit.ensures.value).3

pub overflow_cast-left : goal.overflow_cast-left
overflow_cast-left c = let low = (digit_below c.digits.places c.digits.left c.weight-unit.result c.digits-test.true c.digits.invariant.1 c.weight-unit.ensures.value).0 in omega arith

pub digit_text-requires : goal.digit_text-requires
digit_text-requires c = (digit_below c.digits.places c.digits.left c.weight-unit.result c.digits-test.true c.digits.invariant.1 c.weight-unit.ensures.value).0

pub nonzero_rem-left : goal.nonzero_rem-left
nonzero_rem-left c = (digit_below c.digits.places c.digits.left c.weight-unit.result c.digits-test.true c.digits.invariant.1 c.weight-unit.ensures.value).3

pub digits-preserved : goal.digits-preserved
digits-preserved c =
    let below = digit_below c.digits.places c.digits.left c.weight-unit.result c.digits-test.true c.digits.invariant.1 c.weight-unit.ensures.value in (
      digits_more c.digits.text.bytes c.push_str.new.self.bytes _ c.digits.places c.digits.left c.weight-unit.result c.digits-test.true c.digits.invariant.1 c.weight-unit.ensures.value
          (c.push_str.ensures.bytes ∙ ap (λ l. c.digits.text.bytes ++ l) c.digit_text.ensures) c.digits.invariant.0,
      below.1,
      omega arith,
      omega (arith, below.2, c.push_str.ensures.len, ap length c.digit_text.ensures, c.digits.invariant.3),
    )

pub returns-clause-bytes : goal.returns-clause-bytes
returns-clause-bytes c = digits_end c.digits.text.bytes _ c.digits.places c.digits.left c.digits-test.false c.digits.invariant.0
