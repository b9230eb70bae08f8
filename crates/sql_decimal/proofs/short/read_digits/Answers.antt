use Rattle.std.proofs.Common.{arith, sym, get_or}
use Rattle.sql_decimal.proofs.ReadingBytes.{digits_more, pushed_digit, digit_high}
use Rattle.sql_decimal.proofs.short.read_digits.Goals as goal

pub loop-end-preserved : goal.loop-end-preserved
loop-end-preserved c =
    let digit = sym c.if-is_ascii_digit.ensures.value in (
      omega (arith, c.from.ensures, digit_high (get_or c.args.bytes.now c.loop-end.end 0) digit),
      omega arith,
      omega arith,
      digits_more c.args.bytes.now c.args.from c.args.value c.loop-end.end c.loop-end.all _ c.loop-end.invariant.3 (omega arith) c.loop-end-test.true
          digit (pushed_digit c.loop-end.all (get_or c.args.bytes.now c.loop-end.end 0) c.from.result digit c.from.ensures),
    )
