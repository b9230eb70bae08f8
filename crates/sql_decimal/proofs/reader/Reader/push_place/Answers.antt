use Rattle.std.proofs.Common.{arith, ap, ◌+◌}
use Rattle.sql_decimal.specs.Resume.{resume}
use Rattle.sql_decimal.specs.Reading.{with_digit, in_fraction}
use Rattle.sql_decimal.proofs.OutOfRange.{in_fraction-over}
use Rattle.sql_decimal.proofs.reader.Reader.push_place.Goals as goal

pub returns-in_default-push_digit-clause-takes : goal.returns-in_default-push_digit-clause-takes
returns-in_default-push_digit-clause-takes c =
    let digit = c.in-Some.ensures.value.1 in
    let over = c.in_default-push_digit.ensures in
    λ is_digit rest. in_fraction-over c.args.self.now.negative (with_digit c.args.self.now.mantissa c.args.c) (c.args.self.now.places + 1) rest (omega (arith, over, digit))

pub returns-clause-takes : goal.returns-clause-takes
unfolding resume
returns-clause-takes c =
    let digit = c.in-Some.ensures.value.1 in
    let pushed = c.in-Some-push_digit.ensures.1 in
    λ is_digit rest. ap (λ m. in_fraction c.args.self.now.negative m (c.args.self.now.places + 1) rest) (omega (arith, digit, pushed))
