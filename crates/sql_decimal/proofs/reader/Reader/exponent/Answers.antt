use Rattle.std.proofs.Common.{arith, ap, ◌∙◌}
use Rattle.sql_decimal.specs.Resume.{resume, Takes}
use Rattle.sql_decimal.specs.Reading.{with_digit, in_exponent}
use Rattle.sql_decimal.proofs.OutOfRange.{in_exponent-min}
use Rattle.sql_decimal.proofs.reader.Reader.exponent.Goals as goal

pub returns-in-Some-clause-takes : goal.returns-in-Some-clause-takes
unfolding resume Takes
returns-in-Some-clause-takes c =
    let s = c.args.self.now in
    let digit = c.in-Some.ensures.value.1 in
    let pushed = c.push_exponent-self.ensures in
    λ rest. rw (c.requires.place, c.in-Some.ensures.value.0) (
    in_exponent-min s.negative s.mantissa s.places s.exponent_negative (with_digit s.exponent c.args.c) rest c.requires.places
    ∙ ap (λ e. in_exponent s.negative s.mantissa s.places s.exponent_negative e rest) (omega (arith, digit, pushed)))
