use Rattle.std.proofs.Common.{arith, sym, ◌∙◌}
use Rattle.sql_timestamp.proofs.ReadSteps.{fraction_taken}
use Rattle.sql_timestamp.proofs.read.+read_fraction.Goals as goal

pub returns-then-is_ascii_digit : goal.returns-then-is_ascii_digit
returns-then-is_ascii_digit t c =
    c.read_fraction.ensures
    ∙ fraction_taken c.args.day.number c.args.second c.args.nanosecond c.args.places c.digit_nanos-value.result c.args.rest.now (omega arith) c.in-len1-up.len_at_least
    (sym c.if-is_ascii_digit.ensures.value) c.digit_nanos-value.ensures.value
