use Rattle.std.proofs.Common.{◌/◌, ◌%◌, ap, ◌∙◌}
use Rattle.sql_decimal.proofs.Lengths.{length-whole, length-fraction}
use Rattle.sql_decimal.proofs.print.parts.Goals as goal

pub returns : goal.returns
returns c =
    let power = c.power_of_ten.ensures.value in
    let whole = c.div_rem.ensures.quotient ∙ ap (λ p. c.args.magnitude / p) power in
    let fraction = c.div_rem.ensures.remainder ∙ ap (λ p. c.args.magnitude % p) power in
    record {
      whole = whole;
      fraction = fraction;
      whole_length = rw whole (length-whole _ _ c.requires.digits c.requires.scale);
      fraction_length = λ some. rw fraction (length-fraction _ _ c.requires.scale some);
    }
