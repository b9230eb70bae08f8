use Rattle.std.proofs.Common.{arith}
use Rattle.sample_objects.proofs.Lengths.{seven_digits, still_fits}
use Rattle.sample_objects.proofs.lines.put_number.Goals as goal

pub push_str-requires : goal.push_str-requires
push_str-requires c =
    (omega arith, still_fits _ _ c.requires.room (seven_digits c.args.number _ c.format.ensures.text c.requires.small))

pub returns-clause-len : goal.returns-clause-len
returns-clause-len c = omega (arith, c.push_str.ensures.len, seven_digits c.args.number _ c.format.ensures.text c.requires.small)
