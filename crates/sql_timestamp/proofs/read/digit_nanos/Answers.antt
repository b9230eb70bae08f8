use Rattle.std.proofs.Common.{arith}
use Rattle.sql_timestamp.proofs.ReadSteps.{room, digit_most}
use Rattle.sql_timestamp.proofs.read.digit_nanos.Goals as goal

pub returns-clause-room : goal.returns-clause-room
returns-clause-room c = rw c.weight.ensures.value (room c.from.result c.args.places (omega (arith, digit_most c.args.digit c.requires.digit)))
