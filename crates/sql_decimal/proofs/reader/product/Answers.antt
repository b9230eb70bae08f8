use Rattle.std.proofs.Common.{arith}
use Rattle.sql_decimal.proofs.OutOfRange.{product-far}
use Rattle.sql_decimal.proofs.reader.product.Goals as goal

pub returns-in-Err : goal.returns-in-Err
returns-in-Err c = product-far c.args.coeff c.args.by (omega (arith, c.in-Err.ensures)) c.requires.nonzero
