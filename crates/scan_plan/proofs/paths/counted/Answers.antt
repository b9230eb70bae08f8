use Rattle.std.proofs.Common.{sym, arith}
use Rattle.scan_plan.proofs.Digits.{counted_nothing}
use Rattle.scan_plan.proofs.paths.counted.Goals as goal

pub returns-in_default : goal.returns-in_default
returns-in_default c = sym (counted_nothing c.args.most c.args.digits.now (omega (arith, c.in_default.len_below)))
