use Rattle.std.proofs.Common.{◌≡◌, ◌-◌, ◌++◌, length, replicate}
use Rattle.sql_decimal.specs.Printing.{digit_zero}
use Rattle.sql_decimal.proofs.print.push_padded.Given as goal

abbrev pub invariant-zeros : goal.invariant-zeros
invariant-zeros l = l.text.bytes ≡ l.fn.text.bytes ++ replicate (l._place - length l.digits) digit_zero
