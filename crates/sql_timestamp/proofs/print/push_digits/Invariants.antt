use Rattle.std.proofs.Common.{◌≡◌, ◌+◌, ◌^◌, ◌<◌, ◌≤◌, ◌++◌, length}
use Rattle.sql_timestamp.specs.Printing.{fraction_digits}
use Rattle.sql_timestamp.proofs.print.push_digits.Given as goal

abbrev pub invariant-digits : goal.invariant-digits
invariant-digits l =
    (l.text.bytes ++ fraction_digits l.places l.left ≡ l.fn.text.bytes ++ fraction_digits 9 l.fn.nanosecond)
    × (l.left < 10 ^ l.places) × (l.places ≤ 9) × (length l.text.bytes + l.places ≡ length l.fn.text.bytes + 9)

abbrev pub decreases-digits : goal.decreases-digits
decreases-digits l = l.places
