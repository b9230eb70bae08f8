-- The digits still to write, and then those that stand, are the number's.
use Rattle.std.proofs.Common.{◌≡◌, ◌≤◌, ◌++◌, map, length}
use Rattle.std.specs.Prelude.{slice_range}
use Rattle.std.specs.Char.{digit_char}
use Rattle.std.specs.Int.Digits.{digits_of}
use Rattle.http_replies.proofs.hex.Hex.of.Given as goal

abbrev pub invariant-loop-left : goal.invariant-loop-left
invariant-loop-left l =
    (map digit_char (digits_of 16 l.left) ++ slice_range l.bytes l.start 16 ≡ map digit_char (digits_of 16 l.n))
    × (length (digits_of 16 l.left) ≤ l.start)
    × (l.start ≤ 16)
    × (length l.bytes ≡ 16)

abbrev pub decreases-loop-left : goal.decreases-loop-left
decreases-loop-left l = l.left
