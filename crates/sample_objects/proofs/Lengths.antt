-- The length of a short number's text.
use Rattle.std.proofs.Common.{◌≡◌, ℕ, ◌+◌, ◌<◌, ◌≤◌, List, length, arith}
use Rattle.std.specs.Prelude.{decimal}
use Rattle.std.proofs.lemmas.Fmt.{length-decimal-le}

pub seven_digits : (n : ℕ) (text : List ℕ) → text ≡ decimal n → n < 10000000 → length text ≤ 7
seven_digits n text is small = rw is (length-decimal-le 7 n (omega arith) (omega arith) (omega arith))

pub still_fits : (old added : ℕ) → old + 7 ≤ 65536 → added ≤ 7 → old + added ≤ 65536
still_fits old added room few = omega arith
