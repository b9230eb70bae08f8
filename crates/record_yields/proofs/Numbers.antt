-- A number of 64 bits is short in print.
use Rattle.std.proofs.Common.{◌<◌, ◌≤◌, ◌^◌, ℕ, length, arith}
use Rattle.std.specs.Fmt.{decimal}
use Rattle.std.proofs.lemmas.Fmt.{length-decimal-le}

pub short_decimal : (n : ℕ) → n < 2 ^ 64 → length (decimal n) ≤ 40
short_decimal n small = length-decimal-le 40 n (omega arith) (omega arith) small
