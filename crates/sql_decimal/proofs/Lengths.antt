-- How many digits the parts of a decimal have.
use Rattle.std.proofs.Common.{◌≡◌, ℕ, ◌+◌, ◌-◌, ◌*◌, ◌/◌, ◌%◌, ◌^◌, ◌<◌, ◌≤◌, length, arith}
use Rattle.std.specs.Fmt.{decimal}
use Rattle.std.proofs.lemmas.Fmt.{length-decimal-le_wide}
use Rattle.std.proofs.lemmas.Nat.{div_below, mod_below}
use Rattle.std.proofs.Math.Nat.{pow-le-pow_right}
use Rattle.sql_decimal.proofs.PowersOfTen.{pow_split, ten_pow_pos}

-- the whole part
pub length-whole : (n s : ℕ) → n < 10 ^ 38 → s ≤ 38 → length (decimal (n / 10 ^ s)) + s ≤ 39
length-whole n s small h =
    let split : 10 ^ 39 ≡ 10 ^ (39 - s) * 10 ^ s = pow_split (39 - s) s 39 (omega arith) in
    let below : n / 10 ^ s < 10 ^ (39 - s) = div_below n (10 ^ s) (10 ^ (39 - s)) (ten_pow_pos s) (omega arith) in
    let most : 10 ^ (39 - s) ≤ 10 ^ 39 = pow-le-pow_right {n = 10} (omega arith) {i = 39 - s} {j = 39} (omega arith) in
    let l : length (decimal (n / 10 ^ s)) ≤ 39 - s = length-decimal-le_wide (39 - s) (n / 10 ^ s) (omega arith) below (omega arith) in
    omega arith

-- the digits after the point
pub length-fraction : (n s : ℕ) → s ≤ 38 → 0 < s → length (decimal (n % 10 ^ s)) ≤ s
length-fraction n s h some =
    let below : n % 10 ^ s < 10 ^ s = mod_below n (10 ^ s) (ten_pow_pos s) in
    let most : 10 ^ s ≤ 10 ^ 38 = pow-le-pow_right {n = 10} (omega arith) {i = s} {j = 38} h in
    length-decimal-le_wide s (n % 10 ^ s) some below (omega arith)
