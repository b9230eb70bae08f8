-- The two words of 64 bits of a number's size, and its sign.
use Rattle.std.specs.Prelude.{◌≡◌, ℕ, suc, zero, ◌+◌, ◌*◌, ◌/◌, ◌%◌, ◌^◌, ◌<◌, ℤ, pos, negsuc, unsigned_abs, Bool, true, false}
use Rattle.std.proofs.Common.{refl, ap, ◌∙◌}
use Rattle.std.proofs.lemmas.Nat.{shr_high, mod_low}
use Rattle.sql_decimal.specs.Decimal.{signed, is_negative}

-- a number in two words
abbrev pub joined : ℕ → ℕ → ℕ
joined high low = high * 2 ^ 64 + low

-- b is the sign that the number has: there is no minus zero
abbrev pub IsSignOf : Bool → ℕ → Type 0
IsSignOf b n = is_negative (signed b n) ≡ b

-- the size of a signed number
pub unsigned_abs-signed : (b : Bool) (m : ℕ) → unsigned_abs (signed b m) ≡ m
unsigned_abs-signed true zero = refl
unsigned_abs-signed true (suc m) = refl
unsigned_abs-signed false m = refl

-- a number from its sign and its size
pub signed_parts : (c : ℤ) → signed (is_negative c) (unsigned_abs c) ≡ c
signed_parts (pos n) = refl
signed_parts (negsuc n) = refl

-- its two words
pub low_word : (b : Bool) (high low : ℕ) → low < 2 ^ 64 → unsigned_abs (signed b (joined high low)) % 2 ^ 64 ≡ low
low_word b high low h = ap (λ n. n % 2 ^ 64) (unsigned_abs-signed b (joined high low)) ∙ mod_low high 64 low h

pub high_word : (b : Bool) (high low : ℕ) → low < 2 ^ 64 → unsigned_abs (signed b (joined high low)) / 2 ^ 64 ≡ high
high_word b high low h = ap (λ n. n / 2 ^ 64) (unsigned_abs-signed b (joined high low)) ∙ shr_high high 64 low h
