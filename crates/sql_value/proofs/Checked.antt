-- What a checked operation on whole numbers answers.
use Rattle.std.proofs.Common.{◌≡◌, Bool, IsTrue, ℕ, ◌<◌, ◌^◌, ℤ, pos, negsuc, int_div, unsigned_abs, Option, Some, None, Ok, true, false, ◌==◌, nat_lt, refl, arith, FitsSigned, w64}
use Rattle.std.specs.Option.{SomeIff, ok_or}
use Rattle.std.specs.Int.{CanDivide, IsNonZero}
use Rattle.std.proofs.lemmas.Bool.Decides.{nat_tests}
use Rattle.sql_decimal.specs.Decimal.{is_64_bit}
use Rattle.sql_timestamp.specs.declared.fault.ValueFault.TheVariants.{IntegerOverflow}
use Rattle.sql_value.specs.Arithmetic.{int_or_overflow, unless_zero}

fits : (z : ℤ) → FitsSigned w64 z → is_64_bit z ≡ true
fits (pos n) h = let small = h.sfits in grind (arith, nat_tests)
fits (negsuc n) h = let small = h.sfits in grind (arith, nat_tests)

not_below : (n : ℕ) → (n < 2 ^ 63 → ⊥) → nat_lt n (2 ^ 63) ≡ false
not_below n h = grind (arith, nat_tests)

overflows : (z : ℤ) → (FitsSigned w64 z → ⊥) → is_64_bit z ≡ false
overflows (pos n) h = not_below n (λ small. h (record { sfits = small }))
overflows (negsuc n) h = not_below n (λ small. h (record { sfits = small }))

not_true : (b : Bool) → (IsTrue b → ⊥) → b ≡ false
not_true true h = absurd (h refl)
not_true false h = refl

pub is_within : (z : ℤ) → FitsSigned w64 z → Ok z ≡ int_or_overflow z
is_within z h = rw (fits z h) refl

pub checked_is : (z : ℤ) (answer : Option ℤ) → SomeIff answer (FitsSigned w64 z) z → ok_or answer IntegerOverflow ≡ int_or_overflow z
checked_is z None h = rw (overflows z h) refl
checked_is z (Some x) h = rw (fits z h.0, h.1) refl

nonzero : (y : ℤ) → FitsSigned w64 y → (unsigned_abs y == 0) ≡ false → IsNonZero w64 y
nonzero (pos n) f h = grind (arith, nat_tests)
nonzero (negsuc n) f h = let small = f.sfits in grind (arith, nat_tests)

pub checked_quotient : (x y : ℤ) (answer : Option ℤ) → FitsSigned w64 y → (unsigned_abs y == 0) ≡ false → SomeIff answer (CanDivide w64 x y) (int_div x y)
    → ok_or answer IntegerOverflow ≡ unless_zero y (int_or_overflow (int_div x y))
checked_quotient x y None small h e = rw (h, overflows (int_div x y) (λ f. e (nonzero y small h, f))) refl
checked_quotient x y (Some q) small h e = rw (h, fits (int_div x y) e.0.1, e.1) refl

-- a decimal's whole number, if it is within 64 bits
pub whole_is : (z : ℤ) (answer : Option ℤ) → SomeIff answer (IsTrue (is_64_bit z)) z → ok_or answer IntegerOverflow ≡ int_or_overflow z
whole_is z None h = rw (not_true (is_64_bit z) h) refl
whole_is z (Some x) h = rw (h.0, h.1) refl
