-- What `parse` gives of a text, and the whole number of the text.
use Rattle.std.specs.Prelude.{◌≡◌, ◌≢◌, ℕ, ◌^◌, ◌<◌, Bool, true, false, nat_lt, ◌&&◌, List, [], ◌∷◌, length, Some, None, Ok, Err, if◌then◌else◌, refl}
use Rattle.std.proofs.lemmas.Bool.Decides.{nat_tests}
use Rattle.std.proofs.Common.{arith, get_or}
use Rattle.std.specs.Str.{all_ascii_digits}
use Rattle.std.specs.Str.Parse.{IsNumeral, without_leading_plus, digits_value}
use Rattle.std.specs.Result.{OkIff}
use Rattle.std.proofs.lemmas.Str.Parse.{IsNumeralModel, numerals_by_value, tells_all_ascii_digits, parse_plain}
use Rattle.select_request.specs.Values.{whole_number_of}

pub own : IsNumeralModel (λ ds. all_ascii_digits ds ≡ true) (digits_value 10)
own = numerals_by_value _ tells_all_ascii_digits

-- a plus is no digit
pub plus_is_none : (text : List ℕ) → get_or text 0 0 ≡ 43 → whole_number_of text ≡ None
unfolding whole_number_of
plus_is_none [] h = refl
plus_is_none (b ∷ bytes) h = rw h refl

read_ok : (text : List ℕ) (n : ℕ) → (all_ascii_digits text ≡ true) × (0 < length text) × (digits_value 10 text < 2 ^ 64) → n ≡ digits_value 10 text
    → whole_number_of text ≡ (if nat_lt n (2 ^ 63) then Some n else None)
unfolding whole_number_of
read_ok [] n h e = absurd (omega arith)
read_ok (b ∷ bytes) n h e = rw (h.0, e) refl

not_below : (v : ℕ) → (v < 2 ^ 64 → ⊥) → nat_lt v (2 ^ 63) ≡ false
not_below v h = grind (arith, nat_tests)

none_above : (t : Bool) (v : ℕ) → (t ≡ true → v < 2 ^ 64 → ⊥) → (if t && nat_lt v (2 ^ 63) then Some v else None) ≡ None
none_above false v h = refl
none_above true v h =
    let above : nat_lt v (2 ^ 63) ≡ false = not_below v (h refl) in rw above refl

read_err : (text : List ℕ) → ((all_ascii_digits text ≡ true) × (0 < length text) × (digits_value 10 text < 2 ^ 64) → ⊥) → whole_number_of text ≡ None
unfolding whole_number_of
read_err [] h = refl
read_err (b ∷ bytes) h = none_above (all_ascii_digits (b ∷ bytes)) (digits_value 10 (b ∷ bytes)) (λ t v. h (t, omega arith, v))

-- a text that is read is a numeral of at most 64 bits, and one that isn't read is none
pub read_ok_plain : (text : List ℕ) (n : ℕ) → OkIff {E = Unit {0}} (Ok n) (IsNumeral 10 (without_leading_plus text) × (digits_value 10 (without_leading_plus text) < 2 ^ 64)) (digits_value 10 (without_leading_plus text))
    → get_or text 0 0 ≢ 43 → whole_number_of text ≡ (if nat_lt n (2 ^ 63) then Some n else None)
read_ok_plain text n h plain = let p = parse_plain own {E = Unit {0}} 64 text (Ok n) h plain in read_ok text n p.0 p.1

pub read_err_plain : (text : List ℕ) → ¬ (IsNumeral 10 (without_leading_plus text) × (digits_value 10 (without_leading_plus text) < 2 ^ 64))
    → get_or text 0 0 ≢ 43 → whole_number_of text ≡ None
read_err_plain text h plain = read_err text (parse_plain own {E = Unit {0}} 64 text (Err tt) h plain)
