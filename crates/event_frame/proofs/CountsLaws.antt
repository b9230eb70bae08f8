-- Numbers and texts in front of others.
use Rattle.std.proofs.Common.{◌≡◌, ℕ, ◌+◌, ◌-◌, ◌*◌, ◌^◌, ◌<◌, ◌≤◌, List, ◌∷◌, ◌++◌, length, get_or, take, drop, true, false, Option, None, MatchOption, refl, sym, ap, subst, ◌∙◌, arith, length-take, length-drop}
use Rattle.std.proofs.Math.Seq.{take-append_seam}
use Rattle.std.proofs.lemmas.List.{take-append-drop, take-append-le, take_all, get_or-drop, get_or-take}
use Rattle.std.proofs.Math.Seq.{get_or-append_seam}
use borrow.Author.Count.{below_more}
use Rattle.std.proofs.lemmas.Bool.Decides.{nat_tests}
use Rattle.std.proofs.lemmas.Int.Digits.{digits_value_more}
use Rattle.std.proofs.lemmas.Str.Parse.{digits_value-take-le}
use Rattle.std.specs.Char.{is_ascii_digit, digit_value}
use Rattle.std.specs.Str.Parse.{digits_value}
use Rattle.event_frame.specs.CountsParts.{IsDigitAt, LacksFront, HasNoNumber, SpellsNumber}

-- an early `None`
pub left_early : {A : Type 0} (r : Option A) (P : Type 0) (Q : A → Type 0) → r ≡ None → P → MatchOption r P Q
left_early r P Q e p = subst (λ o. MatchOption o P Q) (sym e) p

-- the bytes up to a place are digits of the number
pub record ReadUpTo (bytes : List ℕ) (at number : ℕ) : Type 0 where
  pub within : at ≤ length bytes
  pub digits : (k : ℕ) → k < at → is_ascii_digit (get_or bytes k 0) ≡ true
  pub value : digits_value 10 (take at bytes) ≡ number
  pub fits : number < 2 ^ 128

pub read-start : (bytes : List ℕ) → ReadUpTo bytes 0 0
read-start bytes = record { within = omega arith; digits = λ k h. absurd (omega arith); value = refl; fits = omega arith }

-- a digit's value
digit_value-digit : (c : ℕ) → is_ascii_digit c ≡ true → digit_value c ≡ c - 48
digit_value-digit c e = grind (arith, nat_tests)

-- one digit more
value_more : (bytes : List ℕ) (at number digit : ℕ) → ReadUpTo bytes at number → IsDigitAt bytes at digit
    → digits_value 10 (take (at + 1) bytes) ≡ number * 10 + digit
value_more bytes at number digit r d =
    let value : digit_value (get_or bytes at 0) ≡ get_or bytes at 0 - 48 = digit_value-digit (get_or bytes at 0) d.is_digit in
    let more : digits_value 10 (take (at + 1) bytes) ≡ digits_value 10 (take at bytes) * 10 + digit_value (get_or bytes at 0) =
    digits_value_more 10 bytes at d.inside in
    omega (arith, r.value, d.value)

digits_more : (bytes : List ℕ) (at number digit : ℕ) → ReadUpTo bytes at number → IsDigitAt bytes at digit
    → (k : ℕ) → k < at + 1 → is_ascii_digit (get_or bytes k 0) ≡ true
digits_more bytes at number digit r d = below_more (λ k. is_ascii_digit (get_or bytes k 0) ≡ true) at r.digits d.is_digit

pub read-more : (bytes : List ℕ) (at number digit next : ℕ) → ReadUpTo bytes at number → IsDigitAt bytes at digit → next ≡ number * 10 + digit
    → next < 2 ^ 128 → ReadUpTo bytes (at + 1) next
read-more bytes at number digit next r d is fits =
    record {
      within = omega (arith, d.inside);
      digits = digits_more bytes at number digit r d;
      value = value_more bytes at number digit r d ∙ sym is;
      fits = fits;
    }

-- digits at the front of a text belong to its number
pub span-le : (bytes digits more : List ℕ) (at : ℕ) → bytes ≡ digits ++ 60 ∷ more
    → ((k : ℕ) → k < at → is_ascii_digit (get_or bytes k 0) ≡ true) → at ≤ length digits
span-le bytes digits more at e all =
    let none : length digits < at → ⊥ = λ short.
    (let here : get_or bytes (length digits) 0 ≡ 60 =
    ap (λ (l : List ℕ). get_or l (length digits) 0) e ∙ get_or-append_seam digits 60 more 0 in
    let digit : is_ascii_digit 60 ≡ true = sym (ap is_ascii_digit here) ∙ all (length digits) short in
    not_digit digit) in
    omega arith
  where
    not_digit : is_ascii_digit 60 ≡ true → ⊥
    not_digit e = cc

pub no_number-large : (bytes : List ℕ) (at number digit : ℕ) → ReadUpTo bytes at number → IsDigitAt bytes at digit
    → 2 ^ 128 ≤ number * 10 + digit → HasNoNumber bytes
no_number-large bytes at number digit r d large digits more n is e =
    let within : at + 1 ≤ length digits = span-le bytes digits more (at + 1) e (digits_more bytes at number digit r d) in
    let front : take (at + 1) bytes ≡ take (at + 1) digits = ap (take (at + 1)) e ∙ take-append-le (at + 1) digits (60 ∷ more) within in
    let least : digits_value 10 (take (at + 1) digits) ≤ digits_value 10 digits = digits_value-take-le 10 digits (at + 1) (omega arith) in
    let value : digits_value 10 (take (at + 1) digits) ≡ number * 10 + digit =
    ap (digits_value 10) (sym front) ∙ value_more bytes at number digit r d in
    omega (arith, is.value, is.fits)

pub spells-number : (bytes rest : List ℕ) (at number : ℕ) → ReadUpTo bytes at number → (at ≡ 0 → ⊥)
    → is_ascii_digit (get_or bytes at 0) ≡ false → rest ≡ take (length bytes - at) (drop at bytes) → SpellsNumber bytes number rest
spells-number bytes rest at number r some ended rest_is =
    let behind : rest ≡ drop at bytes = rest_is ∙ take_all (length bytes - at) (drop at bytes) (omega (arith, length-drop at bytes)) in
    let size : length (take at bytes) ≡ at = omega (arith, length-take at bytes, r.within) in
    let same : get_or (drop at bytes) 0 0 ≡ get_or bytes at 0 = get_or-drop at bytes 0 0 ∙ ap (λ n. get_or bytes n 0) (omega arith) in
    record {
      digits = take at bytes;
      is_number = record {
        some = omega arith;
        are_digits = λ k h. ap is_ascii_digit (get_or-take at bytes k 0 (omega arith)) ∙ r.digits k (omega arith);
        value = r.value;
        fits = r.fits;
      };
      spelled = sym (take-append-drop at bytes) ∙ ap (λ (l : List ℕ). take at bytes ++ l) (sym behind);
      ended = ap (λ (l : List ℕ). is_ascii_digit (get_or l 0 0)) behind ∙ ap is_ascii_digit same ∙ ended;
    }

-- a text that was split where a front would end
pub front-found : (bytes front start rest : List ℕ) → start ≡ take (length front) bytes → rest ≡ drop (length front) bytes → start ≡ front
    → bytes ≡ front ++ rest
front-found bytes front start rest first behind same =
    sym (take-append-drop (length front) bytes)
    ∙ ap (λ (l : List ℕ). l ++ drop (length front) bytes) (sym first ∙ same)
    ∙ ap (λ (l : List ℕ). front ++ l) (sym behind)

pub front-lacks : (bytes front start : List ℕ) → start ≡ take (length front) bytes → (start ≡ front → ⊥) → LacksFront bytes front
front-lacks bytes front start first differs more e =
    differs (first ∙ ap (take (length front)) e ∙ take-append_seam front more)
