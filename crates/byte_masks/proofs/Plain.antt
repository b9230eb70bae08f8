-- Plain bytes, and the masks that tell them.
use Rattle.std.proofs.Common.{◌≡◌, ◌↔◌, ℕ, ◌+◌, ◌-◌, ◌<◌, Bool, true, false, IsTrue, List, ◌++◌, length, take, drop, get_or, refl, sym, ap, ◌∙◌, arith, ⊎_elim, length-append, min}
use Rattle.std.specs.Int.{bit_at}
use Rattle.std.proofs.lemmas.Bool.{cases_lt, leb-true, leb-false, eqb-false, ne_eqb}
use Rattle.std.proofs.lemmas.List.{get_or_past, get_or-take, get_or-drop, get_or-append_right, get_or_append_left, length-take, length-drop}
use Rattle.std.proofs.lemmas.Nat.Bits.{bit_at-zero, same_from_bits}
use Rattle.std.proofs.lemmas.Str.{IsAscii-append, IsAscii-take, IsAscii-drop}
use Rattle.byte_masks.specs.Masks.{Marks, is_byte, is_high}
use Rattle.byte_masks.specs.Parts.{IsPlain}
use Rattle.byte_masks.proofs.SetBits.{bit_cases}
use Rattle.byte_masks.proofs.Marking.{test_cases}

Marks-none : (test : ℕ → Bool) (bytes : List ℕ) (m : ℕ) → Marks test bytes m → m ≡ 0 → (k : ℕ) → k < length bytes → test (get_or bytes k 0) ≡ false
Marks-none test bytes m marks none k l =
    ⊎_elim (λ here. absurd (omega (arith, (marks.each k).1 (l, here), ap (λ n. bit_at n k) none, bit_at-zero k))) (λ fails. fails) (test_cases (test (get_or bytes k 0)))

Marks-nothing : (test : ℕ → Bool) (bytes : List ℕ) (m : ℕ) → Marks test bytes m → ((k : ℕ) → k < length bytes → test (get_or bytes k 0) ≡ false) → m ≡ 0
Marks-nothing test bytes m marks none =
    same_from_bits m 0 (λ k.
    ⊎_elim (λ clear. clear ∙ sym (bit_at-zero k))
    (λ set. let h = (marks.each k).0 set in let f = none k h.0 in let t : test (get_or bytes k 0) ≡ true = h.1 in absurd (cc)) (bit_cases m k))

low_of_high : (x : ℕ) → is_high x ≡ false → x < 128
low_of_high x h = leb-false 128 x h

high_of_low : (x : ℕ) → x < 128 → is_high x ≡ false
high_of_low x l = ⊎_elim (λ h. absurd (omega (arith, leb-true 128 x h))) (λ h. h) (test_cases (is_high x))

pub IsPlain-unmarked : (quote : ℕ) (bytes : List ℕ) (quotes high : ℕ) → Marks (is_byte quote) bytes quotes → Marks is_high bytes high → quotes ≡ 0 → high ≡ 0
    → IsPlain quote bytes
IsPlain-unmarked quote bytes quotes high marks tops none low = record {
  ascii = λ k.
      ⊎_elim (λ l. low_of_high (get_or bytes k 0) (Marks-none is_high bytes high tops low k l))
      (λ past. omega (arith, get_or_past bytes k 0 past)) (cases_lt k (length bytes));
  unquoted = λ k _ l. eqb-false (get_or bytes k 0) quote (Marks-none (is_byte quote) bytes quotes marks none k l);
}

pub quotes_of_plain : (quote : ℕ) (bytes : List ℕ) (m : ℕ) → Marks (is_byte quote) bytes m → IsPlain quote bytes → m ≡ 0
quotes_of_plain quote bytes m marks plain = Marks-nothing (is_byte quote) bytes m marks (λ k l. ne_eqb (get_or bytes k 0) quote (plain.unquoted k (omega arith) l))

pub high_of_plain : (quote : ℕ) (bytes : List ℕ) (m : ℕ) → Marks is_high bytes m → IsPlain quote bytes → m ≡ 0
high_of_plain quote bytes m marks plain = Marks-nothing is_high bytes m marks (λ k l. high_of_low (get_or bytes k 0) (plain.ascii k))

pub IsPlain-append : (quote : ℕ) (xs ys : List ℕ) → IsPlain quote xs → IsPlain quote ys → IsPlain quote (xs ++ ys)
IsPlain-append quote xs ys p q = record {
  ascii = IsAscii-append xs ys p.ascii q.ascii;
  unquoted = λ k low high.
      ⊎_elim
      (λ l e. p.unquoted k low l (sym (get_or_append_left xs ys 0 k l) ∙ e))
      (λ ge e.
      q.unquoted (k - length xs) (omega arith) (omega (arith, length-append xs ys)) (sym (get_or-append_right xs ys (length xs) k 0 refl ge) ∙ e))
      (cases_lt k (length xs));
}

pub IsPlain-part : (quote : ℕ) (line : List ℕ) (i n : ℕ) → IsPlain quote line → IsPlain quote (take n (drop i line))
IsPlain-part quote line i n plain = record {
  ascii = IsAscii-take (drop i line) n (IsAscii-drop line i plain.ascii);
  unquoted = λ k low high e.
      let long : length (take n (drop i line)) ≡ min n (length line - i) = length-take n (drop i line) ∙ ap (min n) (length-drop i line) in
      plain.unquoted (i + k) (omega arith) (omega arith) (sym (get_or-take n (drop i line) k 0 (omega arith) ∙ get_or-drop i line k 0) ∙ e);
}

pub IsPlain-rest : (quote : ℕ) (line : List ℕ) (i : ℕ) → IsPlain quote line → IsPlain quote (drop i line)
IsPlain-rest quote line i plain = record {
  ascii = IsAscii-drop line i plain.ascii;
  unquoted = λ k low high e. plain.unquoted (i + k) (omega arith) (omega (arith, length-drop i line)) (sym (get_or-drop i line k 0) ∙ e);
}

-- a part that isn't plain stands in no plain line
pub not_plain : (quote : ℕ) (part : List ℕ) (r : Bool) → r ≡ false → IsTrue r ↔ IsPlain quote part → IsPlain quote part → ⊥
not_plain quote part true none tells plain = absurd (cc)
not_plain quote part false none tells plain = let h = tells.1 plain in absurd (cc)

pub is_plain : (quote : ℕ) (part : List ℕ) (r : Bool) → r ≡ true → IsTrue r ↔ IsPlain quote part → IsPlain quote part
is_plain quote part true holds tells = tells.0 refl
is_plain quote part false holds tells = absurd (cc)
