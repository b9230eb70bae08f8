-- A text may be cut behind an ASCII byte.
use Rattle.std.proofs.Common.{◌≡◌, ℕ, zero, suc, ◌+◌, ◌-◌, ◌<◌, Bool, true, List, ◌∷◌, length, slice_index, sym, arith, subst}
use Rattle.std.specs.List.{prefix_len}
use Rattle.std.specs.Char.{is_ascii_digit}
use Rattle.std.specs.Str.{IsUtf8, IsCharBoundary}
use Rattle.std.proofs.lemmas.Bool.Decides.{nat_tests}
use Rattle.std.proofs.lemmas.Str.{IsCharBoundary-start, IsCharBoundary-after_ascii}
use Rattle.std.proofs.lemmas.List.Sums.{prefix_len_passes, prefix_len-le-length}
use Rattle.sql_tokens.specs.TokenForms.{is_blank, is_word_byte}
use Rattle.sql_tokens.specs.Fronts.{IsAsciiFront}

pub cut_behind_ascii : (bs : List ℕ) (n : ℕ) → IsUtf8 bs → IsAsciiFront bs n → IsCharBoundary bs n
cut_behind_ascii bs zero u f = IsCharBoundary-start bs u
cut_behind_ascii bs (suc n) u f =
    let l : n < length bs = let w = f.within in omega arith in
    let e : n + 1 ≡ suc n = omega arith in
    let z : suc n - 1 ≡ n = omega arith in
    let P : ℕ → Type 0 = λ k. IsCharBoundary bs k in
    let Q : ℕ → Type 0 = λ k. slice_index bs k < 128 in
    subst P e (IsCharBoundary-after_ascii bs n u l (subst Q z (f.last (omega arith))))

blank_ascii : (b : ℕ) → is_blank b ≡ true → b < 128
blank_ascii b e = grind (arith, nat_tests)

digit_ascii : (b : ℕ) → is_ascii_digit b ≡ true → b < 128
digit_ascii b e = grind (arith, nat_tests)

word_ascii : (b : ℕ) → is_word_byte b ≡ true → b < 128
word_ascii b e = grind (arith, nat_tests)

run_ascii : (p : ℕ → Bool) → ((b : ℕ) → p b ≡ true → b < 128) → (bs : List ℕ) (n : ℕ) → n ≡ prefix_len p bs → IsAsciiFront bs n
run_ascii p low bs n e = record {
  within = rw e (prefix_len-le-length p bs);
  last = λ l. low (slice_index bs (n - 1)) (prefix_len_passes p bs (n - 1) 0 (let e2 : prefix_len p bs ≡ n = sym e in rw e2 (omega arith)));
}

pub blanks_ascii : (bs : List ℕ) (n : ℕ) → n ≡ prefix_len is_blank bs → IsAsciiFront bs n
blanks_ascii = run_ascii is_blank blank_ascii

pub digits_ascii : (bs : List ℕ) (n : ℕ) → n ≡ prefix_len is_ascii_digit bs → IsAsciiFront bs n
digits_ascii = run_ascii is_ascii_digit digit_ascii

pub word_bytes_ascii : (bs : List ℕ) (n : ℕ) → n ≡ prefix_len is_word_byte bs → IsAsciiFront bs n
word_bytes_ascii = run_ascii is_word_byte word_ascii

-- none
pub no_front : (bs : List ℕ) → IsAsciiFront bs 0
no_front bs = record { within = omega arith; last = λ l. absurd (omega arith) }

-- one more in front
pub behind_one : (b : ℕ) (bs : List ℕ) (n : ℕ) → b < 128 → IsAsciiFront bs n → IsAsciiFront (b ∷ bs) (n + 1)
behind_one b bs zero l f = record { within = omega arith; last = λ m. l }
behind_one b bs (suc n) l f =
    let z : suc n - 1 ≡ n = omega arith in
    let y : suc n + 1 - 1 ≡ suc n = omega arith in
    record { within = let w = f.within in omega arith; last = λ m. let Q : ℕ → Type 0 = λ k. slice_index bs k < 128 in rw y (subst Q z (f.last (omega arith))) }
