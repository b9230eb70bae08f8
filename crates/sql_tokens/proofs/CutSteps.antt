-- Cutting goes token by token.
use Rattle.std.proofs.Common.{◌≡◌, ℕ, zero, suc, ◌+◌, ◌-◌, ◌<◌, ◌≤◌, ◌==◌, ◌&&◌, ◌||◌, nat_lt, Bool, true, false, List, [], ◌∷◌, length, take, drop, refl, sym, ap, ◌∙◌, arith, eqb-true, length-drop, length-take, subst, nat_le, if◌then◌else◌, Option, Some, None}
use Rattle.std.specs.List.{prefix_len}
use Rattle.std.specs.Char.{is_ascii_digit}
use Rattle.sql_tokens.specs.declared.class.Class.{Class}
use Rattle.sql_tokens.specs.TokenForms.{Token, word, quoted_name, text_literal, whole_number, point_number, exponent_number, punctuation, unfit, length_of, punctuation_length, is_blank, is_letter, is_word_byte, begins, digits, closing, name_by, text_by, word_by, fraction_length, exponent_length, is_too_long, parts_number, number_by, number_token, less_by, greater_by, single, single_token, punctuation_token, token_from, token_of}
use Rattle.std.proofs.lemmas.Bool.{lt-ltb, ltb-true, leb-true, leb-false}
use Rattle.std.proofs.lemmas.List.{drop_all}
use Rattle.sql_tokens.specs.Cutting.{Symbol, Remaining, cut_behind, cut}
use Rattle.sql_tokens.specs.Sights.{Cuts, HasShortDigits, IsCursor, shown}
use Rattle.sql_tokens.specs.declared.sight.Sight.{Sight}
use Rattle.sql_tokens.proofs.ClassLaws.{every}

-- a token of one byte at least
record IsLong (t : Token) : Type 0 where
  long : 0 < length_of t

by_test : (t : Bool) (x y : Token) → (t ≡ true → IsLong x) → (t ≡ false → IsLong y) → IsLong (if t then x else y)
by_test true x y f g = f refl
by_test false x y f g = g refl

take_some : (n b : ℕ) (bs : List ℕ) → 0 < n → 0 < length (take n (b ∷ bs))
take_some zero b bs l = absurd (omega arith)
take_some (suc n) b bs l = omega arith

long_unfit : (b : ℕ) (bs : List ℕ) → IsLong (unfit (b ∷ bs))
long_unfit b bs = record { long = omega arith }

word_or : (t o : Bool) → t ≡ true → (t || o) ≡ true
word_or true o e = refl
word_or false o e = cc

long_word : (b : ℕ) (bs : List ℕ) → is_letter b ≡ true → IsLong (word_by (prefix_len is_word_byte (b ∷ bs)) (b ∷ bs))
long_word b bs e =
    let w : is_word_byte b ≡ true = word_or (is_letter b) (is_ascii_digit b) e in
    let n : 0 < prefix_len is_word_byte (b ∷ bs) = rw w (omega arith) in
    record { long = take_some (prefix_len is_word_byte (b ∷ bs)) b bs n }

long_parts : (before rest raw : List ℕ) (b : ℕ) (bs : List ℕ) → 0 < length raw → IsLong (parts_number before rest raw (b ∷ bs))
long_parts before [] raw b bs l = by_test (is_too_long before []) _ _ (λ e. long_unfit b bs) (λ e. record { long = l })
long_parts before (p ∷ fraction) raw b bs l = by_test (is_too_long before fraction) _ _ (λ e. long_unfit b bs) (λ e. record { long = l })

long_number_by : (whole size exponent b : ℕ) (bs : List ℕ) → 0 < size → IsLong (number_by whole size exponent (b ∷ bs))
long_number_by whole size exponent b bs l =
    by_test (nat_lt 0 exponent) _ _ (λ e. record { long = take_some (size + exponent) b bs (omega arith) })
    (λ e. by_test (begins is_letter (drop size (b ∷ bs))) _ _ (λ f. long_unfit b bs)
    (λ f. long_parts (take whole (take size (b ∷ bs))) (drop whole (take size (b ∷ bs))) (take size (b ∷ bs)) b bs (take_some size b bs l)))

long_number : (b : ℕ) (bs : List ℕ) → 0 < digits (b ∷ bs) + fraction_length (drop (digits (b ∷ bs)) (b ∷ bs)) → IsLong (number_token (b ∷ bs))
unfolding number_token
long_number b bs l =
    let size = digits (b ∷ bs) + fraction_length (drop (digits (b ∷ bs)) (b ∷ bs)) in
    long_number_by (digits (b ∷ bs)) size (exponent_length (drop size (b ∷ bs))) b bs l

some_digit : (b : ℕ) (bs : List ℕ) → is_ascii_digit b ≡ true → 0 < digits (b ∷ bs)
some_digit b bs e = rw e (omega arith)

begun_digits : (bs : List ℕ) → begins is_ascii_digit bs ≡ true → nat_lt 0 (digits bs) ≡ true
begun_digits [] e = cc
begun_digits (b ∷ bs) e = lt-ltb 0 (digits (b ∷ bs)) (some_digit b bs e)

and_left : (a b : Bool) → (a && b) ≡ true → a ≡ true
and_left true b e = refl
and_left false b e = cc

and_right : (a b : Bool) → (a && b) ≡ true → b ≡ true
and_right true b e = e
and_right false b e = cc

point_size : (b : ℕ) (bs : List ℕ) → b ≡ 46 → begins is_ascii_digit bs ≡ true → 0 < digits (b ∷ bs) + fraction_length (drop (digits (b ∷ bs)) (b ∷ bs))
point_size b bs p e = let d = begun_digits bs e in rw (p, d) (omega arith)

long_name : (o : Option ℕ) (bs : List ℕ) → IsLong (name_by o bs)
long_name None bs = long_unfit 34 bs
long_name (Some n) bs = by_test (n == 0) _ _ (λ e. long_unfit 34 bs) (λ e. record { long = omega arith })

long_text : (o : Option ℕ) (bs : List ℕ) → IsLong (text_by o bs)
long_text None bs = long_unfit 39 bs
long_text (Some n) bs = record { long = omega arith }

some_bytes : (c : Class) → 0 < punctuation_length c
some_bytes c = ltb-true 0 (punctuation_length c) (every (λ x. nat_lt 0 (punctuation_length x)) refl c)

long_symbol : (c : Class) → IsLong (punctuation c)
long_symbol c = record { long = some_bytes c }

long_single : (o : Option Class) (b : ℕ) (bs : List ℕ) → IsLong (single_token o (b ∷ bs))
long_single None b bs = long_unfit b bs
long_single (Some c) b bs = long_symbol c

long_punctuation : (b : ℕ) (bs : List ℕ) → IsLong (punctuation_token b bs)
unfolding punctuation_token
long_punctuation b bs =
    by_test (b == 60) _ _ (λ e. long_symbol (less_by bs))
    (λ e. by_test (b == 62) _ _ (λ e. long_symbol (greater_by bs))
    (λ e. by_test ((b == 33) && begins (λ c. c == 61) bs) _ _ (λ e. long_symbol _) (λ e. long_single (single b) b bs)))

long_token : (b : ℕ) (bs : List ℕ) → IsLong (token_from b bs)
unfolding token_from
long_token b bs =
    by_test (is_letter b) _ _ (λ e. long_word b bs e)
    (λ e. by_test (is_ascii_digit b) _ _ (λ d. long_number b bs (let s = some_digit b bs d in omega arith))
    (λ e. by_test ((b == 46) && begins is_ascii_digit bs) _ _
    (λ p. long_number b bs (point_size b bs (eqb-true b 46 (and_left (b == 46) (begins is_ascii_digit bs) p)) (and_right (b == 46) (begins is_ascii_digit bs) p)))
    (λ e. by_test (b == 34) _ _ (λ e. long_name (closing 34 bs) bs)
    (λ e. by_test (b == 39) _ _ (λ e. long_text (closing 39 bs) bs) (λ e. long_punctuation b bs)))))

-- ---- digits are no longer than their text

record IsShort (n : ℕ) (t : Token) : Type 0 where
  short : HasShortDigits n t

short_by_test : (n : ℕ) (t : Bool) (x y : Token) → IsShort n x → IsShort n y → IsShort n (if t then x else y)
short_by_test n true x y f g = f
short_by_test n false x y f g = g

short_take : (n : ℕ) (bs : List ℕ) → length (take n bs) ≤ length bs
short_take n bs = let e = length-take n bs in omega arith

short_parts : (before rest raw bs : List ℕ) → length raw ≤ length bs → IsShort (length bs) (parts_number before rest raw bs)
short_parts before [] raw bs l = short_by_test (length bs) (is_too_long before []) _ _ (record { short = tt }) (record { short = l })
short_parts before (p ∷ fraction) raw bs l = short_by_test (length bs) (is_too_long before fraction) _ _ (record { short = tt }) (record { short = l })

short_number : (bs : List ℕ) → IsShort (length bs) (number_token bs)
unfolding number_token
short_number bs =
    let size = digits bs + fraction_length (drop (digits bs) bs) in
    short_by_test (length bs) (nat_lt 0 (exponent_length (drop size bs))) _ _ (record { short = tt })
    (short_by_test (length bs) (begins is_letter (drop size bs)) _ _ (record { short = tt })
    (short_parts (take (digits bs) (take size bs)) (drop (digits bs) (take size bs)) (take size bs) bs (short_take size bs)))

short_name : (n : ℕ) (o : Option ℕ) (bs : List ℕ) → IsShort n (name_by o bs)
short_name n None bs = record { short = tt }
short_name n (Some k) bs = short_by_test n (k == 0) _ _ (record { short = tt }) (record { short = tt })

short_text : (n : ℕ) (o : Option ℕ) (bs : List ℕ) → IsShort n (text_by o bs)
short_text n None bs = record { short = tt }
short_text n (Some k) bs = record { short = tt }

short_single : (n : ℕ) (o : Option Class) (bs : List ℕ) → IsShort n (single_token o bs)
short_single n None bs = record { short = tt }
short_single n (Some c) bs = record { short = tt }

short_punctuation : (n b : ℕ) (bs : List ℕ) → IsShort n (punctuation_token b bs)
unfolding punctuation_token
short_punctuation n b bs =
    short_by_test n (b == 60) _ _ (record { short = tt })
    (short_by_test n (b == 62) _ _ (record { short = tt })
    (short_by_test n ((b == 33) && begins (λ c. c == 61) bs) _ _ (record { short = tt }) (short_single n (single b) (b ∷ bs))))

short_token : (bs : List ℕ) → IsShort (length bs) (token_of bs)
unfolding token_from
short_token [] = record { short = tt }
short_token (b ∷ bs) =
    short_by_test _ (is_letter b) _ _ (record { short = tt })
    (short_by_test _ (is_ascii_digit b) _ _ (short_number (b ∷ bs))
    (short_by_test _ ((b == 46) && begins is_ascii_digit bs) _ _ (short_number (b ∷ bs))
    (short_by_test _ (b == 34) _ _ (short_name _ (closing 34 bs) bs)
    (short_by_test _ (b == 39) _ _ (short_text _ (closing 39 bs) bs) (short_punctuation _ b bs)))))

more_digits : (m n : ℕ) (t : Token) → m ≤ n → HasShortDigits m t → HasShortDigits n t
more_digits m n (word called w) l h = tt
more_digits m n (quoted_name called raw) l h = tt
more_digits m n (text_literal raw) l h = tt
more_digits m n (whole_number raw) l h = omega arith
more_digits m n (point_number raw) l h = omega arith
more_digits m n (exponent_number raw) l h = tt
more_digits m n (punctuation c) l h = tt
more_digits m n (unfit raw) l h = tt

pub short_digits : (bs : List ℕ) (n : ℕ) (t : Token) → t ≡ token_of bs → length bs ≤ n → HasShortDigits n t
short_digits bs n t e l = more_digits (length bs) n t l (let P : Token → Type 0 = IsShort (length bs) in (subst P (sym e) (short_token bs)).short)

-- ---- cutting

cut_skips : (k at : ℕ) (bs : List ℕ) → cut_behind k at bs ≡ cut_behind 0 (at + k) (drop k bs)
cut_skips zero at bs = let e : at + 0 ≡ at = omega arith in rw e refl
cut_skips (suc k) at [] = refl
cut_skips (suc k) at (b ∷ bs) =
    let e : at + suc k ≡ at + 1 + k = omega arith in rw e (cut_skips k (at + 1) bs)

pub cut_nil : (at : ℕ) → cut at [] ≡ []
unfolding cut
cut_nil at = refl

drop_one : (n b : ℕ) (bs : List ℕ) → 0 < n → drop (n - 1) bs ≡ drop n (b ∷ bs)
drop_one zero b bs l = absurd (omega arith)
drop_one (suc n) b bs l = let e : suc n - 1 ≡ n = omega arith in rw e refl

-- a token in front
pub cut_token : (at b : ℕ) (bs : List ℕ) → is_blank b ≡ false
    → cut at (b ∷ bs) ≡ record { at = at; token = token_from b bs } ∷ cut (at + length_of (token_from b bs)) (drop (length_of (token_from b bs)) (b ∷ bs))
unfolding cut
cut_token at b bs e =
    let l = (long_token b bs).long in
    let z : at + 1 + (length_of (token_from b bs) - 1) ≡ at + length_of (token_from b bs) = omega arith in
    rw (e, cut_skips (length_of (token_from b bs) - 1) (at + 1) bs, z, drop_one (length_of (token_from b bs)) b bs l) refl

-- blanks in front
pub cut_blanks : (at : ℕ) (bs : List ℕ) → cut at bs ≡ cut (at + prefix_len is_blank bs) (drop (prefix_len is_blank bs) bs)
unfolding cut
cut_blanks at [] = refl
cut_blanks at (b ∷ bs) =
    let r = cut_blanks (at + 1) bs in
    let n = prefix_len is_blank bs in
    let z : at + 1 + n ≡ at + (1 + n) = omega arith in
    let y : 1 + n ≡ suc n = omega arith in
    let w : at + 0 ≡ at = omega arith in
    let P : Bool → Type 0 = λ t. is_blank b ≡ t → (if t then cut_behind 0 (at + 1) bs else record { at = at; token = token_from b bs } ∷ cut_behind (length_of (token_from b bs) - 1) (at + 1) bs)
    ≡ cut_behind 0 (at + (if t then 1 + n else 0)) (drop (if t then 1 + n else 0) (b ∷ bs)) in
    (elim (is_blank b) as P [
      | true ↦ λ t. rw z at r ∙ rw y refl
      | false ↦ λ t. rw (w, t) refl
    ]) refl

-- ---- as the cursor asks

abbrev remains : List Symbol → ℕ → Remaining
remains symbols size = record { symbols = symbols; size = size }

unblank : (text : List ℕ) (b : ℕ) (bs : List ℕ) → drop (prefix_len is_blank text) text ≡ b ∷ bs → is_blank b ≡ false
unblank [] b bs e = cc
unblank (x ∷ xs) b bs e =
    let P : Bool → Type 0 = λ t. is_blank x ≡ t → drop (if t then 1 + prefix_len is_blank xs else 0) (x ∷ xs) ≡ b ∷ bs → is_blank b ≡ false in
    let y : 1 + prefix_len is_blank xs ≡ suc (prefix_len is_blank xs) = omega arith in
    (elim (is_blank x) as P [
      | true ↦ λ t f. unblank xs b bs (rw y at f)
      | false ↦ λ t f. let p : x ≡ b = cc in rw (sym p) t
    ]) refl e

-- what is left behind n bytes, whose place is told by lengths
cut_near : (at n : ℕ) (bs : List ℕ) → cut (at + n) (drop n bs) ≡ cut (at + (length bs - length (drop n bs))) (drop n bs)
cut_near at n bs =
    let d = length-drop n bs in
    let P : Bool → Type 0 = λ t. nat_le n (length bs) ≡ t → cut (at + n) (drop n bs) ≡ cut (at + (length bs - length (drop n bs))) (drop n bs) in
    (elim (nat_le n (length bs)) as P [
      | true ↦ λ t. let l = leb-true n (length bs) t in let z : at + (length bs - length (drop n bs)) ≡ at + n = omega arith in rw z refl
      | false ↦ λ t. let l = leb-false n (length bs) t in let z : drop n bs ≡ [] = drop_all n bs (omega arith) in rw (z, cut_nil (at + n), cut_nil (at + (length bs - 0))) refl
    ]) refl

near_is : (at : ℕ) (text bs cs : List ℕ) → bs ≡ cs → cut (at + (length text - length bs)) bs ≡ cut (at + (length text - length cs)) cs
near_is at text bs cs e = ap (λ l. cut (at + (length text - length l)) l) e

-- the same place, behind a token that was cut
placed : (at : ℕ) (text rest behind : List ℕ) → length behind ≤ length rest → length rest ≤ length text
    → at + (length text - length rest) + (length rest - length behind) + length behind ≡ at + length text
placed at text rest behind l m = omega arith

shorter : (n : ℕ) (bs : List ℕ) → length (drop n bs) ≤ length bs
shorter n bs = let d = length-drop n bs in omega arith

no_longer : (text rest : List ℕ) (n : ℕ) → rest ≡ drop n text → length rest ≤ length text
no_longer text rest n e = let P : List ℕ → Type 0 = λ l. length l ≤ length text in subst P (sym e) (shorter n text)

-- the cursor keeps its bounds
pub keeps_bounds : (at : ℕ) (text rest behind : List ℕ) (sight : Sight) → rest ≡ drop (prefix_len is_blank text) text → Cuts (token_of rest) rest sight behind → at + length text < 9223372036854775807
    → IsCursor (Some sight) (at + (length text - length rest) + (length rest - length behind)) behind
keeps_bounds at text rest behind sight e c l =
    let r = no_longer text rest (prefix_len is_blank text) e in
    let b = no_longer rest behind (length_of (token_of rest)) c.behind in
    record {
      room = let p = placed at text rest behind b r in omega arith;
      digits = short_digits rest 9223372036854775806 (shown sight) c.token (omega arith);
    }

pub nothing_left : (at : ℕ) (text rest : List ℕ) → rest ≡ drop (prefix_len is_blank text) text → length rest ≡ 0
    → remains [] (at + (length text - length rest) + length rest) ≡ remains (cut at text) (at + length text)
nothing_left at text [] e l =
    let z : at + (length text - 0) + 0 ≡ at + length text = omega arith in
    let c : cut at text ≡ [] = cut_blanks at text ∙ rw (sym e) (cut_nil (at + prefix_len is_blank text)) in
    rw (z, c) refl
nothing_left at text (b ∷ bs) e l = absurd (omega arith)

pub token_left : (at : ℕ) (text rest behind : List ℕ) (sight : Sight) → rest ≡ drop (prefix_len is_blank text) text → (length rest ≡ 0 → ⊥) → Cuts (token_of rest) rest sight behind
    → remains (record { at = at + (length text - length rest); token = shown sight } ∷ cut (at + (length text - length rest) + (length rest - length behind)) behind) (at + (length text - length rest) + (length rest - length behind) + length behind)
    ≡ remains (cut at text) (at + length text)
token_left at text [] behind sight e n c = absurd (n refl)
token_left at text (b ∷ bs) behind sight e n c =
    let first = at + (length text - length (b ∷ bs)) in
    let back = drop (length_of (token_from b bs)) (b ∷ bs) in
    let size = placed at text (b ∷ bs) back (shorter (length_of (token_from b bs)) (b ∷ bs)) (no_longer text (b ∷ bs) (prefix_len is_blank text) e) in
    let blanks : cut at text ≡ cut first (b ∷ bs) = cut_blanks at text ∙ (cut_near at (prefix_len is_blank text) text ∙ near_is at text (drop (prefix_len is_blank text) text) (b ∷ bs) (sym e)) in
    let whole : cut at text ≡ record { at = first; token = token_from b bs } ∷ cut (first + (length (b ∷ bs) - length back)) back = blanks ∙ (cut_token first b bs (unblank text b bs (sym e)) ∙ ap (λ l. record { at = first; token = token_from b bs } ∷ l) (cut_near first (length_of (token_from b bs)) (b ∷ bs))) in
    rw (c.behind, c.token, size, whole) refl
