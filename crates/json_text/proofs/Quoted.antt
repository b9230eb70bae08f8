-- A string between its quotation marks.
use Rattle.std.proofs.Common.{◌≡◌, ℕ, ◌-◌, ◌<◌, ◌≤◌, true, false, ◌==◌, List, [], ◌∷◌, ◌++◌, Some, None, length, take, get_or, length-append, refl, sym, ◌∙◌, ap, subst, arith}
use Rattle.std.specs.Prelude.{slice_range}
use Rattle.std.specs.Str.{chars, IsUtf8, IsCharBoundary}
use Rattle.std.proofs.Math.Bridge.{le_prop}
use Rattle.std.proofs.Math.Logic.{∥∥₁_elim}
use Rattle.std.proofs.Math.Seq.{take-append_seam}
use Rattle.std.proofs.lemmas.Bool.Decides.{nat_tests}
use Rattle.std.proofs.lemmas.Str.{IsCharBoundary-after_ascii, IsCharBoundary-before_ascii}
use Rattle.text_view.specs.JsonString.{unescaped_text}
use Rattle.json_text.specs.Grammar.{Json, null, truth, number, string, empty_array, array, empty_object, object, Number, unsigned, negative, zero_int, nonzero_int, print_number, IsNumber, is_nonzero_digit, print, IsValue}
use Rattle.json_text.specs.Texts.{levels}
use Rattle.json_text.specs.Nodes.{IsNode, Spells, IsTextOf}

-- the value is a string with that inside, or begins otherwise
data Quoted (s : List ℕ) (tree : Json) : Type 0 where
  quoted : (raw : List ℕ) → tree ≡ string raw → s ≡ 34 ∷ (raw ++ 34 ∷ []) → Quoted s tree
  other : IsTextOf tree None → (get_or s 0 0 == 34) ≡ false → Quoted s tree

nonzero_no_quote : (d : ℕ) → is_nonzero_digit d ≡ true → (d == 34) ≡ false
nonzero_no_quote d h = grind (arith, nat_tests)

number_quote : (n : Number) → IsNumber n → (get_or (print_number n []) 0 0 == 34) ≡ false
number_quote (unsigned zero_int f e) h = refl
number_quote (unsigned (nonzero_int d ds) f e) h = nonzero_no_quote d h.0.0
number_quote (negative i f e) h = refl

value_quote : (v : Json) → IsValue levels 0 v → Quoted (print v []) v
unfolding print IsValue
value_quote null h = other tt refl
value_quote (truth true) h = other tt refl
value_quote (truth false) h = other tt refl
value_quote (number n) h = other tt (number_quote n h)
value_quote (string raw) h = quoted raw refl refl
value_quote (empty_array b) h = other tt refl
value_quote (array x xs) h = other tt refl
value_quote (empty_object b) h = other tt refl
value_quote (object m ms) h = other tt refl

quote_of : (s : List ℕ) (tree : Json) → Spells s tree → Quoted s tree
quote_of s tree x = subst (λ t. Quoted t tree) (sym x.spelled) (value_quote tree x.valid)

clash : true ≡ false → ⊥
clash x = cc

eq_self : (a b : ℕ) → a ≡ b → (a == b) ≡ true
eq_self a b h = grind (arith, nat_tests)

none_short : (s : List ℕ) (tree : Json) → length s < 2 → Quoted s tree → IsTextOf tree None
none_short s tree h (quoted raw e is) = absurd (omega (arith, ap length is, length-append raw (34 ∷ [])))
none_short s tree h (other t x) = t

pub short_none : (s : List ℕ) (tree : Json) → length s < 2 → Spells s tree → IsTextOf tree None
short_none s tree h x = none_short s tree h (quote_of s tree x)

none_other : (s : List ℕ) (tree : Json) → (get_or s 0 0 ≡ 34 → ⊥) → Quoted s tree → IsTextOf tree None
none_other s tree h (quoted raw e is) = absurd (h (ap (λ l. get_or l 0 0) is))
none_other s tree h (other t x) = t

pub other_none : (s : List ℕ) (tree : Json) → (get_or s 0 0 ≡ 34 → ⊥) → Spells s tree → IsTextOf tree None
other_none s tree h x = none_other s tree h (quote_of s tree x)

-- ---- between the quotation marks

middle : (raw : List ℕ) → slice_range (34 ∷ (raw ++ 34 ∷ [])) 1 (length (34 ∷ (raw ++ 34 ∷ [])) - 1) ≡ raw
middle raw =
    let size : length (34 ∷ (raw ++ 34 ∷ [])) - 1 - 1 ≡ length raw = omega (arith, length-append raw (34 ∷ [])) in
    ap (λ n. take n (raw ++ 34 ∷ [])) size ∙ take-append_seam raw (34 ∷ [])

some_quoted : (s raw text : List ℕ) (tree : Json) → get_or s 0 0 ≡ 34 → raw ≡ slice_range s 1 (length s - 1) → text ≡ unescaped_text (chars raw) → Quoted s tree → IsTextOf tree (Some text)
some_quoted s raw text tree h r t (quoted inner e is) =
    let same : raw ≡ inner = r ∙ ap (λ l. slice_range l 1 (length l - 1)) is ∙ middle inner in
    subst (λ v. IsTextOf v (Some text)) (sym e) (t ∙ ap (λ l. unescaped_text (chars l)) same)
some_quoted s raw text tree h r t (other n x) = absurd (clash (sym (eq_self (get_or s 0 0) 34 h) ∙ x))

pub quoted_text : (s raw text : List ℕ) (tree : Json) → get_or s 0 0 ≡ 34 → raw ≡ slice_range s 1 (length s - 1) → text ≡ unescaped_text (chars raw) → Spells s tree → IsTextOf tree (Some text)
quoted_text s raw text tree h r t x = some_quoted s raw text tree h r t (quote_of s tree x)

pub begins : (s : List ℕ) → IsUtf8 s → 2 ≤ length s → get_or s 0 0 ≡ 34 → IsCharBoundary s 1
begins s u l h =
    let ascii : get_or s 0 0 < 128 = omega arith in
    IsCharBoundary-after_ascii s 0 u (omega arith) ascii

last_of : (xs : List ℕ) (c : ℕ) → get_or (xs ++ c ∷ []) (length xs) 0 ≡ c
last_of [] c = refl
last_of (x ∷ xs) c = last_of xs c

last_quote : (s : List ℕ) (tree : Json) → get_or s 0 0 ≡ 34 → Quoted s tree → get_or s (length s - 1) 0 < 128
last_quote s tree h (quoted raw e is) =
    let size : length s - 1 ≡ length (34 ∷ raw) = omega (arith, ap length is, length-append raw (34 ∷ [])) in
    let last : get_or s (length s - 1) 0 ≡ 34 = ap (λ k. get_or s k 0) size ∙ ap (λ l. get_or l (length (34 ∷ raw)) 0) is ∙ last_of (34 ∷ raw) 34 in
    omega arith
last_quote s tree h (other n x) = absurd (clash (sym (eq_self (get_or s 0 0) 34 h) ∙ x))

pub ends : (s : List ℕ) → 2 ≤ length s → get_or s 0 0 ≡ 34 → ∥ IsNode s ∥₁ → IsCharBoundary s (length s - 1)
ends s l h n =
    let low : get_or s (length s - 1) 0 < 128 = ∥∥₁_elim n le_prop (λ x. last_quote s x.tree h (quote_of s x.tree x.spells)) in
    IsCharBoundary-before_ascii s (length s - 1) (omega arith) low
