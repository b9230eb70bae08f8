-- A text without the characters of a set at its end, read from the front.
use Rattle.std.proofs.Common.{◌≡◌, ℕ, zero, suc, ◌+◌, ◌*◌, ◌/◌, ◌%◌, ◌^◌, ◌<◌, ◌≢◌, ◌⊎◌, inl, inr, ◌==◌, ◌||◌, map, get_or, replicate, set, Bool, true, false, cond, List, [], ◌∷◌, ◌++◌, take, length, reverse, refl, sym, ◌∙◌, ap, arith}
use Rattle.std.proofs.lemmas.List.{reverse-append, reverse-reverse, length-reverse, map-append, get_or-set_same, get_or-set_other}
use Rattle.text_view.specs.Trimmed.{contains, leading_by, trailing_by, trimmed_by, trimmed, without_leading, without_trailing, is_marked}
use Rattle.text_view.specs.Spelled.{kept_after}
use Rattle.text_view.specs.declared.view.Side.{Side}
use Rattle.text_view.specs.declared.view.Side.TheVariants.{Leading, Trailing, Both}
use Rattle.std.specs.Int.{bit_at, w64}
use Rattle.std.specs.Int.Bits.{bit_or}
use Rattle.std.proofs.lemmas.Nat.Bits.{bit_at-zero, bit_at_set_same, bit_at_set_other}
use Rattle.std.proofs.lemmas.Bool.Decides.{nat_tests}
use Rattle.std.proofs.lemmas.Bool.{cases_lt}

-- a character before what is kept of the others
unfoldable pub onto : (ℕ → Bool) → ℕ → List ℕ → List ℕ
onto p c [] = cond (p c) [] (c ∷ [])
onto p c (d ∷ ds) = c ∷ d ∷ ds

join : Bool → ℕ → List ℕ → List ℕ
join b c [] = cond b [] (c ∷ [])
join b c (d ∷ ds) = c ∷ d ∷ ds

onto_join : (p : ℕ → Bool) (c : ℕ) (e : List ℕ) → onto p c e ≡ join (p c) c e
unfolding onto join
onto_join p c [] = refl
onto_join p c (d ∷ ds) = refl

-- the same from the front
unfoldable pub ended : (ℕ → Bool) → List ℕ → List ℕ
ended p [] = []
ended p (c ∷ cs) = onto p c (ended p cs)

-- a character behind what is kept of the others, seen from the end
snoc : (ℕ → Bool) → ℕ → List ℕ → List ℕ
snoc p c [] = cond (p c) [] (c ∷ [])
snoc p c (d ∷ ds) = d ∷ ds ++ c ∷ []

reverse_cons : (c : ℕ) (cs : List ℕ) → reverse (c ∷ cs) ≡ reverse cs ++ c ∷ []
reverse_cons c cs = reverse-append (c ∷ []) cs

snoc_step : (p : ℕ → Bool) (b : Bool) (c x : ℕ) (xs l : List ℕ) → l ≡ snoc p c (leading_by p xs) → cond b l (x ∷ xs ++ c ∷ []) ≡ snoc p c (cond b (leading_by p xs) (x ∷ xs))
unfolding snoc
snoc_step p true c x xs l e = e
snoc_step p false c x xs l e = refl

leading_snoc : (p : ℕ → Bool) (c : ℕ) (xs : List ℕ) → leading_by p (xs ++ c ∷ []) ≡ snoc p c (leading_by p xs)
unfolding snoc
leading_snoc p c [] = refl
leading_snoc p c (x ∷ xs) = snoc_step p (p x) c x xs _ (leading_snoc p c xs)

snoc_filled : (p : ℕ → Bool) (c : ℕ) (xs : List ℕ) → 0 < length xs → snoc p c xs ≡ xs ++ c ∷ []
unfolding snoc
snoc_filled p c [] h = absurd (omega arith)
snoc_filled p c (x ∷ xs) h = refl

bare : (b : Bool) (c : ℕ) → reverse (cond b [] (c ∷ [])) ≡ cond b [] (c ∷ [])
bare true c = refl
bare false c = refl

onto_snoc : (p : ℕ → Bool) (c : ℕ) (xs : List ℕ) → snoc p c (reverse xs) ≡ reverse (onto p c xs)
unfolding onto snoc
onto_snoc p c [] = sym (bare (p c) c)
onto_snoc p c (d ∷ ds) =
    snoc_filled p c (reverse (d ∷ ds)) (omega (arith, length-reverse (d ∷ ds))) ∙ sym (reverse_cons c (d ∷ ds))

leading_reverse : (p : ℕ → Bool) (cs : List ℕ) → leading_by p (reverse cs) ≡ reverse (ended p cs)
unfolding ended
leading_reverse p [] = refl
leading_reverse p (c ∷ cs) =
    ap (λ l. leading_by p l) (reverse_cons c cs) ∙ leading_snoc p c (reverse cs) ∙ ap (λ l. snoc p c l) (leading_reverse p cs) ∙ onto_snoc p c (ended p cs)

pub trailing_ended : (p : ℕ → Bool) (cs : List ℕ) → trailing_by p cs ≡ ended p cs
unfolding trailing_by
trailing_ended p cs = ap reverse (leading_reverse p cs) ∙ reverse-reverse (ended p cs)

-- how many characters are kept
end_or : ℕ → ℕ → List ℕ → ℕ
end_or k n [] = k
end_or k n (x ∷ xs) = n + length (x ∷ xs)

kept_step : (b : Bool) (k n c y z : ℕ) (e : List ℕ) → y ≡ end_or k (n + 1) e → z ≡ end_or (n + 1) (n + 1) e → cond b y z ≡ end_or k n (join b c e)
unfolding end_or join
kept_step true k n c y z [] h i = h
kept_step true k n c y z (d ∷ ds) h i = omega (arith, h)
kept_step false k n c y z [] h i = i
kept_step false k n c y z (d ∷ ds) h i = omega (arith, i)

kept_end : (p : ℕ → Bool) (k n : ℕ) (cs : List ℕ) → kept_after p k n cs ≡ end_or k n (ended p cs)
unfolding ended end_or
kept_end p k n [] = refl
kept_end p k n (c ∷ cs) =
    kept_step (p c) k n c _ _ (ended p cs) (kept_end p k (n + 1) cs) (kept_end p (n + 1) (n + 1) cs) ∙ ap (λ l. end_or k n l) (sym (onto_join p c (ended p cs)))

front_step : (b : Bool) (c : ℕ) (cs e : List ℕ) → take (length e) cs ≡ e → take (length (join b c e)) (c ∷ cs) ≡ join b c e
unfolding join
front_step true c cs [] h = refl
front_step false c [] [] h = refl
front_step false c (d ∷ ds) [] h = refl
front_step b c cs (d ∷ ds) h = rw h refl

front_ended : (p : ℕ → Bool) (cs : List ℕ) → take (length (ended p cs)) cs ≡ ended p cs
unfolding ended
front_ended p [] = refl
front_ended p (c ∷ cs) = rw (onto_join p c (ended p cs)) (front_step (p c) c cs (ended p cs) (front_ended p cs))

front_or : (e cs : List ℕ) → take (length e) cs ≡ e → take (end_or 0 0 e) cs ≡ e
unfolding end_or
front_or [] [] h = refl
front_or [] (c ∷ cs) h = refl
front_or (d ∷ ds) cs h = let e : 0 + length (d ∷ ds) ≡ length (d ∷ ds) = omega arith in rw e h

pub kept_is : (p : ℕ → Bool) (cs : List ℕ) → take (kept_after p 0 0 cs) cs ≡ trailing_by p cs
kept_is p cs = rw (kept_end p 0 0 cs, trailing_ended p cs) (front_or (ended p cs) cs (front_ended p cs))

-- ---- a text from its front, in a letter case

pub front_in : (p : ℕ → Bool) (f : ℕ → ℕ) (text behind : List ℕ) (c : ℕ) → text ≡ c ∷ behind → p (f c) ≡ true → leading_by p (map f text) ≡ leading_by p (map f behind)
front_in p f text behind c e h = ap (λ l. leading_by p (map f l)) e ∙ ap (λ b. cond b (leading_by p (map f behind)) (f c ∷ map f behind)) h

pub front_out : (p : ℕ → Bool) (f : ℕ → ℕ) (text behind : List ℕ) (c : ℕ) → text ≡ c ∷ behind → p (f c) ≡ false → leading_by p (map f text) ≡ map f text
front_out p f text behind c e h =
    ap (λ l. leading_by p (map f l)) e ∙ ap (λ b. cond b (leading_by p (map f behind)) (f c ∷ map f behind)) h ∙ ap (map f) (sym e)

-- ---- a text from its end

pub trailing_nil : (p : ℕ → Bool) → trailing_by p [] ≡ []
unfolding trailing_by
trailing_nil p = refl

pub trailing_in : (p : ℕ → Bool) (c : ℕ) (cs : List ℕ) → p c ≡ true → trailing_by p (cs ++ c ∷ []) ≡ trailing_by p cs
unfolding trailing_by
trailing_in p c cs h = ap (λ l. reverse (leading_by p l)) (reverse-append cs (c ∷ [])) ∙ ap reverse (ap (λ b. cond b (leading_by p (reverse cs)) (c ∷ reverse cs)) h)

pub trailing_out : (p : ℕ → Bool) (c : ℕ) (cs : List ℕ) → p c ≡ false → trailing_by p (cs ++ c ∷ []) ≡ cs ++ c ∷ []
unfolding trailing_by
trailing_out p c cs h =
    ap (λ l. reverse (leading_by p l)) (reverse-append cs (c ∷ [])) ∙ ap reverse (ap (λ b. cond b (leading_by p (reverse cs)) (c ∷ reverse cs)) h)
    ∙ reverse_cons c (reverse cs) ∙ ap (λ l. l ++ c ∷ []) (reverse-reverse cs)

-- a text in a letter case, one character from its end
pub cased_in : (p : ℕ → Bool) (f : ℕ → ℕ) (text front : List ℕ) (c : ℕ) → text ≡ front ++ c ∷ [] → p (f c) ≡ true → trailing_by p (map f text) ≡ trailing_by p (map f front)
cased_in p f text front c e h = ap (λ l. trailing_by p (map f l)) e ∙ ap (trailing_by p) (map-append f front (c ∷ [])) ∙ trailing_in p (f c) (map f front) h

pub cased_out : (p : ℕ → Bool) (f : ℕ → ℕ) (text front : List ℕ) (c : ℕ) → text ≡ front ++ c ∷ [] → p (f c) ≡ false → trailing_by p (map f text) ≡ map f text
cased_out p f text front c e h =
    let g : map f text ≡ map f front ++ f c ∷ [] = ap (map f) e ∙ map-append f front (c ∷ []) in
    ap (trailing_by p) g ∙ trailing_out p (f c) (map f front) h ∙ sym g

-- ---- a set by its marks

-- the test answers what the set holds
pub record Tells (p : ℕ → Bool) (set : List ℕ) : Type 0 where
  pub same : (c : ℕ) → p c ≡ contains set c

leading_same : (p : ℕ → Bool) (set cs : List ℕ) → Tells p set → leading_by p cs ≡ without_leading set cs
leading_same p set [] h = refl
leading_same p set (c ∷ cs) h = rw (h.same c, leading_same p set cs h) refl

trailing_same : (p : ℕ → Bool) (set cs : List ℕ) → Tells p set → trailing_by p cs ≡ without_trailing set cs
unfolding trailing_by without_trailing
trailing_same p set cs h = ap reverse (leading_same p set (reverse cs) h)

pub trimmed_same : (side : Side) (p : ℕ → Bool) (set cs : List ℕ) → Tells p set → trimmed_by side p cs ≡ trimmed side set cs
trimmed_same Leading p set cs h = leading_same p set cs h
trimmed_same Trailing p set cs h = trailing_same p set cs h
trimmed_same Both p set cs h = trailing_same p set (leading_by p cs) h ∙ ap (without_trailing set) (leading_same p set cs h)

blank : ℕ → List ℕ
blank n = replicate n 0

zeros : (n i : ℕ) → get_or (blank n) i 0 ≡ zero
unfolding blank
zeros zero i = refl
zeros (suc n) zero = refl
zeros (suc n) (suc i) = zeros n i

no_bit : (n i : ℕ) → n ≡ 0 → (bit_at n i == 1) ≡ false
no_bit n i e = rw (e, bit_at-zero i) refl

pub none_marked : (n d : ℕ) → is_marked (replicate n 0) d ≡ false
unfolding blank
none_marked n d = no_bit (get_or (blank n) (d / 64) 0) (d % 64) (zeros n (d / 64))

-- one more mark
test_same : (c d : ℕ) → c ≡ d → (c == d) ≡ true
test_same c d h = grind (arith, nat_tests)

test_other : (c d : ℕ) → c ≢ d → (c == d) ≡ false
test_other c d h = grind (arith, nat_tests)

eq_cases : (a b : ℕ) → (a ≡ b) ⊎ (a ≢ b)
eq_cases a b = elim (cases_lt a b) [
  | inl h ↦ inr (λ e. absurd (omega arith))
  | inr h ↦ elim (cases_lt b a) [ inl g ↦ inr (λ e. absurd (omega arith)) | inr g ↦ inl (omega arith) ]
]

marked_word : (words : List ℕ) (w i v : ℕ) → i ≡ w → w < length words → get_or (set words w v) i 0 ≡ v
marked_word words w i v e h = rw e (get_or-set_same words w v 0 h)

is_one : (n k m : ℕ) → bit_at n k ≡ m → (bit_at n k == 1) ≡ (m == 1)
is_one n k m e = ap (λ b. b == 1) e

-- the word of c with its bit set
with_bit : List ℕ → ℕ → ℕ
with_bit words c = bit_or (get_or words (c / 64) 0) (1 * 2 ^ (c % 64) % 2 ^ 64)

bit_there : (words : List ℕ) (c : ℕ) → bit_at (with_bit words c) (c % 64) ≡ 1
unfolding with_bit
bit_there words c = bit_at_set_same w64 (get_or words (c / 64) 0) (c % 64) (omega arith)

bit_else : (words : List ℕ) (c i : ℕ) → i ≢ c % 64 → bit_at (with_bit words c) i ≡ bit_at (get_or words (c / 64) 0) i
unfolding with_bit
bit_else words c i h = bit_at_set_other w64 (get_or words (c / 64) 0) (c % 64) (omega arith) i h

mark_same : (words : List ℕ) (c d : ℕ) → c / 64 < length words → c ≡ d → is_marked (set words (c / 64) (with_bit words c)) d ≡ true
mark_same words c d l e =
    is_one (get_or (set words (c / 64) (with_bit words c)) (d / 64) 0) (d % 64) 1
    (ap (λ n. bit_at n (d % 64)) (marked_word words (c / 64) (d / 64) (with_bit words c) (ap (λ n. n / 64) (sym e)) l) ∙ ap (λ k. bit_at (with_bit words c) k) (ap (λ n. n % 64) (sym e)) ∙ bit_there words c)

mark_other : (words : List ℕ) (c d : ℕ) → c / 64 < length words → c ≢ d → (c / 64 ≡ d / 64) ⊎ (c / 64 ≢ d / 64) → is_marked (set words (c / 64) (with_bit words c)) d ≡ is_marked words d
mark_other words c d l h (inl e) =
    is_one (get_or (set words (c / 64) (with_bit words c)) (d / 64) 0) (d % 64) (bit_at (get_or words (d / 64) 0) (d % 64))
    (ap (λ n. bit_at n (d % 64)) (marked_word words (c / 64) (d / 64) (with_bit words c) (sym e) l) ∙ bit_else words c (d % 64) (λ f. absurd (h (omega arith))) ∙ ap (λ i. bit_at (get_or words i 0) (d % 64)) e)
mark_other words c d l h (inr e) =
    is_one (get_or (set words (c / 64) (with_bit words c)) (d / 64) 0) (d % 64) (bit_at (get_or words (d / 64) 0) (d % 64))
    (ap (λ n. bit_at n (d % 64)) (get_or-set_other words (c / 64) (d / 64) (with_bit words c) 0 (λ f. e (sym f))))

one_more : (words : List ℕ) (c d : ℕ) → c / 64 < length words → (c ≡ d) ⊎ (c ≢ d) → is_marked (set words (c / 64) (with_bit words c)) d ≡ ((c == d) || is_marked words d)
one_more words c d l (inl e) = mark_same words c d l e ∙ sym (ap (λ b. b || is_marked words d) (test_same c d e))
one_more words c d l (inr e) = mark_other words c d l e (eq_cases (c / 64) (d / 64)) ∙ sym (ap (λ b. b || is_marked words d) (test_other c d e))

swap_or : (x y r t m : Bool) → m ≡ (x || y) → (y || (x || r)) ≡ t → (m || r) ≡ t
swap_or true y r t m e h = ap (λ b. b || r) e ∙ sym (or_true y r) ∙ h
  where
    or_true : (y r : Bool) → (y || (true || r)) ≡ true
    or_true true r = refl
    or_true false r = refl
swap_or false y r t m e h = ap (λ b. b || r) e ∙ h

-- what is marked or still to come stays
pub marked_step : (words cs rest : List ℕ) (c v d : ℕ) (t : Bool) → cs ≡ c ∷ rest → c / 64 < length words → v ≡ bit_or (get_or words (c / 64) 0) (1 * 2 ^ (c % 64) % 2 ^ 64)
    → (is_marked words d || contains cs d) ≡ t → (is_marked (set words (c / 64) v) d || contains rest d) ≡ t
unfolding with_bit
marked_step words cs rest c v d t e l is h =
    swap_or (c == d) (is_marked words d) (contains rest d) t (is_marked (set words (c / 64) v) d)
    (ap (λ w. is_marked (set words (c / 64) w) d) is ∙ one_more words c d l (eq_cases c d))
    (ap (λ l. is_marked words d || contains l d) (sym e) ∙ h)
