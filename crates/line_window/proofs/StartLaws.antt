-- The laws of starts and cuts, for any delimiter: adjacent ranges append, near bytes tell them, and places without a start are passed.
use Rattle.std.proofs.Common.{◌≡◌, ℕ, zero, suc, ◌+◌, ◌-◌, ◌<◌, ◌≤◌, min, Bool, true, false, ◌&&◌, ◌||◌, ◌==◌, List, [], ◌∷◌, ◌++◌, map, length, take, drop, refl, sym, ap, ◌∙◌, subst, arith, inl, inr, length-take, length-drop}
use Rattle.std.proofs.lemmas.List.{drop-take, drop-drop, take-take, map-append}
use Rattle.std.proofs.lemmas.Slice.Eq.{bytes_eq-Decides}
use Rattle.std.proofs.lemmas.Bool.{cases_lt, lt-ltb, le-ltb, lt-leb, le-leb, ne_eqb, and_left, and_from, or_right, false≢true}
use Rattle.std.specs.Prelude.{bytes_eq, nat_lt, nat_le, if◌then◌else◌}
use Rattle.line_window.specs.Starts.{ends_at, is_start, starts, starts_in, AdjacentStartsAppend, NearBytesTell}
use Rattle.line_window.specs.Cuts.{cut_at, cuts, AdjacentCutsAppend}
use Rattle.line_window.specs.Delimiters.{StandsAt}

-- a first element that is there or not goes before what is joined
if_cons-append : (b : Bool) (a : ℕ) (xs ys zs : List ℕ) → xs ≡ ys ++ zs
    → (if b then a ∷ xs else xs) ≡ (if b then a ∷ ys else ys) ++ zs
if_cons-append true a xs ys zs e = ap (λ l. a ∷ l) e
if_cons-append false a xs ys zs e = e

-- the starts among j places, then those among the next k, are those among j + k
pub starts-append : (d object : List ℕ) (p j k : ℕ) → starts d object p (j + k) ≡ starts d object p j ++ starts d object (p + j) k
starts-append d object p zero k =
    let none : 0 + k ≡ k = omega arith in
    let here : p + 0 ≡ p = omega arith in
    rw (none, here) refl
starts-append d object p (suc j) k =
    let more : suc j + k ≡ suc (j + k) = omega arith in
    let on : p + suc j ≡ suc p + j = omega arith in
    rw (more, on) (if_cons-append (is_start d object p) p _ _ _ (starts-append d object (suc p) j k))

pub adjacent_starts_append : AdjacentStartsAppend
adjacent_starts_append d object first middle last low high =
    let all : last + 1 - first ≡ (middle + 1 - first) + (last + 1 - (middle + 1)) = omega arith in
    let on : first + (middle + 1 - first) ≡ middle + 1 = omega arith in
    subst (λ n. starts d object first n ≡ starts_in d object first middle ++ starts_in d object (middle + 1) last) (sym all)
    (subst (λ q. starts d object first ((middle + 1 - first) + (last + 1 - (middle + 1))) ≡ starts_in d object first middle ++ starts d object q (last + 1 - (middle + 1))) on
    (starts-append d object first (middle + 1 - first) (last + 1 - (middle + 1))))

pub adjacent_cuts_append : AdjacentCutsAppend
adjacent_cuts_append d object first middle last low high =
    ap (map (cut_at d object)) (adjacent_starts_append d object first middle last low high)
    ∙ map-append (cut_at d object) (starts_in d object first middle) (starts_in d object (middle + 1) last)

-- objects with the same starts one by one have the same list of starts
pub starts-same : (d one other : List ℕ) (p k : ℕ) → ((q : ℕ) → p ≤ q → q < p + k → is_start d one q ≡ is_start d other q)
    → starts d one p k ≡ starts d other p k
starts-same d one other p zero same = refl
starts-same d one other p (suc k) same =
    let here : is_start d one p ≡ is_start d other p = same p (omega arith) (omega arith) in
    let later : starts d one (suc p) k ≡ starts d other (suc p) k = starts-same d one other (suc p) k (λ q low high. same q (omega arith) (omega arith)) in
    rw (here, later) refl

-- a piece of a piece is a piece
pub take-drop-take-drop : (xs : List ℕ) (k w i m : ℕ) → i + m ≤ w → take m (drop i (take w (drop k xs))) ≡ take m (drop (k + i) xs)
take-drop-take-drop xs k w i m fits =
    let split : w ≡ i + (w - i) = omega arith in
    let short : m ≤ w - i = omega arith in
    ap (λ n. take m (drop i (take n (drop k xs)))) split
    ∙ ap (take m) (drop-take i (w - i) (drop k xs))
    ∙ take-take m (w - i) (drop i (drop k xs)) short
    ∙ ap (take m) (drop-drop i k xs)

-- whether the object goes on at a place of the piece that both have
goes_on-same : (one other : List ℕ) (k w q : ℕ) → take w (drop k one) ≡ take w (drop k other) → k ≤ q → q < k + w
    → nat_lt q (length one) ≡ nat_lt q (length other)
goes_on-same one other k w q same low high =
    let lengths : min w (length one - k) ≡ min w (length other - k) =
    ap (λ n. min w n) (sym (length-drop k one)) ∙ sym (length-take w (drop k one)) ∙ ap length same
    ∙ length-take w (drop k other) ∙ ap (λ n. min w n) (length-drop k other) in
    elim (cases_lt q (length one)) [
      | inl goes_on ↦ lt-ltb q (length one) goes_on ∙ sym (lt-ltb q (length other) (omega arith))
      | inr ends ↦ le-ltb q (length one) ends ∙ sym (le-ltb q (length other) (omega arith))
    ]

-- whether the delimiter ends at a place of the piece that both have
ends_at-same : (d one other : List ℕ) (first w q : ℕ)
    → take w (drop (first - length d) one) ≡ take w (drop (first - length d) other) → first ≤ q → q ≤ first - length d + w
    → ends_at d one q ≡ ends_at d other q
ends_at-same d one other first w q same low high =
    elim (cases_lt q (length d)) [
      | inl early ↦ and_left _ _ (lt-leb (length d) q early) ∙ sym (and_left _ _ (lt-leb (length d) q early))
      | inr late ↦
          let k = first - length d in
          let i = q - length d - k in
          let at : k + i ≡ q - length d = omega arith in
          let fits : i + length d ≤ w = omega arith in
          let piece : take (length d) (drop (q - length d) one) ≡ take (length d) (drop (q - length d) other) =
          ap (λ n. take (length d) (drop n one)) (sym at)
          ∙ sym (take-drop-take-drop one k w i (length d) fits)
          ∙ ap (λ l. take (length d) (drop i l)) same
          ∙ take-drop-take-drop other k w i (length d) fits
          ∙ ap (λ n. take (length d) (drop n other)) at in
          ap (λ l. nat_le (length d) q && bytes_eq l d) piece
    ]

pub near_bytes_tell : NearBytesTell
near_bytes_tell d one other first last ordered same =
    let w = last + 1 - (first - length d) in
    starts-same d one other first (last + 1 - first) (λ q low high.
    let goes : nat_lt q (length one) ≡ nat_lt q (length other) =
    goes_on-same one other (first - length d) w q same (omega arith) (omega arith) in
    let ends : ends_at d one q ≡ ends_at d other q = ends_at-same d one other first w q same low (omega arith) in
    ap (λ b. b && (q == 0 || ends_at d one q)) goes ∙ ap (λ b. nat_lt q (length other) && (q == 0 || b)) ends)

-- a test that can't be true
false_from : (b : Bool) → (b ≡ true → ⊥) → b ≡ false
false_from true never = absurd (never refl)
false_from false never = refl

and_none : (b : Bool) → (b && false) ≡ false
and_none true = refl
and_none false = refl

-- a line starts behind the delimiter
pub start_behind : (d object : List ℕ) (p : ℕ) → length d ≤ p → p < length object → StandsAt d object (p - length d) → is_start d object p ≡ true
start_behind d object p fits within stands =
    let ends : ends_at d object p ≡ true =
    and_from _ _ (le-leb (length d) p fits) ((bytes_eq-Decides (take (length d) (drop (p - length d) object)) d).1 stands) in
    and_from _ _ (lt-ltb p (length object) within) (or_right _ _ ends)

-- and nowhere else
pub no_start : (d object : List ℕ) (p : ℕ) → (p ≡ 0 → ⊥) → (length d ≤ p → StandsAt d object (p - length d) → ⊥) → is_start d object p ≡ false
no_start d object p some clear =
    let piece : List ℕ = take (length d) (drop (p - length d) object) in
    let ends : ends_at d object p ≡ false =
    elim (cases_lt p (length d)) [
      | inl early ↦ and_left _ _ (lt-leb (length d) p early)
      | inr late ↦
          ap (λ b. nat_le (length d) p && b) (false_from (bytes_eq piece d) (λ is. clear late ((bytes_eq-Decides piece d).0 is)))
          ∙ and_none (nat_le (length d) p)
    ] in
    ap (λ b. nat_lt p (length object) && (b || ends_at d object p)) (ne_eqb p 0 some)
    ∙ ap (λ b. nat_lt p (length object) && b) ends
    ∙ and_none (nat_lt p (length object))

-- what a start behind the object's front tells
pub behind_start : (d object : List ℕ) (p : ℕ) → is_start d object p ≡ true → 0 < p → (length d ≤ p) × StandsAt d object (p - length d)
behind_start d object p is some =
    let piece : List ℕ = take (length d) (drop (p - length d) object) in
    let none : (p ≡ 0) → ⊥ = λ e. absurd (omega arith) in
    elim (cases_lt p (length d)) [
      | inl early ↦
          absurd (false≢true (sym (no_start d object p none (λ fits stands. absurd (omega arith))) ∙ is))
      | inr late ↦ (
        late,
        (bytes_eq-Decides piece d).0
            (elim_true (bytes_eq piece d) (λ other. absurd (false≢true (
            sym (no_start d object p none (λ fits stands. false≢true (sym other ∙ (bytes_eq-Decides piece d).1 stands))) ∙ is)))),
      )
    ]
  where
    elim_true : (b : Bool) → (b ≡ false → ⊥) → b ≡ true
    elim_true true never = refl
    elim_true false never = absurd (never refl)

-- no place among k is a start
no_starts : (d object : List ℕ) (p k : ℕ) → ((q : ℕ) → p ≤ q → q < p + k → is_start d object q ≡ false) → starts d object p k ≡ []
no_starts d object p zero clear = refl
no_starts d object p (suc k) clear =
    let here : is_start d object p ≡ false = clear p (omega arith) (omega arith) in
    rw here (no_starts d object (suc p) k (λ q low high. clear q (omega arith) (omega arith)))

-- places that are no starts are passed
pub starts_passed : (d object : List ℕ) (p q stop : ℕ) → p ≤ q → ((r : ℕ) → p ≤ r → r < q → is_start d object r ≡ false)
    → starts d object p (stop - p) ≡ starts d object q (stop - q)
starts_passed d object p q stop onwards clear =
    elim (cases_lt stop q) [
      | inl short ↦
          let none : stop - q ≡ 0 = omega arith in
          no_starts d object p (stop - p) (λ r low high. clear r low (omega arith)) ∙ sym (ap (starts d object q) none)
      | inr long ↦
          let split : stop - p ≡ (q - p) + (stop - q) = omega arith in
          let on : p + (q - p) ≡ q = omega arith in
          ap (starts d object p) split
          ∙ starts-append d object p (q - p) (stop - q)
          ∙ ap (λ l. l ++ starts d object (p + (q - p)) (stop - q)) (no_starts d object p (q - p) (λ r low high. clear r low (omega arith)))
          ∙ ap (λ r. starts d object r (stop - q)) on
    ]

pub cuts_passed : (d object : List ℕ) (p q stop : ℕ) → p ≤ q → ((r : ℕ) → p ≤ r → r < q → is_start d object r ≡ false)
    → cuts d object q (stop - q) ≡ cuts d object p (stop - p)
cuts_passed d object p q stop onwards clear = ap (map (cut_at d object)) (sym (starts_passed d object p q stop onwards clear))

-- a start in the range is the first of those from it on
pub first_cut : (d object : List ℕ) (p stop : ℕ) → is_start d object p ≡ true → p < stop
    → cuts d object p (stop - p) ≡ cut_at d object p ∷ cuts d object (p + 1) (stop - (p + 1))
first_cut d object p stop is within =
    let more : stop - p ≡ suc (stop - (p + 1)) = omega arith in
    let on : p + 1 ≡ suc p = omega arith in
    let first : starts d object p (stop - p) ≡ p ∷ starts d object (p + 1) (stop - (p + 1)) =
    ap (starts d object p) more
    ∙ ap (λ b. if b then p ∷ starts d object (suc p) (stop - (p + 1)) else starts d object (suc p) (stop - (p + 1))) is
    ∙ ap (λ r. p ∷ starts d object r (stop - (p + 1))) (sym on) in
    ap (map (cut_at d object)) first
