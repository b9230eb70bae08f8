-- The lines that start in a range are the cuts of that range.
use Rattle.std.proofs.Common.{◌≡◌, ℕ, zero, suc, ◌+◌, ◌-◌, ◌<◌, ◌≤◌, Bool, true, false, ◌&&◌, List, [], ◌∷◌, ◌++◌, length, map, None, Some, refl, sym, ap, ◌∙◌, subst, arith, append-nil, if◌then◌else◌}
use Rattle.std.specs.Prelude.{filter, nat_le}
use Rattle.std.proofs.lemmas.List.Elements.{filter-append}
use Rattle.std.proofs.lemmas.Bool.{le-leb, lt-leb, leb-true, leb-false}
use Rattle.line_window.specs.Starts.{starts, is_start}
use Rattle.line_window.specs.Cuts.{Cut, cut_at, cuts, cuts_in, AdjacentCutsAppend}
use Rattle.record_stream.specs.Selected.{lies_in, selected_cuts}

-- each cut starts from a place on, and before another
abbrev pub Between : ℕ → ℕ → List Cut → Type 0
Between n m [] = Unit {0}
Between n m (cut ∷ cs) = (n ≤ cut.start) × (cut.start < m) × Between n m cs

between_wider : (n m p q : ℕ) (cs : List Cut) → p ≤ n → m ≤ q → Between n m cs → Between p q cs
between_wider n m p q [] low high b = tt
between_wider n m p q (cut ∷ cs) low high b = (omega (arith, b.0), omega (arith, b.1), between_wider n m p q cs low high b.2)

-- the cuts among some places
cuts_between : (d object : List ℕ) (a k : ℕ) → Between a (a + k) (cuts d object a k)
cuts_between d object a zero = tt
cuts_between d object a (suc k) =
    let cut = cut_at d object in
    let later = starts d object (suc a) k in
    let rest : Between a (a + suc k) (map cut later) =
    between_wider (suc a) (suc a + k) a (a + suc k) (map cut later) (omega arith) (omega arith) (cuts_between d object (suc a) k) in
    let P : Bool → Type 0 = λ b. Between a (a + suc k) (map cut (if b then a ∷ later else later)) in
    elim (is_start d object a) as P [ true ↦ (omega arith, omega arith, rest) | false ↦ rest ]

-- cuts within a range, below it and above it
kept_in : (a b n m : ℕ) (cs : List Cut) → a ≤ n → m ≤ b + 1 → Between n m cs → filter (λ (c : Cut). lies_in (Some (a, b)) c.start) cs ≡ cs
kept_in a b n m [] low high between = refl
kept_in a b n m (cut ∷ cs) low high between =
    let from : nat_le a cut.start ≡ true = le-leb a cut.start (omega (arith, between.0)) in
    let to : nat_le cut.start b ≡ true = le-leb cut.start b (omega (arith, between.1)) in
    rw (from, to) (ap (λ l. cut ∷ l) (kept_in a b n m cs low high between.2))

dropped_below : (a b n m : ℕ) (cs : List Cut) → m ≤ a → Between n m cs → filter (λ (c : Cut). lies_in (Some (a, b)) c.start) cs ≡ []
dropped_below a b n m [] low between = refl
dropped_below a b n m (cut ∷ cs) low between =
    let not_from : nat_le a cut.start ≡ false = lt-leb a cut.start (omega (arith, between.1)) in
    rw not_from (dropped_below a b n m cs low between.2)

dropped_above : (a b n m : ℕ) (cs : List Cut) → b < n → Between n m cs → filter (λ (c : Cut). lies_in (Some (a, b)) c.start) cs ≡ []
dropped_above a b n m [] high between = refl
dropped_above a b n m (cut ∷ cs) high between =
    let not_to : nat_le cut.start b ≡ false = lt-leb cut.start b (omega (arith, between.0)) in
    let kept = filter (λ (c : Cut). lies_in (Some (a, b)) c.start) cs in
    let P : Bool → Type 0 = λ t. (if t && nat_le cut.start b then cut ∷ kept else kept) ≡ [] in
    let none = dropped_above a b n m cs high between.2 in
    elim (nat_le a cut.start) as P [ true ↦ rw not_to none | false ↦ none ]

-- the cuts among some places, and those among the places behind them
cuts_then : AdjacentCutsAppend → (d object : List ℕ) (first middle end : ℕ) → first < middle → middle < end
    → cuts d object first (end - first) ≡ cuts d object first (middle - first) ++ cuts d object middle (end - middle)
cuts_then adjacent d object first middle end low high =
    let law = adjacent d object first (middle - 1) (end - 1) (omega arith) (omega arith) in
    let ends_at : end - 1 + 1 ≡ end = omega arith in
    let middle_at : middle - 1 + 1 ≡ middle = omega arith in
    let Law : ℕ → ℕ → Type 0 = λ e m. cuts d object first (e - first) ≡ cuts d object first (m - first) ++ cuts d object m (e - m) in
    subst (λ e. Law e middle) ends_at (subst (λ m. Law (end - 1 + 1) m) middle_at law)

pub no_places : (d object : List ℕ) (p : ℕ) → cuts d object p (p - p) ≡ []
no_places d object p = let none : p - p ≡ 0 = omega arith in rw none refl

-- the same where one of both is empty
pub cuts_joined : AdjacentCutsAppend → (d object : List ℕ) (first middle end : ℕ) → first ≤ middle → middle ≤ end
    → cuts d object first (end - first) ≡ cuts d object first (middle - first) ++ cuts d object middle (end - middle)
cuts_joined adjacent d object first middle end low high =
    let Goal : ℕ → ℕ → ℕ → Type 0 = λ f m e. cuts d object f (e - f) ≡ cuts d object f (m - f) ++ cuts d object m (e - m) in
    let P : Bool → Type 0 = λ b. nat_le (suc first) middle ≡ b → Goal first middle end in
    let Q : Bool → Type 0 = λ b. nat_le (suc middle) end ≡ b → first < middle → Goal first middle end in
    (elim (nat_le (suc first) middle) as P [
      | true ↦ λ below. (elim (nat_le (suc middle) end) as Q [
        | true ↦ λ above less. cuts_then adjacent d object first middle end less (omega (arith, leb-true (suc middle) end above))
        | false ↦ λ above less.
            let same : middle ≡ end = omega (arith, leb-false (suc middle) end above) in
            subst (λ e. Goal first middle e) same
            (sym (ap (λ l. cuts d object first (middle - first) ++ l) (no_places d object middle) ∙ append-nil (cuts d object first (middle - first))))
      ]) refl (omega (arith, leb-true (suc first) middle below))
      | false ↦ λ below.
          let same : first ≡ middle = omega (arith, leb-false (suc first) middle below) in
          subst (λ m. Goal first m end) same (ap (λ l. l ++ cuts d object first (end - first)) (sym (no_places d object first)))
    ]) refl

none_less : (n : ℕ) → n - 0 ≡ n
none_less n = omega arith

-- the lines that start in a range are its cuts
pub range_cuts : AdjacentCutsAppend → (d object : List ℕ) (a b : ℕ) → a ≤ b → b < length object → selected_cuts d object (Some (a, b)) ≡ cuts_in d object a b
unfolding selected_cuts
range_cuts adjacent d object a b low high =
    let n = length object in
    let test : Cut → Bool = λ c. lies_in (Some (a, b)) c.start in
    let c = cuts d object in
    let front = c 0 (a - 0) in
    let here = c a (b + 1 - a) in
    let back = c (b + 1) (n - (b + 1)) in
    let split : c 0 n ≡ front ++ (here ++ back) =
    ap (c 0) (sym (none_less n)) ∙ cuts_joined adjacent d object 0 a n (omega arith) (omega arith)
    ∙ ap (λ l. front ++ l) (cuts_joined adjacent d object a (b + 1) n (omega arith) (omega arith)) in
    let none_below : filter test front ≡ [] = dropped_below a b 0 (0 + (a - 0)) front (omega arith) (cuts_between d object 0 (a - 0)) in
    let all_here : filter test here ≡ here = kept_in a b a (a + (b + 1 - a)) here (omega arith) (omega arith) (cuts_between d object a (b + 1 - a)) in
    let none_above : filter test back ≡ [] =
    dropped_above a b (b + 1) (b + 1 + (n - (b + 1))) back (omega arith) (cuts_between d object (b + 1) (n - (b + 1))) in
    ap (filter test) split ∙ filter-append test front (here ++ back) ∙ ap (λ l. l ++ filter test (here ++ back)) none_below
    ∙ filter-append test here back ∙ ap (λ l. filter test here ++ l) none_above ∙ append-nil (filter test here) ∙ all_here

all_dropped : (cs : List Cut) → filter (λ (c : Cut). lies_in None c.start) cs ≡ []
all_dropped [] = refl
all_dropped (cut ∷ cs) = all_dropped cs

-- a range without a place has no line
pub none_cuts : (d object : List ℕ) → selected_cuts d object None ≡ []
unfolding selected_cuts
none_cuts d object = all_dropped (cuts d object 0 (length object))
