-- A loop over aggregates: the totals up to a place, in front of what is added to the others.
use Rattle.std.proofs.Common.{◌≡◌, ℕ, zero, suc, ◌+◌, ◌<◌, List, [], ◌∷◌, ◌++◌, length, take, drop, get_or, set, map, refl, sym, ◌∙◌, ap, arith}
use Rattle.std.specs.Prelude.{Result, Ok, Err}
use Rattle.sql_bound.specs.declared.tree.BoundAgg.{BoundAgg}
use Rattle.sql_value.specs.declared.value.Value.{Value}
use Rattle.sql_totals.specs.declared.fault.TotalFault.{TotalFault}
use Rattle.sql_totals.specs.declared.slots.Slot.{Slot}
use Rattle.sql_totals.specs.Partials.{Partial}
use Rattle.sql_totals.specs.Slots.{partial_of}
use Rattle.sql_totals.specs.Stepped.{added_one, before, added}

abbrev pub in_front : List Partial → Result (List Partial) TotalFault → Result (List Partial) TotalFault
in_front ts (Err fault) = Err fault
in_front ts (Ok us) = Ok (ts ++ us)

-- the aggregates from a place on are still to be added to
abbrev pub added_from : List Value → ℕ → List BoundAgg → List Partial → Result (List Partial) TotalFault
added_from cells i aggs ts = in_front (take i ts) (added cells (drop i aggs) (drop i ts))

one_further : (n : Partial) (o : Result Partial TotalFault) (p : Result (List Partial) TotalFault) → o ≡ Ok n
    → in_front [] (before o p) ≡ in_front (n ∷ []) p
one_further n (Err fault) p e = absurd (cc)
one_further n (Ok m) (Err fault) e = refl
one_further n (Ok m) (Ok us) e = let same : m ≡ n = cc in ap (λ k. Ok (k ∷ us)) same

same_in_front : (t : Partial) (xs ys : List Partial) (o p : Result (List Partial) TotalFault) → in_front xs o ≡ in_front ys p
    → in_front (t ∷ xs) o ≡ in_front (t ∷ ys) p
same_in_front t xs ys (Err fault) (Err other) e = e
same_in_front t xs ys (Err fault) (Ok us) e = absurd (cc)
same_in_front t xs ys (Ok us) (Err fault) e = absurd (cc)
same_in_front t xs ys (Ok us) (Ok vs) e = let same : xs ++ us ≡ ys ++ vs = cc in ap (λ l. Ok (t ∷ l)) same

same_added : (cells : List Value) (a b : BoundAgg) (s u : Slot) (o : Result Partial TotalFault) → a ≡ b → s ≡ u
    → added_one cells a (partial_of s) ≡ o
    → added_one cells b (partial_of u) ≡ o
same_added cells a b s u o agg slot e = ap (λ c. added_one cells c (partial_of u)) (sym agg)
    ∙ ap (λ v. added_one cells a (partial_of v)) (sym slot) ∙ e

step : (cells : List Value) (i : ℕ) (aggs : List BoundAgg) (slots : List Slot) (a : BoundAgg) (s n : Slot)
    → i < length aggs → i < length slots → a ≡ get_or aggs i a → s ≡ get_or slots i s → added_one cells a (partial_of s) ≡ Ok (partial_of n)
    → added_from cells i aggs (map partial_of slots) ≡ added_from cells (suc i) aggs (map partial_of (set slots i n))
step cells i [] slots a s n le lt x y e = absurd (omega (arith, le))
step cells i (b ∷ aggs) [] a s n le lt x y e = absurd (omega (arith, lt))
step cells zero (b ∷ aggs) (u ∷ slots) a s n le lt x y e =
    one_further (partial_of n) (added_one cells b (partial_of u)) (added cells aggs (map partial_of slots))
    (same_added cells a b s u (Ok (partial_of n)) x y e)
step cells (suc i) (b ∷ aggs) (u ∷ slots) a s n le lt x y e =
    same_in_front (partial_of u) _ _ _ _ (step cells i aggs slots a s n (omega (arith, le)) (omega (arith, lt)) x y e)

pub goes_on : (cells : List Value) (i : ℕ) (aggs : List BoundAgg) (slots : List Slot) (a : BoundAgg) (s n : Slot)
    → i < length aggs → i < length slots → a ≡ get_or aggs i a → s ≡ get_or slots i s → added_one cells a (partial_of s) ≡ Ok (partial_of n)
    → added_from cells i aggs (map partial_of slots) ≡ added_from cells (i + 1) aggs (map partial_of (set slots i n))
goes_on cells i aggs slots a s n le lt x y e =
    let next : suc i ≡ i + 1 = omega arith in
    step cells i aggs slots a s n le lt x y e ∙ ap (λ k. added_from cells k aggs (map partial_of (set slots i n))) next

pub fault_there : (cells : List Value) (i : ℕ) (aggs : List BoundAgg) (slots : List Slot) (a : BoundAgg) (s : Slot) (fault : TotalFault)
    → i < length aggs → i < length slots → a ≡ get_or aggs i a → s ≡ get_or slots i s → added_one cells a (partial_of s) ≡ Err fault
    → added_from cells i aggs (map partial_of slots) ≡ Err fault
fault_there cells i [] slots a s fault le lt x y e = absurd (omega (arith, le))
fault_there cells i (b ∷ aggs) [] a s fault le lt x y e = absurd (omega (arith, lt))
fault_there cells zero (b ∷ aggs) (u ∷ slots) a s fault le lt x y e =
    ap (λ o. in_front [] (before o (added cells aggs (map partial_of slots)))) (same_added cells a b s u (Err fault) x y e)
fault_there cells (suc i) (b ∷ aggs) (u ∷ slots) a s fault le lt x y e =
    by _ _ (fault_there cells i aggs slots a s fault (omega (arith, le)) (omega (arith, lt)) x y e)
  where
    by : (xs : List Partial) (o : Result (List Partial) TotalFault) → in_front xs o ≡ Err fault → in_front (partial_of u ∷ xs) o ≡ Err fault
    by xs (Err other) f = f
    by xs (Ok us) f = absurd (cc)
