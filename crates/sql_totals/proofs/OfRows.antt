-- Rows in two parts, and rows in each aggregate by itself.
use Rattle.std.proofs.Common.{◌≡◌, List, [], ◌∷◌, ◌++◌, ◌↔◌, refl, sym, ◌∙◌, ap}
use Rattle.std.specs.Prelude.{Result, Ok, Err}
use Rattle.sql_bound.specs.declared.tree.BoundAgg.{BoundAgg}
use Rattle.sql_value.specs.declared.value.Value.{Value}
use Rattle.sql_totals.specs.declared.fault.TotalFault.{TotalFault}
use Rattle.sql_totals.specs.Partials.{Partial}
use Rattle.sql_totals.specs.Stepped.{added_one, before, added}
use Rattle.sql_totals.specs.Overall.{and_on, added_all, added_to_one, each_by_itself}

pub in_parts : (aggs : List BoundAgg) (xs ys : List (List Value)) (ts : List Partial)
    → added_all aggs (xs ++ ys) ts ≡ and_on (added_all aggs xs ts) (added_all aggs ys)
in_parts aggs [] ys ts = refl
in_parts aggs (x ∷ xs) ys ts = by (added x aggs ts) (in_parts aggs xs ys)
  where
    by : (o : Result (List Partial) TotalFault) → ((us : List Partial)
        → added_all aggs (xs ++ ys) us ≡ and_on (added_all aggs xs us) (added_all aggs ys))
        → and_on o (added_all aggs (xs ++ ys)) ≡ and_on (and_on o (added_all aggs xs)) (added_all aggs ys)
    by (Ok us) same = same us
    by (Err fault) same = refl

-- the first aggregate, and the others
first_and_others : (a : BoundAgg) (aggs : List BoundAgg) (rows : List (List Value)) (t : Partial) (ts us : List Partial)
    → (added_all (a ∷ aggs) rows (t ∷ ts) ≡ Ok us) ↔ (before (added_to_one a rows t) (added_all aggs rows ts) ≡ Ok us)
first_and_others a aggs [] t ts us = (λ e. e, λ e. e)
first_and_others a aggs (x ∷ xs) t ts us = by (added_one x a t) (added x aggs ts) (λ n ns. first_and_others a aggs xs n ns us)
  where
    late : (o : Result Partial TotalFault) (fault : TotalFault) → before o (Err fault) ≡ Ok us → Err fault ≡ Ok us
    late (Ok n) fault e = e
    late (Err other) fault e = absurd (cc)

    by : (o : Result Partial TotalFault) (p : Result (List Partial) TotalFault)
        → ((n : Partial) (ns : List Partial) → (added_all (a ∷ aggs) xs (n ∷ ns) ≡ Ok us) ↔ (before (added_to_one a xs n) (added_all
        aggs xs ns) ≡ Ok us))
        → (and_on (before o p) (added_all (a ∷ aggs) xs) ≡ Ok us) ↔ (before (and_on o (added_to_one a xs)) (and_on p (added_all aggs
        xs)) ≡ Ok us)
    by (Err fault) p same = (λ e. e, λ e. e)
    by (Ok n) (Err fault) same = (λ e. absurd (cc), late (added_to_one a xs n) fault)
    by (Ok n) (Ok ns) same = same n ns

no_totals : (a : BoundAgg) (aggs : List BoundAgg) (rows : List (List Value)) → added_all (a ∷ aggs) rows [] ≡ Ok []
no_totals a aggs [] = refl
no_totals a aggs (x ∷ xs) = no_totals a aggs xs

no_aggregates : (rows : List (List Value)) (ts : List Partial) → added_all [] rows ts ≡ Ok ts
no_aggregates [] ts = refl
no_aggregates (x ∷ xs) ts = no_aggregates xs ts

others_same : (o : Result Partial TotalFault) (p q : Result (List Partial) TotalFault) (us : List Partial) → ((ns : List Partial)
    → p ≡ Ok ns → q ≡ Ok ns)
    → before o p ≡ Ok us → before o q ≡ Ok us
others_same (Err fault) p q us same e = e
others_same (Ok n) (Err fault) q us same e = absurd (cc)
others_same (Ok n) (Ok ns) q us same e = ap (before (Ok n)) (same ns refl) ∙ e

pub by_itself : (aggs : List BoundAgg) (rows : List (List Value)) (ts us : List Partial)
    → (added_all aggs rows ts ≡ Ok us) ↔ (each_by_itself aggs rows ts ≡ Ok us)
by_itself [] rows ts us = (λ e. sym (no_aggregates rows ts) ∙ e, λ e. no_aggregates rows ts ∙ e)
by_itself (a ∷ aggs) rows [] us = (λ e. sym (no_totals a aggs rows) ∙ e, λ e. no_totals a aggs rows ∙ e)
by_itself (a ∷ aggs) rows (t ∷ ts) us =
    let step = first_and_others a aggs rows t ts us in (
      λ e. others_same (added_to_one a rows t) _ _ us (λ ns. (by_itself aggs rows ts ns).0) (step.0 e),
      λ e. step.1 (others_same (added_to_one a rows t) _ _ us (λ ns. (by_itself aggs rows ts ns).1) e),
    )
