-- Which records a query processes: it ends at its LIMIT, or at the first record that yields a code.
use Rattle.std.specs.Prelude.{◌≡◌, ℕ, zero, suc, Bool, ◌||◌, nat_le, List, [], ◌∷◌, ◌++◌, Option, None, Some, if◌then◌else◌}
use Rattle.select_reply.specs.Yields.{Yield, Yielded, outputs, has_fault}

-- the shortest front that passes the test, or else the whole list
abbrev pub shortest_front : {A : Type 0} → (List A → Bool) → List A → List A
shortest_front test [] = []
shortest_front test (a ∷ rest) = if test [] then [] else a ∷ shortest_front (λ front. test (a ∷ front)) rest

-- the records have as many outputs as the limit says, or one of them yields a code
abbrev pub is_answered : Option ℕ → List Yielded → Bool
is_answered None ys = has_fault ys
is_answered (Some limit) ys = nat_le limit (outputs ys) || has_fault ys

-- the records that are processed: the shortest front that answers the query, or else all
abbrev pub processed : Option ℕ → List Yielded → List Yielded
processed limit ys = shortest_front (is_answered limit) ys

-- where the last record starts, or 0
abbrev pub last_start : List Yielded → ℕ
last_start [] = 0
last_start (y ∷ []) = y.start
last_start (y ∷ z ∷ rest) = last_start (z ∷ rest)

-- the record of totals: it stands at the last record that was processed, and has no bytes of the object
abbrev pub totals_record : List Yielded → Yield → Yielded
totals_record done totals = record { start = last_start done; len = 0; gives = totals }

abbrev pub unless_faulty : List Yielded → Yield → List Yielded
unless_faulty done totals = if has_fault done then done else done ++ totals_record done totals ∷ []

-- with aggregates: the records up to a code, else all and then the record of totals. A limit of 0 processes none and has no
-- totals; any other changes nothing
abbrev pub processed_with_totals : Option ℕ → List Yielded → Yield → List Yielded
processed_with_totals None ys totals = unless_faulty (processed None ys) totals
processed_with_totals (Some zero) ys totals = []
processed_with_totals (Some (suc n)) ys totals = unless_faulty (processed None ys) totals

-- such records are those that are processed where the record of totals is one more of them
abbrev pub TotalsAreOneMore : Type 0
TotalsAreOneMore = (ys : List Yielded) (totals : Yield) → unless_faulty (processed None ys) totals ≡ processed None (ys ++ totals_record ys totals ∷ [])
