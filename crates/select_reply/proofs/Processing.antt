-- Which records are processed, behind records that don't answer the query yet.
use Rattle.std.proofs.Common.{◌≡◌, ℕ, ◌+◌, ◌-◌, ◌<◌, ◌≤◌, zero, suc, Bool, true, false, ◌||◌, nat_le, List, [], ◌∷◌, ◌++◌, length, Option, None, Some, refl, sym, ap, ◌∙◌, subst, append_assoc, append-nil, arith, if◌then◌else◌}
use Rattle.std.proofs.lemmas.Bool.Decides.{nat_tests}
use Rattle.std.proofs.lemmas.List.Sums.{sum_by-append, sum_by-cons}
use Rattle.std.proofs.lemmas.List.Folds.{list_any-append}
use Rattle.std.proofs.lemmas.Grind.{flat_map-append}
use Rattle.select_reply.specs.declared.code.Code.{Code}
use Rattle.select_reply.specs.Yields.{Yield, silent, writes, fails, Yielded, is_output, is_fault, bytes_of, outputs, has_fault, output, total_len, fault, fault_on}
use Rattle.select_reply.specs.Answers.{is_answered, processed}
use Rattle.select_reply.specs.Begun.{is_full, one_less}
use Rattle.select_reply.specs.Replies.{left_of}
use Rattle.select_reply.proofs.Fronts.{NoFront, front-behind, front-one, front-all, front-is}

pub outputs-append : (xs ys : List Yielded) → outputs (xs ++ ys) ≡ outputs xs + outputs ys
outputs-append xs ys = sum_by-append (λ (y : Yielded). if is_output y.gives then 1 else 0) xs ys

pub outputs-one : (y : Yielded) → outputs (y ∷ []) ≡ (if is_output y.gives then 1 else 0)
outputs-one y = sum_by-cons (λ (z : Yielded). if is_output z.gives then 1 else 0) y [] ∙ omega arith

pub total_len-append : (xs ys : List Yielded) → total_len (xs ++ ys) ≡ total_len xs + total_len ys
total_len-append xs ys = sum_by-append (λ (y : Yielded). y.len) xs ys

pub output-append : (xs ys : List Yielded) → output (xs ++ ys) ≡ output xs ++ output ys
output-append xs ys = flat_map-append (λ (y : Yielded). bytes_of y.gives) xs ys

pub has_fault-append : (xs ys : List Yielded) → has_fault (xs ++ ys) ≡ (has_fault xs || has_fault ys)
has_fault-append xs ys = list_any-append (λ (y : Yielded). is_fault y.gives) xs ys

pub output-one : (y : Yielded) → output (y ∷ []) ≡ bytes_of y.gives
output-one y = append-nil (bytes_of y.gives)

-- ---- answered

left_of_two : (a b : Bool) → (a || b) ≡ false → a ≡ false
left_of_two false b h = refl
left_of_two true b h = absurd cc

right_of_two : (a b : Bool) → (a || b) ≡ false → b ≡ false
right_of_two false b h = h
right_of_two true b h = absurd cc

pub within_limit : (limit n : ℕ) → nat_le limit n ≡ false → n < limit
within_limit limit n h = grind (arith, nat_tests)

pub below_limit : (limit n : ℕ) → n < limit → nat_le limit n ≡ false
below_limit limit n h = grind (arith, nat_tests)

-- records that don't answer the query yield no code
pub unanswered_fine : (limit : Option ℕ) (xs : List Yielded) → is_answered limit xs ≡ false → has_fault xs ≡ false
unanswered_fine None xs h = h
unanswered_fine (Some n) xs h = right_of_two (nat_le n (outputs xs)) (has_fault xs) h

-- nor do their fronts
unanswered_front : (limit : Option ℕ) (xs ys : List Yielded) → is_answered limit (xs ++ ys) ≡ false → is_answered limit xs ≡ false
unanswered_front None xs ys h = left_of_two (has_fault xs) (has_fault ys) (sym (has_fault-append xs ys) ∙ h)
unanswered_front (Some n) xs ys h =
    let fine = left_of_two (has_fault xs) (has_fault ys) (sym (has_fault-append xs ys) ∙ right_of_two (nat_le n (outputs (xs ++ ys))) (has_fault (xs ++ ys)) h) in
    let few : outputs (xs ++ ys) < n = within_limit n (outputs (xs ++ ys)) (left_of_two (nat_le n (outputs (xs ++ ys))) (has_fault (xs ++ ys)) h) in
    let few_here : nat_le n (outputs xs) ≡ false = below_limit n (outputs xs) (omega (arith, outputs-append xs ys)) in
    rw (few_here, fine) refl

pub no_front : (limit : Option ℕ) (done : List Yielded) → is_answered limit done ≡ false → NoFront (is_answered limit) done
no_front limit done h front back is = unanswered_front limit front back (ap (is_answered limit) (sym is) ∙ h)

pub front_unanswered : (limit : Option ℕ) (done : List Yielded) (y : Yielded) → is_answered limit (done ++ y ∷ []) ≡ false → is_answered limit done ≡ false
front_unanswered limit done y h = unanswered_front limit done (y ∷ []) h

pub processed-all : (limit : Option ℕ) (done : List Yielded) → is_answered limit done ≡ false → processed limit done ≡ done
processed-all limit done h = front-all (is_answered limit) done (no_front limit done h)

pub processed-one : (limit : Option ℕ) (done : List Yielded) (y : Yielded) (rest : List Yielded) → is_answered limit done ≡ false → is_answered limit (done ++ y ∷ []) ≡ true
    → processed limit (done ++ y ∷ rest) ≡ done ++ y ∷ []
processed-one limit done y rest h g = front-one (is_answered limit) done y rest (no_front limit done h) g

pub processed-behind : (limit : Option ℕ) (done rest : List Yielded) → is_answered limit done ≡ false
    → (more : List Yielded) × (processed limit (done ++ rest) ≡ done ++ more) × ((back : List Yielded) × (rest ≡ more ++ back))
processed-behind limit done rest h =
    (_, front-behind (is_answered limit) done rest (no_front limit done h), front-is (λ front. is_answered limit (done ++ front)) rest)

-- ---- the first code

fine_on : (start : ℕ) (gives : Yield) (later : Bool) → (is_fault gives || later) ≡ false → (found : Option (Code × ℕ)) → (fault_on start gives found ≡ found) × (later ≡ false)
fine_on start silent later h found = (refl, h)
fine_on start (writes bytes) later h found = (refl, h)
fine_on start (fails code) later h found = absurd cc

pub fault-append : (xs ys : List Yielded) → has_fault xs ≡ false → fault (xs ++ ys) ≡ fault ys
fault-append [] ys h = refl
fault-append (x ∷ xs) ys h =
    let here = fine_on x.start x.gives (has_fault xs) h (fault (xs ++ ys)) in
    here.0 ∙ fault-append xs ys here.1

pub fault-none : (xs : List Yielded) → has_fault xs ≡ false → fault xs ≡ None
fault-none xs h = ap fault (sym (append-nil xs)) ∙ fault-append xs [] h

-- ---- what the limit leaves
