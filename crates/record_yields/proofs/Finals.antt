-- Totals from a place on.
use Rattle.std.specs.Prelude.{◌≡◌, ℕ, zero, suc, ◌+◌, ◌<◌, ◌≤◌, List, [], ◌∷◌, length, map, drop, Option, None, Some, Ok, Err, refl}
use Rattle.std.proofs.Common.{ap, sym, ◌∙◌, arith}
use Rattle.sql_timestamp.specs.declared.fault.ValueFault.{ValueFault}
use Rattle.sql_value.specs.Outcomes.{Outcome}
use Rattle.sql_totals.specs.Partials.{Partial, final, final_at}
use Rattle.select_request.specs.declared.request.Output.{Output}
use Rattle.select_reply.specs.Yields.{Yield}
use Rattle.record_yields.specs.Names.{name_at}
use Rattle.record_yields.specs.Projections.{readable, projections, fault_else, first_fault}
use Rattle.record_yields.specs.Totals.{totals_yield}
use Rattle.record_yields.specs.Yields.{of_fields}

next_final : (ts : List Partial) (k : ℕ) → k < length ts → map final (drop k ts) ≡ final_at ts k ∷ map final (drop (suc k) ts)
next_final [] k here = absurd (omega arith)
next_final (t ∷ ts) zero here = refl
next_final (t ∷ ts) (suc k) here = next_final ts k (omega arith)

add_one : (k : ℕ) → suc k ≡ k + 1
add_one k = omega arith

pub total_next : (ts : List Partial) (k : ℕ) → k < length ts → map final (drop k ts) ≡ final_at ts k ∷ map final (drop (k + 1) ts)
total_next ts k here = next_final ts k here ∙ ap (λ j. final_at ts k ∷ map final (drop j ts)) (add_one k)

pub total_none : (ts : List Partial) (k : ℕ) → length ts ≤ k → map final (drop k ts) ≡ []
total_none [] zero past = refl
total_none [] (suc k) past = refl
total_none (t ∷ ts) zero past = absurd (omega arith)
total_none (t ∷ ts) (suc k) past = total_none ts k (omega arith)

first_of : (o : Outcome) (os : List Outcome) → first_fault (o ∷ os) ≡ fault_else (readable o) (first_fault os)
unfolding first_fault
first_of o os = refl

pub first_of_none : first_fault [] ≡ None
unfolding first_fault
first_of_none = refl

faulty : (r : Outcome) (why : ValueFault) (later : Option ValueFault) → Some why ≡ fault_else r None → fault_else r later ≡ Some why
faulty (Ok v) why later is = absurd (cc)
faulty (Err e) why later is = sym is

fine : (r : Outcome) (later : Option ValueFault) → None ≡ fault_else r None → fault_else r later ≡ later
fine (Ok v) later is = refl
fine (Err e) later is = absurd (cc)

module _ (ts : List Partial) (k : ℕ) (here : k < length ts) where
  from_total : first_fault (map final (drop k ts)) ≡ fault_else (readable (final_at ts k)) (first_fault (map final (drop (k + 1) ts)))
  from_total = ap first_fault (total_next ts k here) ∙ first_of (final_at ts k) (map final (drop (k + 1) ts))

  pub total_faulty : (why : ValueFault) → Some why ≡ fault_else (readable (final_at ts k)) None → first_fault (map final (drop k ts)) ≡ Some why
  total_faulty why is = from_total ∙ faulty (readable (final_at ts k)) why (first_fault (map final (drop (k + 1) ts))) is

  pub total_fine : None ≡ fault_else (readable (final_at ts k)) None → first_fault (map final (drop k ts)) ≡ first_fault (map final (drop (k + 1) ts))
  total_fine is = from_total ∙ fine (readable (final_at ts k)) (first_fault (map final (drop (k + 1) ts))) is

pub totals_is : (y : Yield) (names : List (List ℕ)) (output : Output) (longest : ℕ) (ts : List Partial)
    → y ≡ of_fields output longest (projections (name_at names) 0 (map final ts)) → y ≡ totals_yield names output longest ts
unfolding totals_yield
totals_is y names output longest ts is = is
