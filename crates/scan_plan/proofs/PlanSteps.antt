-- What has been found of a query tells its plan, or why it has none.
use Rattle.std.proofs.Common.{◌≡◌, ℕ, ◌<◌, ◌≤◌, nat_lt, true, false, List, length, Option, Some, None, Ok, Err, refl, arith}
use Rattle.std.proofs.lemmas.Bool.Decides.{nat_tests}
use Rattle.sql_grammar.specs.declared.tree.Query.{Query}
use Rattle.scan_plan.specs.declared.columns.Columns.{Columns}
use Rattle.scan_plan.specs.declared.plans.BindFault.{BindFault}
use Rattle.scan_plan.specs.declared.plans.BindFault.TheVariants as fault
use Rattle.scan_plan.specs.Finds.{Finding, has_wrong_source, first_fault, query_finds, used_columns, most_columns, bind_fault}
use Rattle.scan_plan.specs.Plans.{plan_with, planned}

module _ (columns : Columns) (q : Query) where
  pub wrong_source : has_wrong_source columns q.source ≡ true → planned columns q ≡ Err fault.UnsupportedSource
  unfolding planned bind_fault
  wrong_source h = rw h refl

  module _ (own : has_wrong_source columns q.source ≡ false) (finds : List Finding) (are : finds ≡ query_finds columns q) where
    pub path_fault : (f : BindFault) → first_fault finds ≡ Some f → planned columns q ≡ Err f
    unfolding planned bind_fault
    path_fault f h = rw (own, ← are, h) refl

    module _ (fine : first_fault finds ≡ None) (used : List ℕ) (uses : used ≡ used_columns columns finds) where
      pub too_many_used : most_columns < length used → planned columns q ≡ Err fault.TooManyColumns
      unfolding planned bind_fault
      too_many_used h = let over : nat_lt most_columns (length used) ≡ true = grind (arith, nat_tests) in rw (own, ← are, fine, ← uses, over) refl

      pub few_used : length used ≤ most_columns → planned columns q ≡ Ok (plan_with columns q used)
      unfolding planned bind_fault
      few_used h = let over : nat_lt most_columns (length used) ≡ false = grind (arith, nat_tests) in rw (own, ← are, fine, ← uses, over) refl
