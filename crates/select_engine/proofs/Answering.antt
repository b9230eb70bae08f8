-- The records of an answer with aggregates are those that are processed where the record of totals is one more of them.
use Rattle.std.proofs.Common.{◌≡◌, ℕ, zero, suc, Bool, true, false, List, [], ◌∷◌, ◌++◌, length, Option, None, Some, Ok, refl, sym, ap, ◌∙◌}
use Rattle.std.specs.Prelude.{if◌then◌else◌}
use Rattle.select_request.specs.declared.request.Output.{Output}
use Rattle.scan_plan.specs.declared.plans.PlanItems.{PlanItems}
use Rattle.scan_plan.specs.declared.plans.PlanItems.TheVariants as items
use Rattle.select_reply.specs.Yields.{Yield, silent, writes, fails, Yielded, has_fault}
use Rattle.select_reply.specs.Turns.{yielded}
use Rattle.select_reply.specs.Answers.{shortest_front, processed, totals_record, unless_faulty, processed_with_totals, TotalsAreOneMore}
use Rattle.sql_totals.specs.Partials.{Partial}
use Rattle.record_stream.specs.Lines.{ended_by}
use Rattle.planned_lines.specs.LineYields.{has_aggregates, no_totals, totals_with_all, rows_of, totals_record as record_of_totals, PlannedLinesEndWithTotals}
use Rattle.record_rows.specs.Formats.{format_of, line_delimiter}
use Rattle.select_ports.specs.Streams.{AppendsFront}
use Rattle.std.proofs.KnownBytes.{Appends-nil}
use Rattle.record_rows.specs.declared.format.LineFormat.{LineFormat}
use Rattle.planned_lines.specs.declared.planned.Planned.{Planned}
use Rattle.object_plan.specs.Planning.{planned_over}
use Rattle.select_request.specs.declared.request.SelectRequest.{SelectRequest}
use Rattle.sql_grammar.specs.declared.tree.Query.{Query}
use Rattle.select_engine.specs.Chosen.{chosen_cuts}
use Rattle.select_engine.specs.Answered.{answered_with, answered_by, answered_in, answered, totals_over, yields_over}
use Rattle.select_engine.specs.Due.{limit_unless_totals, limit_of, records_over}

stopped : (test : List Yielded → Bool) (ys : List Yielded) → test [] ≡ true → shortest_front test ys ≡ []
stopped test [] is = refl
stopped test (y ∷ ys) is = rw is refl

one_faulty : (start len : ℕ) (gives : Yield) (ys more : List Yielded) → has_fault (yielded start len gives ∷ ys) ≡ true
    → (has_fault ys ≡ true → processed None ys ≡ processed None (ys ++ more))
    → processed None (yielded start len gives ∷ ys) ≡ processed None ((yielded start len gives ∷ ys) ++ more)
one_faulty start len silent ys more faulty rest = ap (λ l. yielded start len silent ∷ l) (rest faulty)
one_faulty start len (writes bytes) ys more faulty rest = ap (λ l. yielded start len (writes bytes) ∷ l) (rest faulty)
one_faulty start len (fails code) ys more faulty rest =
    let test : List Yielded → Bool = λ front. has_fault (yielded start len (fails code) ∷ front) in
    ap (λ l. yielded start len (fails code) ∷ l) (stopped test ys refl ∙ sym (stopped test (ys ++ more) refl))

-- behind a code no record is processed
faulty_alone : (ys more : List Yielded) → has_fault ys ≡ true → processed None ys ≡ processed None (ys ++ more)
faulty_alone [] more faulty = absurd (cc)
faulty_alone (y ∷ ys) more faulty = one_faulty y.start y.len y.gives ys more faulty (faulty_alone ys more)

none_allowed : (ys : List Yielded) → processed (Some 0) ys ≡ []
none_allowed [] = refl
none_allowed (y ∷ ys) = refl

module _ (law : TotalsAreOneMore) (ys : List Yielded) (t : Yield) where
  with_totals : processed None (unless_faulty ys t) ≡ unless_faulty (processed None ys) t
  with_totals =
      let P : Bool → Type 0 = λ b. has_fault ys ≡ b
      → processed None (if b then ys else ys ++ totals_record ys t ∷ []) ≡ unless_faulty (processed None ys) t in
      (elim (has_fault ys) as P [
        | true ↦ λ is. faulty_alone ys (totals_record ys t ∷ []) is ∙ sym (law ys t)
        | false ↦ λ is. sym (law ys t)
      ]) refl

  by_limit : (limit : Option ℕ) → processed (limit_unless_totals true limit) (unless_faulty ys t) ≡ processed_with_totals limit ys t
  by_limit None = with_totals
  by_limit (Some zero) = none_allowed (unless_faulty ys t)
  by_limit (Some (suc n)) = with_totals

-- what is streamed is what is answered
pub answered_is : TotalsAreOneMore → (selected : PlanItems) (limit : Option ℕ) (names : List (List ℕ)) (output : Output) (longest : ℕ) (ts : List Partial) (ys : List Yielded)
    → processed (limit_unless_totals (has_aggregates selected) limit) (ended_by ys (record_of_totals selected names output longest ts))
    ≡ answered_with limit ys (record_of_totals selected names output longest ts)
answered_is law items.All limit names output longest ts ys = refl
answered_is law (items.Rows bounds) limit names output longest ts ys = refl
answered_is law (items.Totals aggs) limit names output longest ts ys = by_limit law ys _ limit

-- a front of nothing was written
pub nothing_written : (now : Option (List ℕ)) (bytes : List ℕ) → AppendsFront now now bytes
nothing_written now bytes = record { front = []; is_front = record { rest = bytes; joined = refl }; appended = Appends-nil now }

module _ (law : TotalsAreOneMore) (ends : PlannedLinesEndWithTotals) (longest : ℕ) (object : List ℕ) (request : SelectRequest) (format : LineFormat) (p : Planned) where
  streamed_is : processed (limit_of p.plan) (records_over format p longest object request)
      ≡ answered_with p.plan.limit (yields_over format p longest object request) (totals_over format p longest object request)
  streamed_is =
      let cuts = chosen_cuts (line_delimiter format) request object in
      let ys = yields_over format p longest object request in
      ap (λ e. processed (limit_of p.plan) (ended_by ys e)) (ends format p.columns p.plan request.output longest cuts)
      ∙ answered_is law p.plan.items p.plan.limit p.plan.names request.output longest
      (totals_with_all p.plan.items p.plan.filter (rows_of format longest cuts) (no_totals p.plan.items)) ys

  pub answered_by_plan : (query : Query) → format_of request.input ≡ Some format → planned_over longest object request.input query ≡ Ok p
      → answered longest object request query ≡ Ok (processed (limit_of p.plan) (records_over format p longest object request))
  answered_by_plan query has_format is_planned =
      let as_planned : answered longest object request query
      ≡ Ok (answered_with p.plan.limit (yields_over format p longest object request) (totals_over format p longest object request)) =
      ap (λ f. answered_in f longest object request query) has_format ∙ ap (answered_by format longest object request) is_planned in
      as_planned ∙ ap Ok (sym streamed_is)
