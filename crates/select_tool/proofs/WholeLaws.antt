-- The tiles of an object have each record of the whole once, and the replies to them make the reply to the whole.
use Rattle.std.proofs.Common.{◌≡◌, ℕ, ◌+◌, ◌-◌, Bool, true, false, ◌||◌, List, [], ◌∷◌, ◌++◌, length, map, Option, None, Some, Result, Ok, Err, inl, inr, refl, sym, ap, ◌∙◌, subst, append-nil}
use Rattle.std.specs.Prelude.{sum_by, filter, not, if◌then◌else◌}
use Rattle.std.specs.List.{flat_map}
use Rattle.std.proofs.lemmas.List.{map-append}
use Rattle.std.proofs.lemmas.List.Folds.{list_any-append}
use Rattle.std.proofs.lemmas.List.Sums.{sum_by-cons}
use Rattle.event_frame.specs.declared.counts.Counts.{Counts}
use Rattle.scan_ranges.specs.Resolved.{cut_to, resolved}
use Rattle.select_request.specs.Values.{allows_range}
use Rattle.select_request.specs.declared.request.Input.{Input}
use Rattle.select_request.specs.declared.request.Input.TheVariants as input
use Rattle.select_request.specs.declared.request.ScanRange.{ScanRange}
use Rattle.select_request.specs.declared.request.ScanRange.TheVariants.{Between, From}
use Rattle.select_reply.specs.declared.code.Code.{Code}
use Rattle.select_reply.specs.declared.code.Code.TheVariants.{NotBuilt}
use Rattle.select_reply.specs.Events.{payloads}
use Rattle.select_reply.specs.Yields.{Yield, Yielded, silent, writes, fails, is_fault, has_fault, output, total_len, fault}
use Rattle.select_reply.specs.Answers.{processed}
use Rattle.select_reply.specs.Turns.{yielded}
use Rattle.select_reply.specs.declared.outcome.Outcome.{Outcome}
use Rattle.select_job.specs.declared.asked.Asked.{Asked}
use Rattle.select_job.specs.declared.asked.Asked.TheVariants.{Asks}
use Rattle.select_reply.specs.Replies.{ending_of}
use Rattle.select_reply.specs.Tilings.{joined, payload_of as carried_by, payloads_of as carried_by_all, EachTilesJoin, EachTilesFail}
use Rattle.csv_cutter.specs.declared.dialect.Dialect.{Dialect}
use Rattle.csv_cutter.specs.Dialects.{dialect_of}
use Rattle.record_rows.specs.Formats.{format_of, line_delimiter}
use Rattle.record_rows.specs.declared.format.LineFormat.{LineFormat}
use Rattle.scan_plan.specs.declared.columns.Columns.{Columns}
use Rattle.scan_plan.specs.declared.plans.BindFault.{BindFault}
use Rattle.scan_plan.specs.declared.plans.Plan.{Plan}
use Rattle.scan_plan.specs.Plans.{planned, planned_unless, plan_with, bound_selection}
use Rattle.scan_plan.specs.Finds.{query_finds, used_columns, bind_fault}
use Rattle.sql_grammar.specs.declared.tree.Name.{Name}
use Rattle.sql_grammar.specs.declared.tree.Query.{Query}
use Rattle.sql_grammar.specs.declared.tree.Selection.{Selection}
use Rattle.sql_grammar.specs.declared.tree.Selection.TheVariants as selection
use Rattle.line_window.specs.Cuts.{Cut}
use Rattle.select_request.specs.declared.request.Output.{Output}
use Rattle.scan_plan.specs.declared.plans.PlanItems.{PlanItems}
use Rattle.scan_plan.specs.declared.plans.PlanItems.TheVariants as items
use Rattle.sql_totals.specs.Partials.{Partial}
use Rattle.record_stream.specs.Lines.{Lines, IsWithoutTotals, yields_of}
use Rattle.record_stream.specs.Selected.{lies_in, selected_cuts, yields}
use Rattle.record_stream.specs.Tiling.{Ascend, ranges_from, all_yields, EachLineIsInOneTile, EachRangeSelects, EachTilingJoins}
use Rattle.select_job.specs.Jobs.{Job}
use Rattle.planned_lines.specs.declared.planned.Planned.{Planned}
use Rattle.object_plan.specs.Columns.{columns_of}
use Rattle.planned_lines.specs.LineYields.{lines_of, has_aggregates, totals_record, PlannedLinesAreAlone}
use Rattle.select_job.specs.Jobs.{request_with, with_range}
use Rattle.object_plan.specs.Planning.{bound_to, bound_in, planned_over}
use Rattle.select_engine.specs.Chosen.{quoted_dialect, cuts_by, chosen_cuts}
use Rattle.select_engine.specs.Answered.{answered_in, answered_by, answered_with, answered, ended, events_of, yields_over}
use Rattle.select_tool.specs.Replies.{reply_outcome}
use Rattle.select_tool.specs.Tiles.{tile_ranges, tile_of, has_error, any_error}
use Rattle.select_tool.specs.Whole.{places_of, yields_by, yields_in, lines_by, lines_in, has_totals, payload_of, payloads_of, counts_of, summed, whole_of, JoinsTo, MakesWhole, EachTilingMakesWhole}

-- ---- the first record with a code

-- each of the records starts where the test passes
abbrev StartsIn : (ℕ → Bool) → List Yielded → Type 0
StartsIn test [] = Unit {0}
StartsIn test (y ∷ ys) = (test y.start ≡ true) × StartsIn test ys

-- the records have a first code, at a place where the test passes
record HasFirst (test : ℕ → Bool) (ys : List Yielded) : Type 0 where
  code : Code
  at : ℕ
  is : fault (processed None ys) ≡ Some (code, at)
  passes : test at ≡ true

later : (test : ℕ → Bool) (y : Yielded) (ys : List Yielded) → fault (processed None (y ∷ ys)) ≡ fault (processed None ys) → HasFirst test ys → HasFirst test (y ∷ ys)
later test y ys same first = record { code = first.code; at = first.at; is = same ∙ first.is; passes = first.passes }

first_on : (test : ℕ → Bool) (start len : ℕ) (gives : Yield) (ys : List Yielded) → test start ≡ true
    → has_fault (yielded start len gives ∷ ys) ≡ true → (has_fault ys ≡ true → HasFirst test ys) → HasFirst test (yielded start len gives ∷ ys)
first_on test start len silent ys here some rest = later test (yielded start len silent) ys refl (rest some)
first_on test start len (writes bytes) ys here some rest = later test (yielded start len (writes bytes)) ys refl (rest some)
first_on test start len (fails code) ys here some rest = record { code = code; at = start; is = refl; passes = here }

has_first : (test : ℕ → Bool) (ys : List Yielded) → StartsIn test ys → has_fault ys ≡ true → HasFirst test ys
has_first test [] starts some = absurd cc
has_first test (y ∷ ys) starts some = first_on test y.start y.len y.gives ys starts.0 some (has_first test ys starts.1)

-- a filter keeps records that start where its test passes
starts_in : (test : ℕ → Bool) (ys : List Yielded) → StartsIn test (filter (λ y. test y.start) ys)
starts_in test [] = tt
starts_in test (y ∷ ys) =
    let kept = filter (λ (z : Yielded). test z.start) ys in
    let P : Bool → Type 0 = λ b. test y.start ≡ b → StartsIn test (if b then y ∷ kept else kept) in
    (elim (test y.start) as P [ true ↦ λ yes. (yes, starts_in test ys) | false ↦ λ no. starts_in test ys ]) refl

-- ---- lists of tiles

first_of_two : (a b : Bool) → (a || b) ≡ false → a ≡ false
first_of_two false b h = refl
first_of_two true b h = absurd cc

second_of_two : (a b : Bool) → (a || b) ≡ false → b ≡ false
second_of_two false b h = h
second_of_two true b h = absurd cc

-- none of two passes
neither : (a b : Bool) → a ≡ false → b ≡ false → (a || b) ≡ false
neither a b h k = rw (h, k) refl

-- ---- without aggregates

-- no record of totals stands behind the records
no_totals_record : (selected : PlanItems) (names : List (List ℕ)) (output_ : Output) (longest : ℕ) (ts : List Partial)
    → has_aggregates selected ≡ false → totals_record selected names output_ longest ts ≡ None
no_totals_record items.All names output_ longest ts plain = refl
no_totals_record (items.Rows bounds) names output_ longest ts plain = refl
no_totals_record (items.Totals aggs) names output_ longest ts plain = absurd cc

-- ---- an object that allows ranges

unquoted_csv : (quoted : Bool) (dialect : Dialect) → not quoted ≡ true → (if quoted then Some dialect else None) ≡ None
unquoted_csv false dialect allowed = refl
unquoted_csv true dialect allowed = absurd cc

-- its quoted fields hold no record delimiters
unquoted : (input : Input) → allows_range input ≡ true → quoted_dialect input ≡ None
unquoted (input.Csv csv) allowed = unquoted_csv csv.quoted_delimiters (dialect_of csv) allowed
unquoted input.JsonLines allowed = refl
unquoted input.JsonDocument allowed = refl
unquoted input.Parquet allowed = refl

-- the records that are asked for are those that start in the range
range_cuts : (delimiter object : List ℕ) (job : Job) → allows_range job.request.input ≡ true → (range : Option ScanRange)
    → chosen_cuts delimiter (request_with job.request range) object ≡ selected_cuts delimiter object (resolved range (length object))
range_cuts delimiter object job allowed range = ap (λ q. cuts_by q delimiter range object) (unquoted job.request.input allowed)

-- ---- a query that is bound, without a limit

module _ (longest : ℕ) (object : List ℕ) (job : Job) (format : LineFormat) (p : Planned) (has_format : format_of job.request.input ≡ Some format)
    (is_planned : planned_over longest object job.request.input job.query ≡ Ok p) (allowed : allows_range job.request.input ≡ true) where
  bound_lines : Lines
  bound_lines = lines_of format p.columns p.plan job.request.output longest

  abbrev in_places : Option (ℕ × ℕ) → List Yielded
  in_places places = yields (lines_of format p.columns p.plan job.request.output longest) longest (line_delimiter format) object places

  yields_planned : (range : Option ScanRange) → yields_in longest object job range ≡ yields_over format p longest object (request_with job.request range)
  yields_planned range =
      ap (λ f. yields_by longest f (planned_over longest object job.request.input job.query) object (request_with job.request range)) has_format
      ∙ ap (λ q. yields_by longest (Some format) q object (request_with job.request range)) is_planned

  yields_are : (range : Option ScanRange) → yields_in longest object job range ≡ in_places (resolved range (length object))
  yields_are range =
      yields_planned range
      ∙ ap (yields_of (lines_of format p.columns p.plan job.request.output longest) longest) (range_cuts (line_delimiter format) object job allowed range)

  module _ (selects : EachRangeSelects) (alone : IsWithoutTotals (lines_of format p.columns p.plan job.request.output longest)) where
    tile_starts : (range : ScanRange) → StartsIn (lies_in (places_of object range)) (yields_in longest object job (Some range))
    tile_starts range =
        let lines = lines_of format p.columns p.plan job.request.output longest in
        subst (StartsIn (lies_in (places_of object range)))
        (sym (yields_are (Some range) ∙ selects lines longest (line_delimiter format) object (places_of object range) alone))
        (starts_in (lies_in (places_of object range)) (all_yields lines longest (line_delimiter format) object))

  -- what the records of a range yield
  abbrev of_range : ScanRange → List Yielded
  of_range range = yields_in longest object job (Some range)

  abbrev of_ranges : List ScanRange → List (List Yielded)
  of_ranges ranges = map of_range ranges

  -- the ranges have the places of the tiles
  tiles_are : (first : ℕ) (cuts : List ℕ) → map in_places (ranges_from first cuts (length object)) ≡ of_ranges (tile_ranges first cuts)
  unfolding resolved
  tiles_are first [] = ap (λ l. l ∷ []) (sym (yields_are (Some (From first))))
  tiles_are first (cut ∷ cuts) =
      ap (λ l. in_places (cut_to first (cut - 1) (length object)) ∷ l) (tiles_are cut cuts)
      ∙ ap (λ l. l ∷ of_ranges (tile_ranges cut cuts)) (sym (yields_are (Some (Between first (cut - 1)))))

  records_are : (ranges : List ScanRange) → flat_map (λ range. yields_in longest object job (Some range)) ranges ≡ joined (of_ranges ranges)
  records_are [] = refl
  records_are (range ∷ ranges) = ap (λ l. yields_in longest object job (Some range) ++ l) (records_are ranges)

  whole_is : EachTilingJoins → IsWithoutTotals (lines_of format p.columns p.plan job.request.output longest) → (cuts : List ℕ) → Ascend 0 cuts
      → joined (of_ranges (tile_ranges 0 cuts)) ≡ yields_in longest object job None
  whole_is joins alone cuts up =
      ap joined (sym (tiles_are 0 cuts))
      ∙ joins (lines_of format p.columns p.plan job.request.output longest) longest (line_delimiter format) object cuts alone up ∙ sym (yields_are None)

-- ---- and has no limit

module _ (longest : ℕ) (object : List ℕ) (job : Job) (format : LineFormat) (p : Planned) (has_format : format_of job.request.input ≡ Some format)
    (is_planned : planned_over longest object job.request.input job.query ≡ Ok p) (allowed : allows_range job.request.input ≡ true) (selects : EachRangeSelects)
    (alone : IsWithoutTotals (lines_of format p.columns p.plan job.request.output longest)) (plain : has_aggregates p.plan.items ≡ false)
    (unlimited : p.plan.limit ≡ None) where
  abbrev tile : ScanRange → List Yielded
  tile range = yields_in longest object job (Some range)

  abbrev all : List ScanRange → List (List Yielded)
  all ranges = map tile ranges

  answered_is : (range : Option ScanRange) → answered longest object (request_with job.request range) job.query ≡ Ok (processed None (yields_in longest object job range))
  answered_is range =
      let records = yields_over format p longest object (request_with job.request range) in
      ap (λ f. answered_in f longest object (request_with job.request range) job.query) has_format
      ∙ ap (answered_by format longest object (request_with job.request range)) is_planned
      ∙ ap (λ t. Ok (answered_with p.plan.limit records t)) (no_totals_record p.plan.items p.plan.names job.request.output longest _ plain)
      ∙ ap (λ l. Ok (processed l records)) unlimited
      ∙ ap (λ ys. Ok (processed None ys)) (sym (yields_planned longest object job format p has_format is_planned allowed range))

  payload_is : (range : Option ScanRange) → payload_of longest object (Asks (with_range job range)) ≡ carried_by job.request.progress (yields_in longest object job range)
  payload_is range = ap (λ a. payloads (events_of job.request.progress a)) (answered_is range)

  payloads_are : (ranges : List ScanRange) → payloads_of longest object (map (tile_of job) ranges) ≡ carried_by_all job.request.progress (all ranges)
  payloads_are [] = refl
  payloads_are (range ∷ ranges) =
      ap (λ l. payload_of longest object (tile_of job range) ++ l) (payloads_are ranges)
      ∙ ap (λ l. l ++ carried_by_all job.request.progress (all ranges)) (payload_is (Some range))

  ending_is : (range : Option ScanRange) → reply_outcome longest object (Asks (with_range job range))
      ≡ ending_of (processed None (yields_in longest object job range)) (fault (processed None (yields_in longest object job range)))
  ending_is range = ap ended (answered_is range)

  outcome_is : (range : ScanRange) → reply_outcome longest object (tile_of job range) ≡ ending_of (processed None (tile range)) (fault (processed None (tile range)))
  outcome_is range = ending_is (Some range)

  all-cons : (range : ScanRange) (ranges : List ScanRange) → joined (all (range ∷ ranges)) ≡ tile range ++ joined (all ranges)
  all-cons range ranges = refl

  both : (range : ScanRange) (ranges : List ScanRange) → has_fault (joined (all (range ∷ ranges))) ≡ (has_fault (tile range) || has_fault (joined (all ranges)))
  both range ranges = ap has_fault (all-cons range ranges) ∙ list_any-append (λ (y : Yielded). is_fault y.gives) (tile range) (joined (all ranges))

  -- the first tile with a code
  record FirstTile (ranges : List ScanRange) : Type 0 where
    front : List ScanRange
    range : ScanRange
    back : List ScanRange
    split : ranges ≡ front ++ range ∷ back
    fine : has_fault (joined (all front)) ≡ false
    fails_ : has_fault (tile range) ≡ true

  no_tile : has_fault (joined (all [])) ≡ false
  no_tile = refl

  first_tile : (ranges : List ScanRange) → has_fault (joined (all ranges)) ≡ true → FirstTile ranges
  first_tile [] some = absurd (cc (no_tile, some))
  first_tile (range ∷ ranges) some =
      let P : Bool → Type 0 = λ b. has_fault (tile range) ≡ b → FirstTile (range ∷ ranges) in
      (elim (has_fault (tile range)) as P [
        | true ↦ λ here. record { front = []; range = range; back = ranges; split = refl; fine = no_tile; fails_ = here }
        | false ↦ λ clean.
            let rest = first_tile ranges (ap (λ (b : Bool). b || has_fault (joined (all ranges))) (sym clean) ∙ sym (both range ranges) ∙ some) in
            record {
              front = range ∷ rest.front;
              range = rest.range;
              back = rest.back;
              split = ap (λ l. range ∷ l) rest.split;
              fine = both range rest.front ∙ neither (has_fault (tile range)) (has_fault (joined (all rest.front))) clean rest.fine;
              fails_ = rest.fails_;
            }
      ]) refl

  all-split : (front : List ScanRange) (range : ScanRange) (back : List ScanRange) → all (front ++ range ∷ back) ≡ all front ++ tile range ∷ all back
  all-split front range back = map-append tile front (range ∷ back)

  module _ (join : EachTilesJoin) where
    fine_one : (ys : List Yielded) → has_fault ys ≡ false → fault (processed None ys) ≡ None
    fine_one ys clean =
        let one = join false (ys ∷ []) (ap has_fault (append-nil ys) ∙ clean) in
        one.fine [] ys [] refl

    fine_tile : (range : ScanRange) → has_fault (tile range) ≡ false
        → reply_outcome longest object (tile_of job range) ≡ ending_of (processed None (tile range)) None
    fine_tile range clean = outcome_is range ∙ ap (ending_of (processed None (tile range))) (fine_one (tile range) clean)

    none_fails : (ranges : List ScanRange) → has_fault (joined (all ranges)) ≡ false → any_error longest object (map (tile_of job) ranges) ≡ false
    none_fails [] clean = refl
    none_fails (range ∷ ranges) clean =
        let two = sym (both range ranges) ∙ clean in
        let here = fine_tile range (first_of_two (has_fault (tile range)) (has_fault (joined (all ranges))) two) in
        let later_ = none_fails ranges (second_of_two (has_fault (tile range)) (has_fault (joined (all ranges))) two) in
        neither (has_error (reply_outcome longest object (tile_of job range))) (any_error longest object (map (tile_of job) ranges)) (ap has_error here) later_

    -- a count, summed
    summed_is : (count : Counts → ℕ) (of : List Yielded → ℕ) → ((ys : List Yielded) → count (counts_of (ending_of (processed None ys) None)) ≡ of ys)
        → (ranges : List ScanRange) → has_fault (joined (all ranges)) ≡ false
        → summed count longest object (map (tile_of job) ranges) ≡ sum_by of (all ranges)
    summed_is count of same [] clean = refl
    summed_is count of same (range ∷ ranges) clean =
        let two = sym (both range ranges) ∙ clean in
        let here = fine_tile range (first_of_two (has_fault (tile range)) (has_fault (joined (all ranges))) two) in
        let rest = summed_is count of same ranges (second_of_two (has_fault (tile range)) (has_fault (joined (all ranges))) two) in
        sum_by-cons (λ (asked : Asked). count (counts_of (reply_outcome longest object asked))) (tile_of job range) (map (tile_of job) ranges)
        ∙ ap (λ (o : Outcome). count (counts_of o) + summed count longest object (map (tile_of job) ranges)) here
        ∙ ap (λ n. n + summed count longest object (map (tile_of job) ranges)) (same (tile range))
        ∙ ap (λ n. of (tile range) + n) rest ∙ sym (sum_by-cons of (tile range) (map tile ranges))

    module _ (fails_too : EachTilesFail) (cuts : List ℕ) (whole : joined (all (tile_ranges 0 cuts)) ≡ yields_in longest object job None) where
      abbrev done : List Yielded
      done = processed None (yields_in longest object job None)

      to_done : has_fault (yields_in longest object job None) ≡ false → JoinsTo longest object job cuts (ending_of done (fault done))
      to_done clean =
          let tiles_clean = ap has_fault whole ∙ clean in
          let made = join job.request.progress (all (tile_ranges 0 cuts)) tiles_clean in
          let none : fault done ≡ None = fine_one (yields_in longest object job None) clean in
          let same : processed None (joined (all (tile_ranges 0 cuts))) ≡ done = ap (processed None) whole in
          subst (λ (f : Option (Code × ℕ)). JoinsTo longest object job cuts (ending_of done f)) (sym none) (record {
            fine = none_fails (tile_ranges 0 cuts) tiles_clean;
            output = payloads_are (tile_ranges 0 cuts) ∙ made.payloads ∙ ap (carried_by job.request.progress) whole ∙ sym (payload_is None);
            scanned = summed_is (λ (d : Counts). d.scanned) (λ (t : List Yielded). total_len (processed None t)) (λ ys. refl) (tile_ranges 0 cuts) tiles_clean
                ∙ made.scanned ∙ ap total_len same;
            processed = summed_is (λ (d : Counts). d.processed) (λ (t : List Yielded). total_len (processed None t)) (λ ys. refl) (tile_ranges 0 cuts) tiles_clean
                ∙ made.scanned ∙ ap total_len same;
            returned = summed_is (λ (d : Counts). d.returned) (λ (t : List Yielded). length (output (processed None t))) (λ ys. refl) (tile_ranges 0 cuts) tiles_clean
                ∙ made.returned ∙ ap (λ (l : List Yielded). length (output l)) same;
          })

      to_error : has_fault (yields_in longest object job None) ≡ true → JoinsTo longest object job cuts (ending_of done (fault done))
      to_error some =
          let f = first_tile (tile_ranges 0 cuts) (ap has_fault whole ∙ some) in
          let parts : all (tile_ranges 0 cuts) ≡ all f.front ++ tile f.range ∷ all f.back = ap all f.split ∙ all-split f.front f.range f.back in
          let shared = fails_too job.request.progress (all f.front) (tile f.range) (all f.back) f.fine f.fails_ in
          let first = has_first (lies_in (places_of object f.range)) (tile f.range) (tile_starts longest object job format p has_format is_planned allowed selects alone f.range) f.fails_ in
          let in_whole : joined (all f.front ++ tile f.range ∷ all f.back) ≡ yields_in longest object job None = ap joined (sym parts) ∙ whole in
          let is : fault done ≡ Some (first.code, first.at) = ap (λ (ys : List Yielded). fault (processed None ys)) (sym in_whole) ∙ shared.fault ∙ first.is in
          subst (λ (g : Option (Code × ℕ)). JoinsTo longest object job cuts (ending_of done g)) (sym is) (inl (record {
            front = f.front;
            range = f.range;
            back = f.back;
            split = f.split;
            fine = none_fails f.front f.fine;
            error = outcome_is f.range ∙ ap (ending_of (processed None (tile f.range))) first.is;
            place = first.passes;
            output = payloads_are (f.front ++ f.range ∷ []) ∙ ap (carried_by_all job.request.progress) (all-split f.front f.range []) ∙ shared.payloads
                ∙ ap (carried_by job.request.progress) in_whole ∙ sym (payload_is None);
          }))

      joins : JoinsTo longest object job cuts (ending_of done (fault done))
      joins =
          let P : Bool → Type 0 = λ b. has_fault (yields_in longest object job None) ≡ b → JoinsTo longest object job cuts (ending_of done (fault done)) in
          (elim (has_fault (yields_in longest object job None)) as P [ true ↦ to_error | false ↦ to_done ]) refl

      joins_whole : JoinsTo longest object job cuts (reply_outcome longest object (whole_of job))
      joins_whole = subst (JoinsTo longest object job cuts) (sym (ending_is None)) joins

-- ---- a code before the first record

no_records : (longest : ℕ) (object : List ℕ) (job : Job) → ((range : Option ScanRange) → yields_in longest object job range ≡ []) → (ranges : List ScanRange)
    → flat_map (λ range. yields_in longest object job (Some range)) ranges ≡ []
no_records longest object job none [] = refl
no_records longest object job none (range ∷ ranges) = ap (λ l. l ++ flat_map (λ r. yields_in longest object job (Some r)) ranges) (none (Some range)) ∙ no_records longest object job none ranges

fails_alike : (longest : ℕ) (object : List ℕ) (job : Job) (cuts : List ℕ) (code : Code)
    → flat_map (λ range. lines_in object job (Some range)) (tile_ranges 0 cuts) ≡ lines_in object job None
    → ((range : Option ScanRange) → yields_in longest object job range ≡ [])
    → ((range : Option ScanRange) → answered longest object (request_with job.request range) job.query ≡ Err code) → MakesWhole longest object job cuts
fails_alike longest object job cuts code lines none fails_ = record {
  lines = lines;
  records = λ rows. no_records longest object job none (tile_ranges 0 cuts) ∙ sym (none None);
  joined = λ rows unlimited. subst (JoinsTo longest object job cuts) (sym (ap ended (fails_ None))) (inr (record {
    none = none None;
    alike = λ range. ap (events_of job.request.progress) (fails_ (Some range) ∙ sym (fails_ None));
  }));
}

-- ---- the limit of a plan is its query's, and its aggregates are

-- a plan of a query
record IsOf (q : Query) (plan : Plan) : Type 0 where
  limit : plan.limit ≡ q.limit
  totals : has_aggregates plan.items ≡ has_totals q.items

bound_totals : (columns : Columns) (alias : Option Name) (used : List ℕ) (items : Selection)
    → has_aggregates (bound_selection columns alias used items) ≡ has_totals items
bound_totals columns alias used selection.All = refl
bound_totals columns alias used (selection.Rows rows) = refl
bound_totals columns alias used (selection.Totals totals) = refl

plan_of : (columns : Columns) (q : Query) (plan : Plan) → planned columns q ≡ Ok plan → IsOf q plan
unfolding planned
plan_of columns q plan is = by (bind_fault columns q) is
  where
    by : (f : Option BindFault) → planned_unless f (plan_with columns q (used_columns columns (query_finds columns q))) ≡ Ok plan → IsOf q plan
    by None h =
        let same : plan_with columns q (used_columns columns (query_finds columns q)) ≡ plan = cc in
        subst (IsOf q) same (record { limit = refl; totals = bound_totals columns q.alias (used_columns columns (query_finds columns q)) q.items })
    by (Some f) h = absurd cc

module _ (q : Query) (p : Planned) where
  in_plan : (columns : Columns) (r : Result Plan BindFault) → planned columns q ≡ r → bound_to columns r ≡ Ok p → IsOf q p.plan
  in_plan columns (Ok plan) is h =
      let same : record { columns = columns; plan = plan } ≡ p = cc in
      subst (λ (r : Planned). IsOf q r.plan) same (plan_of columns q plan is)
  in_plan columns (Err f) is h = absurd cc

  in_columns : (c : Result Columns Code) → bound_in q c ≡ Ok p → IsOf q p.plan
  in_columns (Ok columns) h = in_plan columns (planned columns q) refl h
  in_columns (Err code) h = absurd cc

-- ---- the lines

module _ (object : List ℕ) (job : Job) (allowed : allows_range job.request.input ≡ true) where
  lines_are : (format : LineFormat) → format_of job.request.input ≡ Some format → (range : Option ScanRange)
      → lines_in object job range ≡ selected_cuts (line_delimiter format) object (resolved range (length object))
  lines_are format has_format range =
      ap (λ f. lines_by f object (request_with job.request range)) has_format ∙ range_cuts (line_delimiter format) object job allowed range

  tile_lines_are : (format : LineFormat) → format_of job.request.input ≡ Some format → (first : ℕ) (cuts : List ℕ)
      → flat_map (λ range. lines_in object job (Some range)) (tile_ranges first cuts)
      ≡ flat_map (selected_cuts (line_delimiter format) object) (ranges_from first cuts (length object))
  unfolding resolved
  tile_lines_are format has_format first [] = ap (λ l. l ++ []) (lines_are format has_format (Some (From first)))
  tile_lines_are format has_format first (cut ∷ cuts) =
      ap (λ l. l ++ flat_map (λ range. lines_in object job (Some range)) (tile_ranges cut cuts)) (lines_are format has_format (Some (Between first (cut - 1))))
      ∙ ap (λ l. selected_cuts (line_delimiter format) object (cut_to first (cut - 1) (length object)) ++ l) (tile_lines_are format has_format cut cuts)

  no_lines : format_of job.request.input ≡ None → (ranges : List ScanRange) → flat_map (λ range. lines_in object job (Some range)) ranges ≡ []
  no_lines none [] = refl
  no_lines none (range ∷ ranges) =
      ap (λ f. lines_by f object (request_with job.request (Some range)) ++ flat_map (λ r. lines_in object job (Some r)) ranges) none ∙ no_lines none ranges

  each_line : EachLineIsInOneTile → (cuts : List ℕ) → Ascend 0 cuts → (f : Option LineFormat) → format_of job.request.input ≡ f
      → flat_map (λ range. lines_in object job (Some range)) (tile_ranges 0 cuts) ≡ lines_in object job None
  each_line law cuts up (Some format) is =
      tile_lines_are format is 0 cuts ∙ law (line_delimiter format) object cuts up ∙ sym (lines_are format is None)
  each_line law cuts up None is = no_lines is (tile_ranges 0 cuts) ∙ sym (ap (λ f. lines_by f object (request_with job.request None)) is)

-- ---- every query

module _ (once : EachLineIsInOneTile) (selects : EachRangeSelects) (joins : EachTilingJoins) (lone : PlannedLinesAreAlone) (join : EachTilesJoin) (fails_too : EachTilesFail)
    (longest : ℕ) (object : List ℕ) (job : Job) (cuts : List ℕ) (allowed : allows_range job.request.input ≡ true) (up : Ascend 0 cuts) where
  in_tiles : flat_map (λ range. lines_in object job (Some range)) (tile_ranges 0 cuts) ≡ lines_in object job None
  in_tiles = each_line object job allowed once cuts up (format_of job.request.input) refl

  by_plan : (format : LineFormat) → format_of job.request.input ≡ Some format → (q : Result Planned Code)
      → planned_over longest object job.request.input job.query ≡ q → MakesWhole longest object job cuts
  by_plan format has_format (Ok p) is =
      let of = in_columns job.query p (columns_of job.request.input longest object) is in
      let alone = λ (rows : has_totals job.query.items ≡ false). lone format p.columns p.plan job.request.output longest (of.totals ∙ rows) in
      let whole = λ (rows : has_totals job.query.items ≡ false). whole_is longest object job format p has_format is allowed joins (alone rows) cuts up in
      record {
        lines = in_tiles;
        records = λ rows. records_are longest object job format p has_format is allowed (tile_ranges 0 cuts) ∙ whole rows;
        joined = λ rows unlimited.
            joins_whole longest object job format p has_format is allowed selects (alone rows) (of.totals ∙ rows) (of.limit ∙ unlimited) join fails_too cuts (whole rows);
      }
  by_plan format has_format (Err code) is =
      fails_alike longest object job cuts code in_tiles
      (λ range. ap (λ f. yields_by longest f (planned_over longest object job.request.input job.query) object (request_with job.request range)) has_format
      ∙ ap (λ q. yields_by longest (Some format) q object (request_with job.request range)) is)
      (λ range. ap (λ f. answered_in f longest object (request_with job.request range) job.query) has_format
      ∙ ap (answered_by format longest object (request_with job.request range)) is)

  by_format : (f : Option LineFormat) → format_of job.request.input ≡ f → MakesWhole longest object job cuts
  by_format (Some format) has_format = by_plan format has_format (planned_over longest object job.request.input job.query) refl
  by_format None none =
      fails_alike longest object job cuts NotBuilt in_tiles
      (λ range. ap (λ f. yields_by longest f (planned_over longest object job.request.input job.query) object (request_with job.request range)) none)
      (λ range. ap (λ f. answered_in f longest object (request_with job.request range) job.query) none)

pub each_tiling_makes_whole : EachLineIsInOneTile → EachRangeSelects → EachTilingJoins → PlannedLinesAreAlone → EachTilesJoin → EachTilesFail → EachTilingMakesWhole
each_tiling_makes_whole once selects joins lone join fails_too longest object job cuts allowed up =
    by_format once selects joins lone join fails_too longest object job cuts allowed up (format_of job.request.input) refl
