-- The summary over the sample object and its tiles.
use Rattle.std.proofs.Common.{◌≡◌, ℕ, ◌+◌, ◌≤◌, Bool, true, false, ◌&&◌, List, [], ◌∷◌, ◌++◌, length, map, Option, None, Some, Result, Ok, Err, IfOk, refl, sym, ap, ◌∙◌, subst, arith, append_assoc, append-nil, add-one}
use Rattle.std.specs.Prelude.{is_none, not}
use Rattle.std.proofs.lemmas.List.{length-append}
use Rattle.sample_objects.specs.Objects.{sample, head_of, lines_below}
use Rattle.sample_objects.specs.declared.kind.SampleKind.TheVariants.{Csv}
use Rattle.record_stream.specs.Tiling.{Ascend}
use Rattle.select_request.specs.Values.{allows_range}
use Rattle.select_request.specs.declared.request.ScanRange.{ScanRange}
use Rattle.select_reply.specs.declared.outcome.Outcome.{Outcome}
use Rattle.select_reply.specs.declared.outcome.Outcome.TheVariants.{Done, Faulted}
use Rattle.select_job.specs.declared.asked.Asked.{Asked}
use Rattle.select_job.specs.declared.asked.Asked.TheVariants.{Refused, Asks}
use Rattle.select_job.specs.Jobs.{Job, with_range}
use Rattle.select_job.specs.Prepared.{Prepares}
use Rattle.select_tool.specs.Words.{longest_record}
use Rattle.select_tool.specs.Replies.{reply_outcome}
use Rattle.select_tool.specs.Tiles.{tile_of, tile_ranges}
use Rattle.select_tool.specs.Whole.{has_totals, payload_of, payloads_of, whole_of, JoinsTo, EachTilingMakesWhole}
use Rattle.select_tool.specs.Demo.{sevenths, tile_line, tile_lines, tile_outcome, is_done, Joins, Summarizes, demo_body, summary}

-- the head of a sample object is longer than its number of tiles
pub long_sample : (count : ℕ) → 7 ≤ length (sample Csv count)
unfolding sample head_of
long_sample count = omega (arith, length-append (head_of Csv) (lines_below Csv count))

pub ascend_sevenths : (size : ℕ) → 7 ≤ size → Ascend 0 (sevenths size)
unfolding sevenths
ascend_sevenths size long =
    (omega (arith, long), (omega (arith, long), (omega (arith, long), (omega (arith, long), (omega (arith, long), (omega (arith, long), tt))))))

-- ---- the last line

left_of : (a b : Bool) → (a && b) ≡ true → a ≡ true
left_of true b h = refl
left_of false b h = absurd cc

right_of : (a b : Bool) → (a && b) ≡ true → b ≡ true
right_of true b h = h
right_of false b h = absurd cc

none_is : {A : Type 0} → (o : Option A) → is_none o ≡ true → o ≡ None
none_is None h = refl
none_is (Some x) h = absurd cc

not_is : (a : Bool) → not a ≡ true → a ≡ false
not_is false h = refl
not_is true h = absurd cc

whole_same : (job : Job) → job.request.range ≡ None → with_range job None ≡ job
whole_same job none = ap (with_range job) (sym none)

by_outcome : (object : List ℕ) (job : Job) (cuts : List ℕ) (ended : Outcome) → is_done ended ≡ true → JoinsTo longest_record object job cuts ended
    → payloads_of longest_record object (map (tile_of job) (tile_ranges 0 cuts)) ≡ payload_of longest_record object (whole_of job)
by_outcome object job cuts (Done c) done joins = joins.output
by_outcome object job cuts (Faulted code at) done joins = absurd cc

pub joins_all : EachTilingMakesWhole → (object : List ℕ) → 7 ≤ length object → (asked : Asked) → Joins object asked
joins_all law object long (Refused code at) = tt
joins_all law object long (Asks job) = λ joined.
    let ended = reply_outcome longest_record object (Asks job) in
    let ranges = allows_range job.request.input in
    let none = is_none job.request.range in
    let all = is_none job.query.limit in
    let rows = not (has_totals job.query.items) in
    let four = left_of (ranges && none && all && rows) (is_done ended) joined in
    let done = right_of (ranges && none && all && rows) (is_done ended) joined in
    let three = left_of (ranges && none && all) rows four in
    let two = left_of (ranges && none) all three in
    let allowed = left_of ranges none two in
    let unranged = none_is job.request.range (right_of ranges none two) in
    let unlimited = none_is job.query.limit (right_of (ranges && none) all three) in
    let plain = not_is (has_totals job.query.items) (right_of (ranges && none && all) rows four) in
    let same = whole_same job unranged in
    let whole = law longest_record object job (sevenths (length object)) allowed (ascend_sevenths (length object) long) in
    by_outcome object job (sevenths (length object)) (reply_outcome longest_record object (whole_of job))
    (ap (λ (j : Job). is_done (reply_outcome longest_record object (Asks j))) same ∙ done) (whole.joined plain unlimited)
    ∙ ap (λ (j : Job). payload_of longest_record object (Asks j)) same

-- the text of a query over the sample object is its summary
pub summarized : EachTilingMakesWhole → (count : ℕ) (object body : List ℕ) (asked : Asked) → object ≡ sample Csv count → body ≡ demo_body
    → Prepares body asked → (text : List ℕ) → text ≡ summary object asked → Summarizes count text
summarized law count object body asked made spelled prepared text is = record {
  asked = asked;
  prepared = subst (λ (b : List ℕ). Prepares b asked) spelled prepared;
  joins = joins_all law (sample Csv count) (long_sample count) asked;
  is = is ∙ ap (λ (o : List ℕ). summary o asked) made;
}

pub if_ok : {A E : Type 0} → (result : Result A E) (P Q : A → Type 0) → ((value : A) → P value → Q value) → IfOk result P → IfOk result Q
if_ok (Ok value) P Q more holds = more value holds
if_ok (Err why) P Q more holds = holds

-- ---- a line for each tile

-- the lines of the tiles that are left follow those so far
module _ (object : List ℕ) (job : Job) where
  abbrev lines_from : ℕ → List ScanRange → List ℕ
  lines_from number ranges = tile_lines number (map (tile_outcome object job) ranges)

  pub lines_cons : (number : ℕ) (range : ScanRange) (ranges : List ScanRange)
      → lines_from number (range ∷ ranges) ≡ tile_line number (tile_outcome object job range) ++ lines_from (number + 1) ranges
  unfolding tile_lines
  lines_cons number range ranges = ap (λ n. tile_line number (tile_outcome object job range) ++ lines_from n ranges) (sym (add-one number))

  pub one_line_more : (whole text line next : List ℕ) (number : ℕ) (left rest : List ScanRange) (range : ScanRange) (now : Job)
      → whole ≡ text ++ lines_from number left → left ≡ range ∷ rest → tile_of now range ≡ tile_of job range
      → line ≡ tile_line number (tile_outcome object now range) → next ≡ text ++ line
      → whole ≡ next ++ lines_from (number + 1) rest
  one_line_more whole text line next number left rest range now so_far ahead same is added =
      so_far ∙ ap (λ (l : List ScanRange). text ++ lines_from number l) ahead
      ∙ ap (λ l. text ++ l) (lines_cons number range rest)
      ∙ ap (λ (a : Asked). text ++ (tile_line number (reply_outcome longest_record object a) ++ lines_from (number + 1) rest)) (sym same)
      ∙ ap (λ l. text ++ (l ++ lines_from (number + 1) rest)) (sym is)
      ∙ sym (append_assoc text line (lines_from (number + 1) rest))
      ∙ ap (λ l. l ++ lines_from (number + 1) rest) (sym added)

  pub lines_done : (number : ℕ) (text : List ℕ) → text ++ lines_from number [] ≡ text
  unfolding tile_lines
  lines_done number text = append-nil text
