-- The record of a line in which nothing would be read or written otherwise is the line.
use Rattle.std.specs.Prelude.{◌≡◌, ◌≢◌, ℕ, suc, ◌<◌, ◌≤◌, Bool, true, false, ◌||◌, ◌&&◌, ◌==◌, not, nat_le, nat_lt, List, [], ◌∷◌, map, length, slice_index, Option, None, Some, is_some, MatchBool, Ok, refl}
use Rattle.std.proofs.Common.{ap, sym, subst, ◌∙◌, arith}
use Rattle.std.specs.List.{list_any}
use Rattle.std.specs.Str.{chars, IsAscii, NonePass}
use Rattle.std.proofs.lemmas.Bool.{cond-true, cond-false}
use Rattle.std.proofs.lemmas.Bool.Decides.{nat_tests}
use Rattle.std.proofs.lemmas.Str.{IsUtf8-from_ascii, is_utf8-from_IsUtf8}
use Rattle.select_request.specs.declared.request.CsvOutput.{CsvOutput}
use Rattle.select_request.specs.declared.request.Delimiter.TheVariants.{One}
use Rattle.select_request.specs.declared.request.Output.{Output}
use Rattle.select_request.specs.declared.request.Output.TheVariants.{Csv}
use Rattle.sql_bound.specs.declared.tree.Bound.{Bound}
use Rattle.sql_value.specs.declared.value.Value.{Value}
use Rattle.sql_value.specs.declared.value.Value.TheVariants.{Text}
use Rattle.sql_totals.specs.Partials.{Partial}
use Rattle.scan_plan.specs.declared.columns.Columns.{Columns}
use Rattle.scan_plan.specs.declared.columns.Columns.TheVariants as columns
use Rattle.scan_plan.specs.declared.plans.Plan.{Plan}
use Rattle.scan_plan.specs.declared.plans.PlanItems.{PlanItems}
use Rattle.scan_plan.specs.declared.plans.PlanItems.TheVariants as items
use Rattle.csv_cutter.specs.declared.dialect.Dialect.{Dialect}
use Rattle.csv_cutter.specs.declared.walk.State.TheVariants.{Start}
use Rattle.csv_cutter.specs.Fields.{text_of}
use Rattle.csv_cutter.specs.Reading.{fields_of}
use Rattle.csv_cutter.specs.Walk.{cut_fields}
use Rattle.record_output.specs.CsvFields.{is_delimiter_byte}
use Rattle.memchr.specs.Find.{IsFirstByte, is_byte3}
use Rattle.byte_masks.specs.Masks.{Marks, is_byte}
use Rattle.byte_masks.specs.Parts.{IsPlain}
use Rattle.std.specs.Int.{bit_at}
use Rattle.std.proofs.lemmas.Nat.Bits.{bit_at-zero}
use Rattle.std.proofs.lemmas.Bool.{ne_eqb}
use Rattle.record_output.proofs.Quoting.{found_any}
use Rattle.record_rows.specs.Rows.{row, is_passed_over, fields_row, csv_row}
use Rattle.record_rows.specs.Formats.{is_header, content_row}
use Rattle.record_rows.specs.declared.format.LineFormat.{LineFormat}
use Rattle.record_rows.specs.declared.format.LineFormat.TheVariants as format
use Rattle.record_yields.specs.Names.{column_names}
use Rattle.record_yields.specs.Yields.{of_cells, of_all, of_selection, passes, where_kept, row_yield}
use Rattle.planned_lines.specs.LineYields.{yield_by, yield_of_row, totals_with, unless_code, totals_behind_row}
use Rattle.planned_lines.specs.Copying.{has_same_fields, is_all, is_unasked, has_fields, takes_all, is_marked, is_stop, IsClear, IsBare, ComesOutSame, bare, respelled, IsOwnRecord}
use Rattle.planned_lines.proofs.Pieces.{clash, or_left, or_right, or_none, and_left, and_right, not_high, same_byte, not_true, IsOwnCut, bare_own, cut_own, texts_own, cells_own}
use Rattle.planned_lines.proofs.QuotedFields.{respelled_own}

-- ---- the line

few_fields : (n : ℕ) → n ≤ 65536 → nat_lt 65536 n ≡ false
few_fields n h = grind (arith, nat_tests)

fields_told : (d : Dialect) (line : List ℕ) → IsAscii line → length (cut_fields d line) ≤ 65536
    → fields_of d line ≡ Ok (map (λ spelled. text_of d (chars spelled)) (cut_fields d line))
unfolding fields_of
fields_told d line ascii few =
    cond-true _ _ _ (is_utf8-from_IsUtf8 line (IsUtf8-from_ascii line ascii)) ∙ cond-false _ _ _ (few_fields (length (cut_fields d line)) few)

row_told : (d : Dialect) (line : List ℕ) (texts : List (List ℕ)) → is_passed_over d line ≡ false → fields_of d line ≡ Ok texts → csv_row d line ≡ row (map Text texts)
unfolding csv_row
row_told d line texts begins is = cond-false _ _ _ begins ∙ ap fields_row is

ascii_tail : (c : ℕ) (cs : List ℕ) → IsAscii (c ∷ cs) → IsAscii cs
ascii_tail c cs h = λ i. h (suc i)

no_stops : (d : Dialect) (csv : CsvOutput) (line : List ℕ) → IsAscii line → list_any (is_marked d csv) line ≡ false → NonePass (is_stop d csv) line
no_stops d csv [] ascii h = tt
no_stops d csv (c ∷ cs) ascii h = (
  or_none (is_marked d csv c) (nat_le 128 c) (or_left (is_marked d csv c) (list_any (is_marked d csv) cs) h) (not_high c (ascii 0)),
  no_stops d csv cs (ascii_tail c cs ascii) (or_right (is_marked d csv c) (list_any (is_marked d csv) cs) h),
)

-- ---- the plan

by_all : (selected : PlanItems) → is_all selected ≡ true → (columns : Columns) (plan : Plan) (output : Output) (longest : ℕ) (ts : List Partial) (cells : List Value)
    → yield_by selected columns plan output longest ts cells ≡ row_yield columns plan output longest cells
by_all items.All e columns plan output longest ts cells = refl
by_all (items.Rows bounds) e columns plan output longest ts cells = clash (sym e)
by_all (items.Totals aggs) e columns plan output longest ts cells = clash (sym e)

selection_all : (selected : PlanItems) → is_all selected ≡ true → (columns : Columns) (names : List (List ℕ)) (output : Output) (longest : ℕ) (cells : List Value)
    → of_selection columns selected names output longest cells ≡ of_all columns output longest cells
selection_all items.All e columns names output longest cells = refl
selection_all (items.Rows bounds) e columns names output longest cells = clash (sym e)
selection_all (items.Totals aggs) e columns names output longest cells = clash (sym e)

totals_all : (selected : PlanItems) → is_all selected ≡ true → (filter : Option Bound) (cells : List Value) (ts : List Partial)
    → unless_code ts (totals_with selected filter cells ts) ≡ ts
totals_all items.All e filter cells ts = refl
totals_all (items.Rows bounds) e filter cells ts = refl
totals_all (items.Totals aggs) e filter cells ts = clash (sym e)

passes_all : (filter : Option Bound) → is_unasked filter ≡ true → (cells : List Value) → passes filter cells ≡ Ok true
passes_all None e cells = refl
passes_all (Some filter) e cells = clash (sym e)

cells_all : (columns : Columns) → has_fields columns ≡ true → (output : Output) (longest : ℕ) (cells : List Value)
    → of_all columns output longest cells ≡ of_cells (column_names columns) output longest cells
cells_all columns.Json e output longest cells = clash (sym e)
cells_all columns.Document e output longest cells = clash (sym e)
cells_all columns.Positions e output longest cells = refl
cells_all (columns.Names names) e output longest cells = refl
cells_all columns.Absent e output longest cells = refl
cells_all (columns.Parquet file) e output longest cells = refl

module _ (columns : Columns) (plan : Plan) (takes : takes_all columns plan ≡ true) where
  takes_items : is_all plan.items ≡ true
  takes_items = and_left (is_all plan.items) (is_unasked plan.filter) (and_left (is_all plan.items && is_unasked plan.filter) (has_fields columns) takes)

  takes_rows : is_unasked plan.filter ≡ true
  takes_rows = and_right (is_all plan.items) (is_unasked plan.filter) (and_left (is_all plan.items && is_unasked plan.filter) (has_fields columns) takes)

  row_all : (output : Output) (longest : ℕ) (cells : List Value) → row_yield columns plan output longest cells ≡ of_cells (column_names columns) output longest cells
  unfolding row_yield
  row_all output longest cells =
      ap (λ kept. where_kept kept (of_selection columns plan.items plan.names output longest cells)) (passes_all plan.filter takes_rows cells)
      ∙ selection_all plan.items takes_items columns plan.names output longest cells
      ∙ cells_all columns (and_right (is_all plan.items && is_unasked plan.filter) (has_fields columns) takes) output longest cells

  own_csv : (d : Dialect) (headed : Bool) (csv : CsvOutput) (place : ℕ) (line : List ℕ) → is_header (format.Csv d headed) place ≡ false
      → is_passed_over d line ≡ false → csv.field ≡ d.field → IsAscii line → length line < 65536 → IsOwnCut d csv (cut_fields d line) line
      → IsOwnRecord (format.Csv d headed) columns plan (Csv csv) place line
  own_csv d headed csv place line headless begins field ascii short cut =
      let all = cut.text ∷ cut.texts in
      let texts : fields_of d line ≡ Ok all =
      fields_told d line ascii (omega (arith, ap length cut.is, cut.few, short))
      ∙ ap (λ parts. Ok (map (λ spelled. text_of d (chars spelled)) parts)) cut.is
      ∙ ap Ok (texts_own d csv (cut.first ∷ cut.others) all (cut.own, cut.owns)) in
      let cells = map Text all in
      let is : content_row (format.Csv d headed) place line ≡ row cells =
      cond-false _ _ _ headless ∙ row_told d line all begins texts in
      record {
        yields = λ longest ts.
            ap (yield_of_row columns plan (Csv csv) longest ts) is
            ∙ ap Some (by_all plan.items takes_items columns plan (Csv csv) longest ts cells
            ∙ row_all (Csv csv) longest cells
            ∙ cells_own d csv field (column_names columns) longest (cut.first ∷ cut.others) all line (cut.own, cut.owns) cut.joins);
        totals = λ ts. ap (totals_behind_row plan ts) is ∙ totals_all plan.items takes_items plan.filter cells ts;
      }

  same_csv : (d : Dialect) (headed : Bool) (csv : CsvOutput) (place : ℕ) (line : List ℕ) → is_header (format.Csv d headed) place ≡ false
      → is_passed_over d line ≡ false → csv.always ≡ false → csv.field ≡ d.field → ComesOutSame d csv line
      → IsOwnRecord (format.Csv d headed) columns plan (Csv csv) place line
  same_csv d headed csv place line headless begins always field (bare b) =
      own_csv d headed csv place line headless begins field b.ascii b.short
      (bare_own d csv always field (cut_fields d line) line (cut_own d csv Start line refl (no_stops d csv line b.ascii b.unmarked)))
  same_csv d headed csv place line headless begins always field (respelled r) =
      own_csv d headed csv place line headless begins field r.ascii r.short
      (respelled_own d csv r.same always field r.quote r.apart r.unescaped line r.walked)

  pub own_record : (f : LineFormat) (output : Output) (d : Dialect) (headed : Bool) (csv : CsvOutput) (place : ℕ) (line : List ℕ) → f ≡ format.Csv d headed
      → output ≡ Csv csv → is_header f place ≡ false → is_passed_over d line ≡ false → has_same_fields d csv ≡ true → ComesOutSame d csv line
      → IsOwnRecord f columns plan output place line
  own_record f output d headed csv place line read written headless begins same out =
      let always = not_true csv.always (and_left (not csv.always) (csv.field == d.field) same) in
      let field = same_byte csv.field d.field (and_right (not csv.always) (csv.field == d.field) same) in
      let own = same_csv d headed csv place line (ap (λ g. is_header g place) (sym read) ∙ headless) begins always field out in
      let P : Output → Type 0 = λ o. IsOwnRecord (format.Csv d headed) columns plan o place line in
      let Q : LineFormat → Type 0 = λ g. IsOwnRecord g columns plan output place line in
      subst Q (sym read) (subst P (sym written) own)

-- ---- what the code tells

pub told_true : (A B : Type 0) (b : Bool) → MatchBool b A B → b ≡ true → A
told_true A B true told e = told
told_true A B false told e = clash (sym e)

pub none_marked : (d : Dialect) (csv : CsvOutput) (end : ℕ) (line : List ℕ) (r : Option ℕ) (found : Bool) → csv.delimiter ≡ One end → found ≡ is_some r → found ≡ false
    → IsFirstByte (is_byte3 d.quote csv.quote end) line r → list_any (is_marked d csv) line ≡ false
none_marked d csv end line r found is same none first =
    ap (λ end. list_any (λ c. c == d.quote || c == csv.quote || is_delimiter_byte end c) line) is
    ∙ sym (found_any (is_byte3 d.quote csv.quote end) line r first) ∙ sym same ∙ none

-- a short line by its masks
not_either : (x quote end : ℕ) → (x ≢ quote) → (x ≢ end) → (x == quote || x == end) ≡ false
not_either x quote end a b = or_none (x == quote) (x == end) (ne_eqb x quote a) (ne_eqb x end b)

unset : (test : ℕ → Bool) (bytes : List ℕ) (m : ℕ) → Marks test bytes m → m ≡ 0 → (k : ℕ) → k < length bytes → test (slice_index bytes k) ≡ true → ⊥
unset test bytes m marks none k within passes = omega (arith, (marks.each k).1 (within, passes), ap (λ n. bit_at n k) none, bit_at-zero k)

own_byte : (c : ℕ) → (c == c) ≡ true
own_byte c = grind (arith, nat_tests)

none_there : (x c : ℕ) → ((x == c) ≡ true → ⊥) → (x ≢ c)
none_there x c none e = none (ap (λ y. y == c) e ∙ own_byte c)

pub clear_line : (field quote end : ℕ) (line : List ℕ) (m : ℕ) → Marks (is_byte end) line m → m ≡ 0 → IsPlain quote line → IsClear quote end line
clear_line field quote end line m marks none plain = record {
  ascii = plain.ascii;
  unmarked = λ k within. not_either (slice_index line k) quote end (plain.unquoted k (omega arith) within)
      (none_there (slice_index line k) end (unset (is_byte end) line m marks none k within));
}

marked_once : (a b c : Bool) → a ≡ b → (b || c) ≡ false → (b || a || c) ≡ false
marked_once true true c e h = absurd (cc)
marked_once true false c e h = absurd (cc)
marked_once false true c e h = absurd (cc)
marked_once false false c e h = h

pub clear_bare : (d : Dialect) (csv : CsvOutput) (end : ℕ) (line : List ℕ) → csv.delimiter ≡ One end → csv.quote ≡ d.quote → length line ≤ 64
    → IsClear d.quote end line → IsBare d csv line
clear_bare d csv end line is same short clear = record {
  ascii = clear.ascii;
  unmarked = none_passes line clear.unmarked;
  short = omega arith;
}
  where
    one : (x : ℕ) → (x == d.quote || x == end) ≡ false → is_marked d csv x ≡ false
    one x h = ap (λ e. x == d.quote || x == csv.quote || is_delimiter_byte e x) is ∙ marked_once (x == csv.quote) (x == d.quote) (x == end) (ap (λ q. x == q) same) h

    none_passes : (bytes : List ℕ) → ((k : ℕ) → k < length bytes → (slice_index bytes k == d.quote || slice_index bytes k == end) ≡ false) → list_any (is_marked d csv) bytes ≡ false
    none_passes [] none = refl
    none_passes (x ∷ xs) none = or_none (is_marked d csv x) (list_any (is_marked d csv) xs) (one x (none 0 (omega arith))) (none_passes xs (λ k within. none (suc k) (omega arith)))
