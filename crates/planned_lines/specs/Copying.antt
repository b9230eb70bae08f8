-- Lines that are their own records: a CSV line goes into CSV as it stands where nothing in it would be read or written otherwise.
use Rattle.std.specs.Prelude.{◌≡◌, ℕ, ◌<◌, Bool, true, false, ◌&&◌, ◌||◌, ◌==◌, not, nat_le, List, [], ◌∷◌, length, slice_index, if◌then◌else◌, Option, None, Some}
use Rattle.std.specs.List.{list_any}
use Rattle.std.specs.Str.{IsAscii}
use Rattle.select_request.specs.declared.request.CsvOutput.{CsvOutput}
use Rattle.select_request.specs.declared.request.Output.{Output}
use Rattle.sql_bound.specs.declared.tree.Bound.{Bound}
use Rattle.sql_totals.specs.Partials.{Partial}
use Rattle.scan_plan.specs.declared.columns.Columns.{Columns}
use Rattle.scan_plan.specs.declared.columns.Columns.TheVariants as columns
use Rattle.scan_plan.specs.declared.plans.Plan.{Plan}
use Rattle.scan_plan.specs.declared.plans.PlanItems.{PlanItems}
use Rattle.scan_plan.specs.declared.plans.PlanItems.TheVariants as items
use Rattle.csv_cutter.specs.declared.dialect.Dialect.{Dialect}
use Rattle.record_output.specs.CsvFields.{is_delimiter_byte}
use Rattle.record_rows.specs.Formats.{content_row}
use Rattle.record_rows.specs.declared.format.LineFormat.{LineFormat}
use Rattle.record_yields.specs.Yields.{limited}
use Rattle.planned_lines.specs.declared.respelled.Place.{Place}
use Rattle.planned_lines.specs.declared.respelled.Place.TheVariants.{Start, Bare, Quoted, Guarded, Closed, Other}
use Rattle.planned_lines.specs.LineYields.{content_yield, totals_behind_row}

-- the line's record is the line, under each record limit and behind each totals; and it adds to no totals
pub record IsOwnRecord (format : LineFormat) (columns : Columns) (plan : Plan) (output : Output) (place : ℕ) (bytes : List ℕ) : Type 0 where
  pub yields : (longest : ℕ) (ts : List Partial) → content_yield format columns plan output longest ts place bytes ≡ Some (limited output longest bytes)
  pub totals : (ts : List Partial) → totals_behind_row plan ts (content_row format place bytes) ≡ ts

-- ---- the contracts of private functions

abbrev pub is_all : PlanItems → Bool
is_all items.All = true
is_all (items.Rows bounds) = false
is_all (items.Totals aggs) = false

abbrev pub is_unasked : Option Bound → Bool
is_unasked None = true
is_unasked (Some filter) = false

-- each cell of a row is a field
abbrev pub has_fields : Columns → Bool
has_fields columns.Json = false
has_fields columns.Document = false
has_fields _ = true

-- each row is taken, with all its cells
abbrev pub takes_all : Columns → Plan → Bool
takes_all columns plan = is_all plan.items && is_unasked plan.filter && has_fields columns

-- no field stands in quotes for itself, and the fields are parted by the same byte
abbrev pub has_same_fields : Dialect → CsvOutput → Bool
has_same_fields d csv = not csv.always && csv.field == d.field

-- the byte has a meaning beside that of the field delimiter, where it is read or where it is written
abbrev pub is_marked : Dialect → CsvOutput → ℕ → Bool
is_marked d csv c = c == d.quote || c == csv.quote || is_delimiter_byte csv.delimiter c

-- no byte has another meaning, and the fields are not too many
pub record IsBare (d : Dialect) (csv : CsvOutput) (line : List ℕ) : Type 0 where
  pub ascii : IsAscii line
  pub unmarked : list_any (is_marked d csv) line ≡ false
  pub short : length line < 65536

-- each byte is an ASCII character, and none is the quote or ends a record
pub record IsClear (quote end : ℕ) (line : List ℕ) : Type 0 where
  pub ascii : IsAscii line
  pub unmarked : (k : ℕ) → k < length line → (slice_index line k == quote || slice_index line k == end) ≡ false

-- ---- a walk over a line in which some fields stand in quotes

-- no byte of a field without quotes
abbrev pub is_stop : Dialect → CsvOutput → ℕ → Bool
is_stop d csv c = is_marked d csv c || nat_le 128 c

-- no byte of a field in quotes: an escape, or no ASCII character
abbrev pub is_odd : Dialect → CsvOutput → ℕ → Bool
is_odd d csv c = c == d.escape || c == csv.escape || nat_le 128 c

abbrev pub after_bare : Dialect → CsvOutput → ℕ → Place
after_bare d csv c = if c == d.field then Start else (if is_stop d csv c then Other else Bare)

-- where the walk stands behind a byte. A quoted field has to hold a field delimiter, or it would come out without quotes.
abbrev pub after : Dialect → CsvOutput → Place → ℕ → Place
after d csv Start c = if c == d.quote then Quoted else after_bare d csv c
after d csv Bare c = after_bare d csv c
after d csv Quoted c = if c == d.quote then Other else (if is_odd d csv c then Other else (if c == d.field then Guarded else Quoted))
after d csv Guarded c = if c == d.quote then Closed else (if is_odd d csv c then Other else Guarded)
after d csv Closed c = if c == d.field then Start else Other
after d csv Other c = Other

abbrev pub may_end : Place → Bool
may_end Start = true
may_end Bare = true
may_end Quoted = false
may_end Guarded = false
may_end Closed = true
may_end Other = false

-- the walk from a place ends where a line may end
unfoldable pub comes_out : Dialect → CsvOutput → Place → List ℕ → Bool
comes_out d csv place [] = may_end place
comes_out d csv place (c ∷ cs) = comes_out d csv (after d csv place c) cs

-- the walk shows that each field of a short line would be written as it was read
pub record IsRespelled (d : Dialect) (csv : CsvOutput) (line : List ℕ) : Type 0 where
  pub same : csv.quote ≡ d.quote
  pub apart : (d.field == d.quote) ≡ false
  pub unescaped : (d.field == d.escape) ≡ false
  pub quote : d.quote < 128
  pub walked : comes_out d csv Start line ≡ true
  pub ascii : IsAscii line
  pub short : length line < 65536

-- the line comes out as it went in
pub data ComesOutSame (d : Dialect) (csv : CsvOutput) (line : List ℕ) : Type 0 where
  bare : IsBare d csv line → ComesOutSame d csv line
  respelled : IsRespelled d csv line → ComesOutSame d csv line
