-- The header is the line at the object's front, or the first of its records where quoted fields may hold record delimiters.
use Rattle.std.specs.Prelude.{◌≡◌, ℕ, ◌<◌, Bool, true, false, nat_lt, List, [], ◌∷◌, length, map, Ok, Err, if◌then◌else◌, refl}
use Rattle.std.proofs.Common.{ap, sym, subst, ◌∙◌, arith}
use Rattle.std.proofs.lemmas.Bool.{lt-ltb, le-ltb}
use Rattle.std.specs.Borrow.{Bor}
use Rattle.line_window.specs.Starts.{is_start}
use Rattle.line_window.specs.Cuts.{Cut, content, cut_at, cuts_in}
use Rattle.line_window.specs.Answers.{ShowsFirst, IsNextCut}
use Rattle.line_window.specs.declared.line.Line.{Line}
use Rattle.line_window.specs.declared.line.Line.TheVariants.{At, TooLong, End}
use Rattle.csv_cutter.specs.declared.dialect.Dialect.{Dialect}
use Rattle.csv_cutter.specs.Dialects.{delimiter_bytes}
use Rattle.record_rows.specs.Headers.{names_of}
use Rattle.scan_plan.specs.declared.columns.Columns.TheVariants as columns
use Rattle.select_reply.specs.declared.code.Code.TheVariants.{OverMaxRecordSize}
use Rattle.csv_cutter.specs.Cuttings.{quoted_from, quoted_cuts}
use Rattle.object_plan.specs.Columns.{named_columns, header_columns, used_columns, first_columns, quoted_columns}

-- a line starts at the front of an object with a byte
is_front : (d object : List ℕ) → nat_lt 0 (length object) ≡ true → is_start d object 0 ≡ true
is_front d object there = rw there refl

-- it has one line that starts there
front_cut : (d object : List ℕ) → 0 < length object → cuts_in d object 0 0 ≡ cut_at d object 0 ∷ []
front_cut d object some =
    let there : nat_lt 0 (length object) ≡ true = lt-ltb 0 (length object) some in
    ap (λ (b : Bool). map (cut_at d object) (if b then 0 ∷ [] else [])) (is_front d object there)

used_is : (dialect : Dialect) (longest : ℕ) (object : List ℕ) → 0 < length object
    → used_columns dialect longest object ≡ header_columns dialect longest (cut_at (delimiter_bytes dialect.delimiter) object 0)
used_is dialect longest [] some = absurd (omega arith)
used_is dialect longest (x ∷ xs) some = refl

header_short : (dialect : Dialect) (longest : ℕ) (cut : Cut) → nat_lt longest (length cut.body) ≡ false
    → header_columns dialect longest cut ≡ named_columns (names_of dialect (content cut))
header_short dialect longest cut short = rw short refl

header_long : (dialect : Dialect) (longest : ℕ) (cut : Cut) → nat_lt longest (length cut.body) ≡ true → header_columns dialect longest cut ≡ Err OverMaxRecordSize
header_long dialect longest cut long = rw long refl

module _ (dialect : Dialect) (longest : ℕ) (object : List ℕ) (before after : List Cut) (some : 0 < length object)
    (here : before ≡ cuts_in (delimiter_bytes dialect.delimiter) object 0 0) where
  only : (cut : Cut) → before ≡ cut ∷ after → cut_at (delimiter_bytes dialect.delimiter) object 0 ≡ cut
  only cut is = let both = sym (front_cut (delimiter_bytes dialect.delimiter) object some) ∙ sym here ∙ is in cc

  -- a line within the limit
  pub named_header : (start whole : ℕ) (bytes : Bor (List ℕ)) → ShowsFirst longest before after (At start bytes whole)
      → named_columns (names_of dialect bytes.now) ≡ used_columns dialect longest object
  named_header start whole bytes shown =
      let cut = shown.cut in
      let short = le-ltb longest (length cut.body) shown.shown.1.short in
      ap (λ b. named_columns (names_of dialect b)) shown.shown.1.bytes
      ∙ sym (used_is dialect longest object some ∙ ap (header_columns dialect longest) (only cut shown.first) ∙ header_short dialect longest cut short)

  pub long_header : (start : ℕ) → ShowsFirst longest before after (TooLong start) → Err OverMaxRecordSize ≡ used_columns dialect longest object
  long_header start shown =
      let cut = shown.cut in
      let long = lt-ltb longest (length cut.body) shown.shown.1 in
      sym (used_is dialect longest object some ∙ ap (header_columns dialect longest) (only cut shown.first) ∙ header_long dialect longest cut long)

  -- a line is there
  pub some_header : IsNextCut longest before after End → ⊥
  some_header over = let both = sym over.0 ∙ here ∙ front_cut (delimiter_bytes dialect.delimiter) object some in absurd (cc)

-- an object without a byte has no header
pub empty_header : (dialect : Dialect) (longest : ℕ) (object : List ℕ) → length object ≡ 0 → Ok columns.Absent ≡ used_columns dialect longest object
empty_header dialect longest [] none = refl
empty_header dialect longest (x ∷ xs) none = absurd (omega arith)

module _ (dialect : Dialect) (longest : ℕ) (object : List ℕ) (before after : List Cut) (some : 0 < length object)
    (here : before ≡ cuts_in (delimiter_bytes dialect.delimiter) object 0 0) (line : Line) (next : IsNextCut longest before after line) where
  pub header_at : (start whole : ℕ) (bytes : Bor (List ℕ)) → line ≡ At start bytes whole → named_columns (names_of dialect bytes.now) ≡ used_columns dialect longest object
  header_at start whole bytes is = named_header dialect longest object before after some here start whole bytes (subst (IsNextCut longest before after) is next)

  pub header_over : (start : ℕ) → line ≡ TooLong start → Err OverMaxRecordSize ≡ used_columns dialect longest object
  header_over start is = long_header dialect longest object before after some here start (subst (IsNextCut longest before after) is next)

-- ---- quoted records

first_is : (dialect : Dialect) (longest : ℕ) (cut : Cut) (before after : List Cut) → before ≡ cut ∷ after → first_columns dialect longest before ≡ header_columns dialect longest cut
first_is dialect longest cut before after is = ap (first_columns dialect longest) is

module _ (dialect : Dialect) (longest : ℕ) (before after : List Cut) (line : Line) (next : IsNextCut longest before after line) where
  -- a record within the limit
  pub quoted_at : (start whole : ℕ) (bytes : Bor (List ℕ)) → line ≡ At start bytes whole → named_columns (names_of dialect bytes.now) ≡ first_columns dialect longest before
  quoted_at start whole bytes is =
      let shown = subst (IsNextCut longest before after) is next in
      let cut = shown.cut in
      let short = le-ltb longest (length cut.body) shown.shown.1.short in
      ap (λ b. named_columns (names_of dialect b)) shown.shown.1.bytes
      ∙ sym (first_is dialect longest cut before after shown.first ∙ header_short dialect longest cut short)

  pub quoted_over : (start : ℕ) → line ≡ TooLong start → Err OverMaxRecordSize ≡ first_columns dialect longest before
  quoted_over start is =
      let shown = subst (IsNextCut longest before after) is next in
      let cut = shown.cut in
      let long = lt-ltb longest (length cut.body) shown.shown.1 in
      sym (first_is dialect longest cut before after shown.first ∙ header_long dialect longest cut long)

  pub quoted_end : line ≡ End → Ok columns.Absent ≡ first_columns dialect longest before
  quoted_end is =
      let none = subst (IsNextCut longest before after) is next in
      sym (ap (first_columns dialect longest) none.0)

-- an object without a byte has no record
pub quoted_empty : (dialect : Dialect) (longest : ℕ) (object : List ℕ) → length object ≡ 0 → Ok columns.Absent ≡ quoted_columns dialect longest object
unfolding quoted_cuts
quoted_empty dialect longest object none = sym (ap (λ n. first_columns dialect longest (quoted_from dialect object 0 n)) none)
