-- Where no more than a header was read of an object, no output had to be written.
use Rattle.std.proofs.Common.{◌≡◌, ℕ, zero, suc, ◌+◌, ◌-◌, ◌≤◌, min, Bool, List, [], ◌++◌, length, Option, None, Some, Result, Ok, Err, true, false, if◌then◌else◌, refl, sym, ap, ◌∙◌, subst, arith}
use Rattle.std.specs.Prelude.{nat_lt, nat_le}
use Rattle.std.proofs.lemmas.Bool.{lt-ltb, le-leb}
use Rattle.std.specs.Io.KnownBytes.{Keeps}
use Rattle.std.proofs.KnownBytes.{Appends-nil}
use Rattle.select_ports.proofs.Told.{appends-kept}
use Rattle.scan_ranges.specs.Resolved.{resolved}
use Rattle.select_request.specs.declared.request.Input.{Input}
use Rattle.select_request.specs.declared.request.Input.TheVariants as input
use Rattle.select_request.specs.declared.request.ScanRange.{ScanRange}
use Rattle.csv_cutter.specs.declared.dialect.Dialect.{Dialect}
use Rattle.csv_cutter.specs.Dialects.{dialect_of}
use Rattle.select_request.specs.declared.request.SelectRequest.{SelectRequest}
use Rattle.sql_grammar.specs.declared.tree.Query.{Query}
use Rattle.select_reply.specs.declared.code.Code.{Code}
use Rattle.select_reply.specs.Answers.{processed}
use Rattle.select_reply.specs.Pieces.{whole_pieces}
use Rattle.select_reply.specs.Yields.{Yielded}
use Rattle.record_rows.specs.Formats.{format_of, line_delimiter}
use Rattle.record_rows.specs.declared.format.LineFormat.{LineFormat}
use Rattle.record_stream.specs.Early.{UnreadAreLate, UnreadQuotedAreLate}
use Rattle.record_stream.specs.Replied.{whole_frames, early, WroteEarly}
use Rattle.record_stream.specs.Lines.{Lines, yields_of}
use Rattle.record_stream.specs.Selected.{first_of, most_read}
use Rattle.planned_lines.specs.declared.planned.Planned.{Planned}
use Rattle.planned_lines.specs.LineYields.{lines_of}
use Rattle.object_plan.specs.Columns.{header_read, header_beside, uses_header}
use Rattle.object_plan.specs.Planning.{planned_over}
use Rattle.select_engine.specs.Chosen.{quoted_dialect, range_by, cuts_by, beside_by, chosen_range}
use Rattle.select_engine.specs.Answered.{yields_over}
use Rattle.select_engine.specs.Due.{limit_of, processed_by, processed_in, processed_over}
use Rattle.select_engine.specs.Jobs.{IsEarly, most_of_range}
use Rattle.select_engine.specs.Early.{UnreadIsNotDue}

no_frames : (wrap : List ℕ → List ℕ) (progress : Bool) → whole_frames wrap progress [] ≡ []
unfolding whole_pieces
no_frames wrap progress = refl

none_due : (wrap : List ℕ → List ℕ) (progress : Bool) (longest upto : ℕ) (done : List Yielded) (before now : Option (List ℕ))
    → early longest upto done ≡ [] → Keeps before now → WroteEarly wrap progress longest upto done before now
none_due wrap progress longest upto done before now nothing kept = record {
  bytes = [];
  written = appends-kept before before now [] (Appends-nil before) kept;
  front = record { rest = []; joined = sym (ap (λ l. whole_frames wrap progress l ++ []) nothing ∙ ap (λ l. l ++ []) (no_frames wrap progress)) };
}

-- the whole of an object begins at its front, and has all its bytes
whole_places : (n : ℕ) → resolved None (suc n) ≡ Some (0, min (suc n - 1) (suc n - 1))
unfolding resolved
whole_places n =
    let below : nat_lt 0 (suc n) ≡ true = lt-ltb 0 (suc n) (omega arith) in
    let ascending : nat_le 0 (suc n - 1) ≡ true = le-leb 0 (suc n - 1) (omega arith) in
    rw (below, ascending) refl

pub whole_first : (size : ℕ) → first_of (resolved None size) ≡ 0
unfolding resolved
whole_first zero = refl
whole_first (suc n) = ap first_of (whole_places n)

pub whole_read : (longest size : ℕ) → size ≤ most_read longest (resolved None size)
whole_read longest zero = omega arith
whole_read longest (suc n) = subst (λ range. suc n ≤ most_read longest range) (sym (whole_places n)) (omega arith)

module _ (late : UnreadAreLate) (quoted_late : UnreadQuotedAreLate) where
  -- none of the records that are asked for is early
  chosen_late : (lines : Lines) (longest : ℕ) (delimiter object : List ℕ) (q : Option Dialect) (range : Option ScanRange) (limit : Option ℕ) (upto : ℕ)
      → upto ≤ first_of (resolved (range_by q range) (length object)) + (longest + beside_by q)
      → early longest upto (processed limit (yields_of lines longest (cuts_by q delimiter range object))) ≡ []
  chosen_late lines longest delimiter object None range limit upto near =
      late lines longest delimiter object (resolved range (length object)) limit upto (omega (arith, near))
  chosen_late lines longest delimiter object (Some dialect) range limit upto near =
      quoted_late lines longest dialect object limit upto (omega (arith, near, whole_first (length object)))

module _ (late : UnreadAreLate) (quoted_late : UnreadQuotedAreLate) (wrap : List ℕ → List ℕ) (progress : Bool) (longest : ℕ) (object : List ℕ)
    (request : SelectRequest) (upto : ℕ) (before now : Option (List ℕ))
    (near : upto ≤ first_of (resolved (chosen_range request) (length object)) + (longest + beside_by (quoted_dialect request.input))) (kept : Keeps before now) where
  by_plan : (format : LineFormat) (q : Result Planned Code) → IsEarly wrap progress longest upto (processed_by format longest object request q) before now
  by_plan format (Ok p) =
      none_due wrap progress longest upto _ before now
      (chosen_late late quoted_late (lines_of format p.columns p.plan request.output longest) longest (line_delimiter format) object
      (quoted_dialect request.input) request.range (limit_of p.plan) upto near) kept
  by_plan format (Err code) = tt

  by_format : (query : Query) (f : Option LineFormat) → IsEarly wrap progress longest upto (processed_in f longest object request query) before now
  by_format query (Some format) = by_plan format (planned_over longest object request.input query)
  by_format query None = tt

pub unread_is_not_due : UnreadAreLate → UnreadQuotedAreLate → UnreadIsNotDue
unread_is_not_due late quoted_late wrap progress longest object request query upto before now near kept =
    by_format late quoted_late wrap progress longest object request upto before now near kept query (format_of request.input)

-- ---- what is read before the first record, and what is answered then

read_if : (used : Bool) (longest beside : ℕ) → (if used then longest + beside else 0) ≤ longest + beside
read_if true longest beside = omega arith
read_if false longest beside = omega arith

beside_csv : (quoted : Bool) (dialect : Dialect) → (if quoted then 65541 else 65537) ≤ beside_by (if quoted then Some dialect else None)
beside_csv true dialect = omega arith
beside_csv false dialect = omega arith

beside_fits : (input : Input) → header_beside input ≤ beside_by (quoted_dialect input)
beside_fits (input.Csv csv) = beside_csv csv.quoted_delimiters (dialect_of csv)
beside_fits input.JsonLines = omega arith
beside_fits input.JsonDocument = omega arith
beside_fits input.Parquet = omega arith

header_read_fits : (input : Input) (longest : ℕ) → header_read input longest ≤ longest + beside_by (quoted_dialect input)
header_read_fits input longest = omega (arith, read_if (uses_header input) longest (header_beside input), beside_fits input)

pub header_taken : (input : Input) (limit longest before now : ℕ) → limit ≡ longest → now ≤ before + header_read input limit
    → now ≤ before + (longest + beside_by (quoted_dialect input))
header_taken input limit longest before now is taken =
    subst (λ n. now ≤ before + (n + beside_by (quoted_dialect input))) is (omega (arith, taken, header_read_fits input limit))

beside_most : (q : Option Dialect) → beside_by q ≤ 65541
beside_most None = omega arith
beside_most (Some dialect) = omega arith

-- what a header and a range take together
pub taken_in_all : (q : Option Dialect) (longest before mid now first size : ℕ) (range : Option (ℕ × ℕ)) → mid ≤ before + (longest + beside_by q)
    → mid ≤ before + first → now ≤ mid + most_read longest range → now ≤ mid + size → now ≤ before + min (first + size) (most_of_range longest range)
taken_in_all q longest before mid now first size None header once near all = omega (arith, header, beside_most q)
taken_in_all q longest before mid now first size (Some range) header once near all = omega (arith, header, beside_most q)

-- the records of a plan are processed
pub processed_is : (longest : ℕ) (object : List ℕ) (request : SelectRequest) (query : Query) (format : LineFormat) (p : Planned)
    → format_of request.input ≡ Some format → planned_over longest object request.input query ≡ Ok p
    → processed_over longest object request query ≡ Ok (processed (limit_of p.plan) (yields_over format p longest object request))
processed_is longest object request query format p has_format is_planned =
    ap (λ f. processed_in f longest object request query) has_format ∙ ap (processed_by format longest object request) is_planned
