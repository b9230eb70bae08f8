-- Where no more than a header was read of an object, no output had to be written.
use Rattle.std.specs.Prelude.{ℕ, ◌+◌, ◌≤◌, Bool, List, length, Option}
use Rattle.std.specs.Io.KnownBytes.{Keeps}
use Rattle.scan_ranges.specs.Resolved.{resolved}
use Rattle.select_request.specs.declared.request.SelectRequest.{SelectRequest}
use Rattle.sql_grammar.specs.declared.tree.Query.{Query}
use Rattle.record_stream.specs.Selected.{first_of}
use Rattle.select_engine.specs.Chosen.{quoted_dialect, beside_by, chosen_range}
use Rattle.select_engine.specs.Due.{processed_over}
use Rattle.select_engine.specs.Jobs.{IsEarly}

-- none of the records that a query processes ends before the range that is asked for
abbrev pub UnreadIsNotDue : Type 0
UnreadIsNotDue =
    (wrap : List ℕ → List ℕ) (progress : Bool) (longest : ℕ) (object : List ℕ) (request : SelectRequest) (query : Query) (upto : ℕ)
    (before now : Option (List ℕ))
    → upto ≤ first_of (resolved (chosen_range request) (length object)) + (longest + beside_by (quoted_dialect request.input)) → Keeps before now
    → IsEarly wrap progress longest upto (processed_over longest object request query) before now
