-- Where nothing was read of a range, and no more than a header before it, no output had to be written.
use Rattle.std.specs.Prelude.{◌≡◌, ℕ, ◌+◌, ◌≤◌, List, [], Option}
use Rattle.csv_cutter.specs.declared.dialect.Dialect.{Dialect}
use Rattle.select_reply.specs.Answers.{processed}
use Rattle.record_stream.specs.Lines.{Lines}
use Rattle.record_stream.specs.Selected.{first_of, yields}
use Rattle.record_stream.specs.Quoted.{quoted_yields}
use Rattle.record_stream.specs.Replied.{early}

-- none of the records that are processed of a range ends before it
abbrev pub UnreadAreLate : Type 0
UnreadAreLate =
    (lines : Lines) (longest : ℕ) (delimiter object : List ℕ) (range : Option (ℕ × ℕ)) (limit : Option ℕ) (upto : ℕ)
    → upto ≤ first_of range + (longest + 65538) → early longest upto (processed limit (yields lines longest delimiter object range)) ≡ []

-- nor of the records that are processed of an object whose quoted fields may hold record delimiters
abbrev pub UnreadQuotedAreLate : Type 0
UnreadQuotedAreLate =
    (lines : Lines) (longest : ℕ) (d : Dialect) (object : List ℕ) (limit : Option ℕ) (upto : ℕ)
    → upto ≤ longest + 65541 → early longest upto (processed limit (quoted_yields lines longest d object)) ≡ []
