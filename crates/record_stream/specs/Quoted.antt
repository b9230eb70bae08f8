-- What the records of an object yield whose quoted fields may hold record delimiters.
use Rattle.std.specs.Prelude.{ℕ, List}
use Rattle.csv_cutter.specs.declared.dialect.Dialect.{Dialect}
use Rattle.csv_cutter.specs.Cuttings.{quoted_cuts}
use Rattle.select_reply.specs.Yields.{Yielded}
use Rattle.record_stream.specs.Lines.{Lines, yields_of, records_of}

-- what the object's records yield, one after the other, under a record limit
abbrev pub quoted_yields : Lines → ℕ → Dialect → List ℕ → List Yielded
quoted_yields lines longest d object = yields_of lines longest (quoted_cuts d object)

-- the records with that of their end
abbrev pub quoted_records : Lines → ℕ → Dialect → List ℕ → List Yielded
quoted_records lines longest d object = records_of lines longest (quoted_cuts d object)
