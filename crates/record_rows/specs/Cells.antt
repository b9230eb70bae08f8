-- The cells of a record that was read, and what reading a content told.
use Rattle.std.specs.Prelude.{List, [], ◌∷◌, map}
use Rattle.sql_value.specs.declared.value.Value.{Value}
use Rattle.sql_value.specs.declared.value.Value.TheVariants as value
use Rattle.record_rows.specs.Rows.{RowOf, passed, row, faulty}
use Rattle.record_rows.specs.declared.rows.Record.{Record}
use Rattle.record_rows.specs.declared.rows.Record.TheVariants.{Fields, Node}
use Rattle.record_rows.specs.declared.rows.RecordRow.{RecordRow}
use Rattle.record_rows.specs.declared.rows.RecordRow.TheVariants.{Passed, Row, Faulty}

-- the fields as texts, or the one value
abbrev pub cells_of : Record → List Value
cells_of (Fields texts) = map value.Text texts
cells_of (Node token) = value.Node token ∷ []

abbrev pub told : RecordRow → RowOf
told Passed = passed
told (Row r) = row (cells_of r)
told (Faulty code) = faulty code
