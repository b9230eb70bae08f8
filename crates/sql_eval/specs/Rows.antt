-- The cells of a row.
use Rattle.std.specs.Prelude.{ℕ, List, Option, None, Some, slice_get, chars}
use Rattle.std.specs.Borrow.{Bor}
use Rattle.sql_value.specs.declared.value.Value.{Value}
use Rattle.sql_value.specs.declared.value.Value.TheVariants.{Missing, Text}

abbrev pub or_missing : Option Value → Value
or_missing None = Missing
or_missing (Some v) = v

-- the cell at a place; at and past the width it is MISSING
abbrev pub cell_at : List Value → ℕ → Value
cell_at cells i = or_missing (slice_get cells i)

-- a lent text as a cell
abbrev pub text_cell : Bor (List ℕ) → Value
text_cell t = Text (chars t.now)
