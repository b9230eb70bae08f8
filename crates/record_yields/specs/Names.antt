-- The names of what a record gives.
use Rattle.std.specs.Prelude.{ℕ, suc, List, [], map, slice_get}
use Rattle.std.specs.Str.{chars}
use Rattle.scan_plan.specs.declared.columns.Columns.{Columns}
use Rattle.scan_plan.specs.declared.columns.Columns.TheVariants.{Names, Parquet}
use Rattle.scan_plan.specs.Plans.{name_or_number}

-- the characters of the name at a place, counted from 0; where none stands there, `_` and the place's number from 1
abbrev pub name_at : List (List ℕ) → ℕ → List ℕ
name_at names k = chars (name_or_number (suc k) (slice_get names k))

-- the names that an input gives its columns: a used header's, or a Parquet file's
abbrev pub column_names : Columns → List (List ℕ)
column_names (Names names) = names
column_names (Parquet columns) = map (λ column. column.name) columns
column_names _ = []

-- no name is looked at
abbrev pub unnamed : ℕ → List ℕ
unnamed k = chars []
