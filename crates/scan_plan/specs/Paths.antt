-- What a path means under an input's columns (S3 Select reference, "SELECT command": attribute access, headers and positions).
use Rattle.std.specs.Prelude.{ℕ, suc, ◌-◌, ◌==◌, nat_lt, nat_le, Bool, true, false, ◌&&◌, List, [], ◌∷◌, length, Option, Some, None, Result, Ok, Err, if◌then◌else◌, bytes_eq, slice_get}
use Rattle.std.specs.List.{position_from}
use Rattle.std.specs.Option.{option_or}
use Rattle.std.specs.Str.{str_eq_ignore_ascii_case, all_ascii_digits}
use Rattle.std.specs.Str.Parse.{digits_value}
use Rattle.sql_grammar.specs.Faults.{is_same_name}
use Rattle.sql_grammar.specs.declared.tree.Name.{Name}
use Rattle.sql_grammar.specs.declared.tree.PathStep.{PathStep}
use Rattle.sql_grammar.specs.declared.tree.PathStep.TheVariants as step
use Rattle.scan_plan.specs.declared.columns.Columns.{Columns}
use Rattle.scan_plan.specs.declared.columns.Columns.TheVariants as of
use Rattle.scan_plan.specs.declared.columns.Column.{Column}
use Rattle.scan_plan.specs.declared.columns.Readable.{Readable}
use Rattle.scan_plan.specs.declared.columns.Readable.TheVariants as readable
use Rattle.scan_plan.specs.declared.paths.Found.{Found}
use Rattle.scan_plan.specs.declared.paths.Found.TheVariants as find
use Rattle.scan_plan.specs.declared.plans.BindFault.{BindFault}
use Rattle.scan_plan.specs.declared.plans.BindFault.TheVariants as fault

-- ---- the part of a path that applies to the row

-- the name is the one of that text, quoted or not, as `is_same_name` says of two names
abbrev pub is_named : Name → List ℕ → Bool → Bool
is_named name text quoted = if name.quoted && quoted then bytes_eq name.text text else str_eq_ignore_ascii_case name.text text

-- behind the source's name; the whole path, where it doesn't begin with that name
abbrev pub rest_of : Name → List PathStep → List PathStep
rest_of source [] = []
rest_of source (step.Member name ∷ steps) = if is_same_name name source then steps else step.Member name ∷ steps
rest_of source (step.Element place ∷ steps) = step.Element place ∷ steps

-- the name that it is, where it is one name and nothing more
abbrev pub only_name : List PathStep → Option Name
only_name [] = None
only_name (step.Member name ∷ []) = Some name
only_name (step.Member name ∷ s ∷ steps) = None
only_name (step.Element place ∷ steps) = None

-- ---- names of columns

-- an unquoted name matches in any ASCII case, a quoted one exactly
abbrev pub matches : Name → List ℕ → Bool
matches name column = if name.quoted then bytes_eq name.text column else str_eq_ignore_ascii_case name.text column

-- the digits of a number from 1, without a leading zero
abbrev pub counts_from_one : List ℕ → Bool
counts_from_one [] = false
counts_from_one (digit ∷ digits) = nat_lt 48 digit && all_ascii_digits (digit ∷ digits)

-- the place from 0 of the column that these digits count from 1, where they count to at most that number
unfoldable pub counted : ℕ → List ℕ → Option ℕ
counted most digits = if counts_from_one digits && nat_le (digits_value 10 digits) most then Some (digits_value 10 digits - 1) else None

-- `_k`
unfoldable pub place_counted : ℕ → List ℕ → Option ℕ
place_counted most [] = None
place_counted most (byte ∷ digits) = if byte == 95 then counted most digits else None

-- the greatest k of `_k` on CSV
abbrev pub most_fields : ℕ
most_fields = 65536

-- ---- what a path finds

-- a column of a file that is used must be readable
abbrev pub read_as : ℕ → Readable → Result Found BindFault
read_as place readable.Yes = Ok (find.Column place)
read_as place readable.UnsupportedType = Err fault.UnsupportedParquetType
read_as place readable.Compressed = Err fault.UnsupportedParquetCodec

abbrev pub read_at : ℕ → Option Column → Result Found BindFault
read_at place None = Err fault.UnknownColumn
read_at place (Some column) = read_as place column.readable

-- a field of a CSV record
abbrev pub field_or_unknown : Option ℕ → Result Found BindFault
field_or_unknown None = Err fault.UnknownColumn
field_or_unknown (Some place) = Ok (find.Column place)

-- a column of a file
abbrev pub column_or_unknown : List Column → Option ℕ → Result Found BindFault
column_or_unknown columns None = Err fault.UnknownColumn
column_or_unknown columns (Some place) = read_at place (slice_get columns place)

-- the first field of that name, else the one that it counts
abbrev pub field_named : List (List ℕ) → Name → Option ℕ
field_named names name = option_or (position_from (matches name) 0 names) (place_counted most_fields name.text)

-- the first column of that name, else the one that it counts
abbrev pub column_named : List Column → Name → Option ℕ
column_named columns name =
    option_or (position_from (λ column. matches name column.name) 0 columns) (place_counted (length columns) name.text)

-- on CSV and Parquet the rest of a path is one name
abbrev pub found_by_name : Columns → Option Name → Result Found BindFault
found_by_name columns None = Err fault.UnknownColumn
found_by_name of.Json (Some name) = Ok find.Record
found_by_name of.Document (Some name) = Ok find.Record
found_by_name of.Positions (Some name) = field_or_unknown (place_counted most_fields name.text)
found_by_name (of.Names names) (Some name) = field_or_unknown (field_named names name)
found_by_name of.Absent (Some name) = Ok find.Missing
found_by_name (of.Parquet columns) (Some name) = column_or_unknown columns (column_named columns name)

-- on JSON it is any steps, which lead into the record
abbrev pub found_at : Columns → List PathStep → Result Found BindFault
found_at of.Json rest = Ok find.Record
found_at of.Document rest = Ok find.Record
found_at of.Positions rest = found_by_name of.Positions (only_name rest)
found_at (of.Names names) rest = found_by_name (of.Names names) (only_name rest)
found_at of.Absent rest = found_by_name of.Absent (only_name rest)
found_at (of.Parquet columns) rest = found_by_name (of.Parquet columns) (only_name rest)

-- what a path finds, or the fault that it is
unfoldable pub found : Columns → Name → List PathStep → Result Found BindFault
found columns source path = found_at columns (rest_of source path)
