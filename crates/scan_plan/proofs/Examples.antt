-- What some paths find, computed.
use Rattle.std.proofs.Common.{◌≡◌, ℕ, Bool, true, false, List, [], ◌∷◌, Option, Some, None, Result, Ok, Err, refl, codes}
use Rattle.sql_grammar.specs.Faults.{source_name}
use Rattle.sql_grammar.specs.declared.tree.Name.{Name}
use Rattle.sql_grammar.specs.declared.tree.PathStep.{PathStep}
use Rattle.sql_grammar.specs.declared.tree.PathStep.TheVariants as step
use Rattle.scan_plan.specs.declared.columns.Columns.{Columns}
use Rattle.scan_plan.specs.declared.columns.Columns.TheVariants as of
use Rattle.scan_plan.specs.declared.columns.Column.{Column}
use Rattle.scan_plan.specs.declared.columns.Readable.{Readable}
use Rattle.scan_plan.specs.declared.columns.Readable.TheVariants as readable
use Rattle.scan_plan.specs.declared.paths.Found.{Found}
use Rattle.scan_plan.specs.declared.paths.Found.TheVariants as find
use Rattle.scan_plan.specs.declared.plans.BindFault.{BindFault}
use Rattle.scan_plan.specs.declared.plans.BindFault.TheVariants as fault
use Rattle.scan_plan.specs.Paths.{counted, place_counted, found}
use Rattle.scan_plan.specs.Plans.{last_name}

abbrev bare : List ℕ → Name
bare text = record { text = text; quoted = false }

abbrev quoted : List ℕ → Name
quoted text = record { text = text; quoted = true }

abbrev header : Columns
header = of.Names (codes "id" ∷ codes "name" ∷ codes "Name" ∷ [])

-- what a path of one name finds, where the source has no alias
abbrev named : Columns → Name → Result Found BindFault
named columns name = found columns (source_name None) (step.Member name ∷ [])

abbrev column : List ℕ → Readable → Column
column name state = record { name = name; readable = state }

abbrev file : Columns
file = of.Parquet (column (codes "id") readable.Yes ∷ column (codes "t") readable.Compressed ∷ column (codes "u") readable.UnsupportedType ∷ [])

in_any_case : named header (bare (codes "NAME")) ≡ Ok (find.Column 1)
unfolding found place_counted counted
in_any_case = refl

exactly : named header (quoted (codes "Name")) ≡ Ok (find.Column 2)
unfolding found place_counted counted
exactly = refl

none_exactly : named header (quoted (codes "NAME")) ≡ Err fault.UnknownColumn
unfolding found place_counted counted
none_exactly = refl

second_field : named header (quoted (codes "_2")) ≡ Ok (find.Column 1)
unfolding found place_counted counted
second_field = refl

last_field : named of.Positions (bare (codes "_65536")) ≡ Ok (find.Column 65535)
unfolding found place_counted counted
last_field = refl

no_field : named of.Positions (bare (codes "_65537")) ≡ Err fault.UnknownColumn
unfolding found place_counted counted
no_field = refl

no_zero : named of.Positions (bare (codes "_0")) ≡ Err fault.UnknownColumn
unfolding found place_counted counted
no_zero = refl

no_leading_zero : named of.Positions (bare (codes "_01")) ≡ Err fault.UnknownColumn
unfolding found place_counted counted
no_leading_zero = refl

no_names_ignored : named of.Positions (bare (codes "id")) ≡ Err fault.UnknownColumn
unfolding found place_counted counted
no_names_ignored = refl

name_before_number : named (of.Names (codes "_2" ∷ codes "x" ∷ [])) (bare (codes "_2")) ≡ Ok (find.Column 0)
unfolding found place_counted counted
name_before_number = refl

behind_the_source : found header (source_name None) (step.Member (bare (codes "s3object")) ∷ step.Member (bare (codes "id")) ∷ []) ≡ Ok (find.Column 0)
unfolding found place_counted counted
behind_the_source = refl

behind_the_alias : found header (source_name (Some (bare (codes "s")))) (step.Member (bare (codes "S")) ∷ step.Member (bare (codes "id")) ∷ []) ≡ Ok (find.Column 0)
unfolding found place_counted counted
behind_the_alias = refl

alias_alone : found header (source_name (Some (bare (codes "s")))) (step.Member (bare (codes "s")) ∷ []) ≡ Err fault.UnknownColumn
unfolding found place_counted counted
alias_alone = refl

no_index : found header (source_name None) (step.Member (bare (codes "id")) ∷ step.Element 0 ∷ []) ≡ Err fault.UnknownColumn
unfolding found place_counted counted
no_index = refl

record_itself : found of.Json (source_name (Some (bare (codes "s")))) (step.Member (bare (codes "s")) ∷ []) ≡ Ok find.Record
unfolding found place_counted counted
record_itself = refl

empty_object : named of.Absent (bare (codes "x")) ≡ Ok find.Missing
unfolding found place_counted counted
empty_object = refl

empty_object_two : found of.Absent (source_name None) (step.Member (bare (codes "x")) ∷ step.Member (bare (codes "y")) ∷ []) ≡ Err fault.UnknownColumn
unfolding found place_counted counted
empty_object_two = refl

readable_column : named file (bare (codes "_1")) ≡ Ok (find.Column 0)
unfolding found place_counted counted
readable_column = refl

compressed : named file (bare (codes "t")) ≡ Err fault.UnsupportedParquetCodec
unfolding found place_counted counted
compressed = refl

unsupported : named file (bare (codes "_3")) ≡ Err fault.UnsupportedParquetType
unfolding found place_counted counted
unsupported = refl

no_fourth : named file (bare (codes "_4")) ≡ Err fault.UnknownColumn
unfolding found place_counted counted
no_fourth = refl

name_at_end : last_name (step.Member (bare (codes "a")) ∷ step.Element 0 ∷ step.Member (bare (codes "B")) ∷ []) ≡ Some (codes "B")
unfolding found place_counted counted
name_at_end = refl

no_name_at_end : last_name (step.Member (bare (codes "a")) ∷ step.Element 0 ∷ []) ≡ None
unfolding found place_counted counted
no_name_at_end = refl
