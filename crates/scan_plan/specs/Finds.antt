-- What the paths of a query find, in the order of its text, the columns of a file that it uses, and the first fault.
use Rattle.std.specs.Prelude.{◌≡◌, ◌<◌, get_or, ℕ, suc, ◌==◌, nat_lt, Bool, true, false, ◌||◌, List, [], ◌∷◌, ◌++◌, length, map, Option, Some, None, Result, Ok, Err, if◌then◌else◌}
use Rattle.std.specs.Option.{option_or}
use Rattle.sql_grammar.specs.Faults.{source_name}
use Rattle.sql_grammar.specs.declared.tree.Name.{Name}
use Rattle.sql_grammar.specs.declared.tree.Step.{Step}
use Rattle.sql_grammar.specs.declared.tree.Expr.{Expr}
use Rattle.sql_grammar.specs.declared.tree.SumPart.{SumPart}
use Rattle.sql_grammar.specs.declared.tree.ProdPart.{ProdPart}
use Rattle.sql_grammar.specs.declared.tree.Arm.{Arm}
use Rattle.sql_grammar.specs.declared.tree.Agg.{Agg}
use Rattle.sql_grammar.specs.declared.tree.Agg.TheVariants as agg
use Rattle.sql_grammar.specs.declared.tree.Item.{Item}
use Rattle.sql_grammar.specs.declared.tree.Total.{Total}
use Rattle.sql_grammar.specs.declared.tree.Selection.{Selection}
use Rattle.sql_grammar.specs.declared.tree.Selection.TheVariants as selection
use Rattle.sql_grammar.specs.declared.tree.Query.{Query}
use Rattle.scan_plan.specs.declared.columns.Columns.{Columns}
use Rattle.scan_plan.specs.declared.columns.Columns.TheVariants as of
use Rattle.scan_plan.specs.declared.columns.Column.{Column}
use Rattle.scan_plan.specs.declared.paths.Found.{Found}
use Rattle.scan_plan.specs.declared.paths.Found.TheVariants as find
use Rattle.scan_plan.specs.declared.plans.BindFault.{BindFault}
use Rattle.scan_plan.specs.declared.plans.BindFault.TheVariants as fault
use Rattle.scan_plan.specs.Paths.{read_as, found}
use Rattle.scan_plan.specs.Order.{joined, of_paths, of_arm, of_prod_part, of_sum_part}

-- ---- in the order of the text

abbrev pub Finding : Type 0
Finding = Result Found BindFault

abbrev pub expr_finds : Columns → Option Name → Expr → List Finding
expr_finds columns alias = of_paths (found columns (source_name alias))

abbrev pub arm_finds : Columns → Option Name → Arm → List Finding
arm_finds columns alias = of_arm (found columns (source_name alias))

abbrev pub prod_part_finds : Columns → Option Name → ProdPart → List Finding
prod_part_finds columns alias = of_prod_part (found columns (source_name alias))

abbrev pub sum_part_finds : Columns → Option Name → SumPart → List Finding
sum_part_finds columns alias = of_sum_part (found columns (source_name alias))

abbrev pub item_finds : Columns → Option Name → Item → List Finding
item_finds columns alias i = expr_finds columns alias i.expr

abbrev pub agg_finds : Columns → Option Name → Agg → List Finding
agg_finds columns alias agg.CountAll = []
agg_finds columns alias (agg.Count e) = expr_finds columns alias e
agg_finds columns alias (agg.Sum e) = expr_finds columns alias e
agg_finds columns alias (agg.Min e) = expr_finds columns alias e
agg_finds columns alias (agg.Max e) = expr_finds columns alias e
agg_finds columns alias (agg.Avg e) = expr_finds columns alias e

abbrev pub total_finds : Columns → Option Name → Total → List Finding
total_finds columns alias t = agg_finds columns alias t.agg

-- `*` uses each column of a file; the first of these columns stands at that place
abbrev pub each_column : ℕ → List Column → List Finding
each_column place [] = []
each_column place (column ∷ columns) = read_as place column.readable ∷ each_column (suc place) columns

abbrev pub all_finds : Columns → List Finding
all_finds (of.Parquet columns) = each_column 0 columns
all_finds of.Json = []
all_finds of.Document = []
all_finds of.Positions = []
all_finds (of.Names names) = []
all_finds of.Absent = []

abbrev pub selection_finds : Columns → Option Name → Selection → List Finding
selection_finds columns alias selection.All = all_finds columns
selection_finds columns alias (selection.Rows items) = joined (map (item_finds columns alias) items)
selection_finds columns alias (selection.Totals totals) = joined (map (total_finds columns alias) totals)

abbrev pub filter_finds : Columns → Option Name → Option Expr → List Finding
filter_finds columns alias None = []
filter_finds columns alias (Some e) = expr_finds columns alias e

-- of what is selected, then of the condition
unfoldable pub query_finds : Columns → Query → List Finding
query_finds columns q = selection_finds columns q.alias q.items ++ filter_finds columns q.alias q.filter

-- ---- the columns of a file that it uses

abbrev pub finds_column : ℕ → Finding → Bool
finds_column place (Ok (find.Column column)) = column == place
finds_column place (Ok find.Record) = false
finds_column place (Ok find.Missing) = false
finds_column place (Err f) = false

-- the place is that of the column
abbrev pub is_place : ℕ → Option ℕ → Bool
is_place place None = false
is_place place (Some column) = column == place

-- a column is marked where it was, or where the path finds it
abbrev pub Marks : Finding → List Bool → List Bool → Type 0
Marks f before after = (place : ℕ) → place < length before → get_or after place false ≡ (get_or before place false || finds_column place f)

abbrev pub some_finds : ℕ → List Finding → Bool
some_finds place [] = false
some_finds place (f ∷ finds) = finds_column place f || some_finds place finds

-- the places of the columns that some path finds, ascending; the first of these columns stands at that place
abbrev pub used_from : ℕ → List Column → List Finding → List ℕ
used_from place [] finds = []
used_from place (column ∷ columns) finds =
    if some_finds place finds then place ∷ used_from (suc place) columns finds else used_from (suc place) columns finds

unfoldable pub used_columns : Columns → List Finding → List ℕ
used_columns (of.Parquet columns) finds = used_from 0 columns finds
used_columns of.Json finds = []
used_columns of.Document finds = []
used_columns of.Positions finds = []
used_columns (of.Names names) finds = []
used_columns of.Absent finds = []

-- ---- faults

-- the most columns of a file that a query uses
abbrev pub most_columns : ℕ
most_columns = 128

-- there is a path in FROM, and the input is no document
abbrev pub has_wrong_source : Columns → List Step → Bool
has_wrong_source columns [] = false
has_wrong_source of.Document (s ∷ steps) = false
has_wrong_source of.Json (s ∷ steps) = true
has_wrong_source of.Positions (s ∷ steps) = true
has_wrong_source (of.Names names) (s ∷ steps) = true
has_wrong_source of.Absent (s ∷ steps) = true
has_wrong_source (of.Parquet columns) (s ∷ steps) = true

-- the first path that is a fault
abbrev pub first_fault : List Finding → Option BindFault
first_fault [] = None
first_fault (Ok f ∷ finds) = first_fault finds
first_fault (Err f ∷ finds) = Some f

abbrev pub too_many : List ℕ → Option BindFault
too_many used = if nat_lt most_columns (length used) then Some fault.TooManyColumns else None

-- the path in FROM first, then the paths in the order of the text, then their number of columns
unfoldable pub bind_fault : Columns → Query → Option BindFault
bind_fault columns q =
    if has_wrong_source columns q.source then Some fault.UnsupportedSource
    else option_or (first_fault (query_finds columns q)) (too_many (used_columns columns (query_finds columns q)))
