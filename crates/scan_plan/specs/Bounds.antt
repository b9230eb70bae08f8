-- What the paths of a query are bound to, and its bound expressions.
use Rattle.std.specs.Prelude.{ℕ, ◌==◌, List, [], Option, Result, Ok, Err, unwrap_or}
use Rattle.std.specs.List.{position_from}
use Rattle.sql_grammar.specs.Faults.{source_name}
use Rattle.sql_grammar.specs.declared.tree.Name.{Name}
use Rattle.sql_grammar.specs.declared.tree.PathStep.{PathStep}
use Rattle.sql_grammar.specs.declared.tree.Expr.{Expr}
use Rattle.sql_grammar.specs.declared.tree.SumPart.{SumPart}
use Rattle.sql_grammar.specs.declared.tree.ProdPart.{ProdPart}
use Rattle.sql_grammar.specs.declared.tree.Arm.{Arm}
use Rattle.sql_bound.specs.declared.tree.Bound.{Bound}
use Rattle.sql_bound.specs.declared.tree.Bound.TheVariants as bound
use Rattle.sql_bound.specs.declared.tree.BoundSumPart.{BoundSumPart}
use Rattle.sql_bound.specs.declared.tree.BoundProdPart.{BoundProdPart}
use Rattle.sql_bound.specs.declared.tree.BoundArm.{BoundArm}
use Rattle.scan_plan.specs.declared.columns.Columns.{Columns}
use Rattle.scan_plan.specs.declared.columns.Columns.TheVariants as of
use Rattle.scan_plan.specs.declared.paths.Found.{Found}
use Rattle.scan_plan.specs.declared.paths.Found.TheVariants as find
use Rattle.scan_plan.specs.declared.plans.BindFault.{BindFault}
use Rattle.scan_plan.specs.Paths.{rest_of, found}
use Rattle.scan_plan.specs.Trees.{with_paths, arm_with_paths, prod_part_with_paths, sum_part_with_paths}

-- ---- cells

-- the cell of a column: on Parquet its place among the used columns, on CSV its own place
abbrev pub cell_index : Columns → List ℕ → ℕ → ℕ
cell_index (of.Parquet columns) used column = unwrap_or (position_from (λ u. u == column) 0 used) 0
cell_index of.Json used column = column
cell_index of.Document used column = column
cell_index of.Positions used column = column
cell_index (of.Names names) used column = column
cell_index of.Absent used column = column

-- what a path finds, as a bound expression; a query with a path that is a fault has no plan
abbrev pub bound_found : Columns → List ℕ → List PathStep → Result Found BindFault → Bound
bound_found columns used rest (Ok (find.Column place)) = bound.Cell (cell_index columns used place) []
bound_found columns used rest (Ok find.Record) = bound.Cell 0 rest
bound_found columns used rest (Ok find.Missing) = bound.Missing
bound_found columns used rest (Err f) = bound.Missing

unfoldable pub bound_path : Columns → Name → List ℕ → List PathStep → Bound
bound_path columns source used path = bound_found columns used (rest_of source path) (found columns source path)

-- ---- expressions

abbrev pub bound_expr : Columns → Option Name → List ℕ → Expr → Bound
bound_expr columns alias used = with_paths (bound_path columns (source_name alias) used)

abbrev pub bound_arm : Columns → Option Name → List ℕ → Arm → BoundArm
bound_arm columns alias used = arm_with_paths (bound_path columns (source_name alias) used)

abbrev pub bound_prod_part : Columns → Option Name → List ℕ → ProdPart → BoundProdPart
bound_prod_part columns alias used = prod_part_with_paths (bound_path columns (source_name alias) used)

abbrev pub bound_sum_part : Columns → Option Name → List ℕ → SumPart → BoundSumPart
bound_sum_part columns alias used = sum_part_with_paths (bound_path columns (source_name alias) used)
