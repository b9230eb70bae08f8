-- The plan of a query over an object.
use Rattle.std.specs.Prelude.{ℕ, List, Result, Ok, Err}
use Rattle.select_request.specs.declared.request.Input.{Input}
use Rattle.sql_grammar.specs.declared.tree.Query.{Query}
use Rattle.scan_plan.specs.declared.columns.Columns.{Columns}
use Rattle.scan_plan.specs.declared.plans.BindFault.{BindFault}
use Rattle.scan_plan.specs.declared.plans.Plan.{Plan}
use Rattle.scan_plan.specs.Plans.{planned}
use Rattle.select_reply.specs.declared.code.Code.{Code}
use Rattle.planned_lines.specs.declared.planned.Planned.{Planned}
use Rattle.object_plan.specs.Codes.{bind_code}
use Rattle.object_plan.specs.Columns.{columns_of}

abbrev pub bound_to : Columns → Result Plan BindFault → Result Planned Code
bound_to columns (Ok plan) = Ok (record { columns = columns; plan = plan })
bound_to columns (Err fault) = Err (bind_code fault)

abbrev pub bound_in : Query → Result Columns Code → Result Planned Code
bound_in query (Ok columns) = bound_to columns (planned columns query)
bound_in query (Err code) = Err code

-- under a record limit: the header's fault comes first, then that of binding
abbrev pub planned_over : ℕ → List ℕ → Input → Query → Result Planned Code
planned_over longest object input query = bound_in query (columns_of input longest object)
