-- The records whose output is due while an object is read: those that a query processes, without the record of totals, which stands behind
-- the last of them.
use Rattle.std.specs.Prelude.{ℕ, zero, suc, Bool, true, false, List, Option, None, Some, Result, Ok, Err}
use Rattle.select_request.specs.declared.request.SelectRequest.{SelectRequest}
use Rattle.sql_grammar.specs.declared.tree.Query.{Query}
use Rattle.scan_plan.specs.declared.plans.Plan.{Plan}
use Rattle.select_reply.specs.declared.code.Code.{Code}
use Rattle.select_reply.specs.declared.code.Code.TheVariants.{NotBuilt}
use Rattle.select_reply.specs.Yields.{Yielded}
use Rattle.select_reply.specs.Answers.{processed}
use Rattle.record_rows.specs.Formats.{format_of, line_delimiter}
use Rattle.record_rows.specs.declared.format.LineFormat.{LineFormat}
use Rattle.record_stream.specs.Lines.{records_of}
use Rattle.planned_lines.specs.LineYields.{has_aggregates, lines_of}
use Rattle.planned_lines.specs.declared.planned.Planned.{Planned}
use Rattle.object_plan.specs.Planning.{planned_over}
use Rattle.select_engine.specs.Answered.{yields_over}
use Rattle.select_engine.specs.Chosen.{chosen_cuts}

-- with aggregates only a limit of 0 ends the records
abbrev pub limit_unless_totals : Bool → Option ℕ → Option ℕ
limit_unless_totals false limit = limit
limit_unless_totals true None = None
limit_unless_totals true (Some zero) = Some zero
limit_unless_totals true (Some (suc n)) = None

abbrev pub limit_of : Plan → Option ℕ
limit_of plan = limit_unless_totals (has_aggregates plan.items) plan.limit

-- the records with the one that stands behind the last of them, if there is one
abbrev pub records_over : LineFormat → Planned → ℕ → List ℕ → SelectRequest → List Yielded
records_over format p longest object request =
    records_of (lines_of format p.columns p.plan request.output longest) longest (chosen_cuts (line_delimiter format) request object)

abbrev pub processed_by : LineFormat → ℕ → List ℕ → SelectRequest → Result Planned Code → Result (List Yielded) Code
processed_by format longest object request (Ok p) = Ok (processed (limit_of p.plan) (yields_over format p longest object request))
processed_by format longest object request (Err code) = Err code

abbrev pub processed_in : Option LineFormat → ℕ → List ℕ → SelectRequest → Query → Result (List Yielded) Code
processed_in None longest object request query = Err NotBuilt
processed_in (Some format) longest object request query = processed_by format longest object request (planned_over longest object request.input query)

-- the records that a query processes of an object under a record limit, or the code that ends it before the first
abbrev pub processed_over : ℕ → List ℕ → SelectRequest → Query → Result (List Yielded) Code
processed_over longest object request query = processed_in (format_of request.input) longest object request query
