-- What a query means over an object: the records that it processes, or the code that ends it before the first.
use Rattle.std.specs.Prelude.{ℕ, List, [], ◌∷◌, Bool, Option, None, Some, Result, Ok, Err}
use Rattle.event_frame.specs.Event.{Event}
use Rattle.select_request.specs.declared.request.SelectRequest.{SelectRequest}
use Rattle.sql_grammar.specs.declared.tree.Query.{Query}
use Rattle.select_reply.specs.declared.code.Code.{Code}
use Rattle.select_reply.specs.declared.code.Code.TheVariants.{NotBuilt}
use Rattle.select_reply.specs.declared.outcome.Outcome.{Outcome}
use Rattle.select_reply.specs.declared.outcome.Outcome.TheVariants.{Faulted}
use Rattle.select_reply.specs.Yields.{Yield, Yielded}
use Rattle.select_reply.specs.Answers.{processed, processed_with_totals}
use Rattle.select_reply.specs.Events.{error_event, answer_events}
use Rattle.select_reply.specs.Replies.{outcome_of}
use Rattle.record_rows.specs.Formats.{format_of, line_delimiter}
use Rattle.record_rows.specs.declared.format.LineFormat.{LineFormat}
use Rattle.record_stream.specs.Lines.{yields_of}
use Rattle.planned_lines.specs.LineYields.{no_totals, totals_with_all, rows_of, totals_record, lines_of}
use Rattle.planned_lines.specs.declared.planned.Planned.{Planned}
use Rattle.object_plan.specs.Planning.{planned_over}
use Rattle.select_job.specs.declared.asked.Asked.{Asked}
use Rattle.select_job.specs.declared.asked.Asked.TheVariants.{Refused, Asks}
use Rattle.select_engine.specs.Chosen.{chosen_cuts}

-- ---- the records

-- what the records that the request asks for yield
abbrev pub yields_over : LineFormat → Planned → ℕ → List ℕ → SelectRequest → List Yielded
yields_over format p longest object request =
    yields_of (lines_of format p.columns p.plan request.output longest) longest (chosen_cuts (line_delimiter format) request object)

-- with aggregates, what the record of the totals yields that have the rows of these records, one after the other
abbrev pub totals_over : LineFormat → Planned → ℕ → List ℕ → SelectRequest → Option Yield
totals_over format p longest object request =
    totals_record p.plan.items p.plan.names request.output longest
    (totals_with_all p.plan.items p.plan.filter
    (rows_of format longest (chosen_cuts (line_delimiter format) request object))
    (no_totals p.plan.items))

-- records are processed up to the limit or the first code; with aggregates up to a code, and else the record of totals follows them
abbrev pub answered_with : Option ℕ → List Yielded → Option Yield → List Yielded
answered_with limit ys None = processed limit ys
answered_with limit ys (Some totals) = processed_with_totals limit ys totals

abbrev pub answered_by : LineFormat → ℕ → List ℕ → SelectRequest → Result Planned Code → Result (List Yielded) Code
answered_by format longest object request (Ok p) =
    Ok (answered_with p.plan.limit (yields_over format p longest object request) (totals_over format p longest object request))
answered_by format longest object request (Err code) = Err code

abbrev pub answered_in : Option LineFormat → ℕ → List ℕ → SelectRequest → Query → Result (List Yielded) Code
answered_in None longest object request query = Err NotBuilt
answered_in (Some format) longest object request query = answered_by format longest object request (planned_over longest object request.input query)

-- the records of the answer to a query over an object under a record limit, or the code that ends it before the first
abbrev pub answered : ℕ → List ℕ → SelectRequest → Query → Result (List Yielded) Code
answered longest object request query = answered_in (format_of request.input) longest object request query

-- ---- the reply

-- a code before the first record stands at byte 0
abbrev pub events_of : Bool → Result (List Yielded) Code → List Event
events_of progress (Ok done) = answer_events progress done
events_of progress (Err code) = error_event code 0 ∷ []

abbrev pub ended : Result (List Yielded) Code → Outcome
ended (Ok done) = outcome_of done
ended (Err code) = Faulted code 0

-- the events of the reply to what a body asks of an object, under a record limit
abbrev pub events : ℕ → List ℕ → Asked → List Event
events longest object (Refused code at) = error_event code at ∷ []
events longest object (Asks job) = events_of job.request.progress (answered longest object job.request job.query)
