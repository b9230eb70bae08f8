-- A query over an object that is still to be named.
use Rattle.std.specs.Prelude.{Option}
use Rattle.select_request.specs.declared.request.SelectRequest.{SelectRequest}
use Rattle.select_request.specs.declared.request.ScanRange.{ScanRange}
use Rattle.sql_grammar.specs.declared.tree.Query.{Query}

-- the request that a body spells, and the query that its expression spells
pub record Job : Type 0 where
  pub request : SelectRequest
  pub query : Query

abbrev pub request_with : SelectRequest → Option ScanRange → SelectRequest
request_with request range = record {
  expression = request.expression;
  progress = request.progress;
  input = request.input;
  output = request.output;
  range = range;
}

-- the query with this range in place of its request's own
abbrev pub with_range : Job → Option ScanRange → Job
with_range job range = record { request = request_with job.request range; query = job.query }
