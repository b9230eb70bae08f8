-- Over which objects queries are built so far, and what one needs to be run.
use Rattle.std.specs.Prelude.{◌≡◌, not, Bool, true, false}
use Rattle.select_request.specs.Printable.{is_input}
use Rattle.select_request.specs.declared.request.SelectRequest.{SelectRequest}
use Rattle.select_request.specs.declared.request.Input.{Input}
use Rattle.select_request.specs.declared.request.Input.TheVariants as input
use Rattle.sql_grammar.specs.declared.tree.Query.{Query}
use Rattle.sql_lawful.specs.Lawful.{IsLawful}

-- the object's records are read: CSV, and JSON Lines
abbrev pub is_built_input : Input → Bool
is_built_input (input.Csv csv) = true
is_built_input input.JsonLines = true
is_built_input input.JsonDocument = false
is_built_input input.Parquet = false

-- what is asked of such an object is built, whatever the query
abbrev pub is_built : SelectRequest → Bool
is_built request = is_built_input request.input

-- the input's values pass the checks that a body's do, the query can be bound, and what is asked is built
pub record IsReady (request : SelectRequest) (query : Query) : Type 0 where
  pub valid : is_input request.input ≡ true
  pub lawful : IsLawful query
  pub built : is_built request ≡ true
