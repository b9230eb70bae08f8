-- What a body asks: a query over an object, or the refusal of the body or of its expression.
use Rattle.std.specs.Prelude.{◌≡◌, ◌⊎◌, ℕ, true, false, List, Result, Ok, Err}
use Rattle.select_request.specs.Reading.{Reads}
use Rattle.select_request.specs.declared.request.SelectRequest.{SelectRequest}
use Rattle.select_request.specs.declared.fault.RequestFault.{RequestFault}
use Rattle.select_request.specs.declared.fault.ReadError.TheVariants.{Refused}
use Rattle.sql_grammar.specs.Faults.{Spells, FaultOf}
use Rattle.sql_grammar.specs.declared.error.SqlError.{SqlError}
use Rattle.sql_grammar.specs.declared.error.ParseError.{ParseError}
use Rattle.sql_grammar.specs.declared.error.ParseError.TheVariants as parse
use Rattle.sql_grammar.specs.declared.tree.Query.{Query}
use Rattle.sql_lawful.specs.Lawful.{IsLawful}
use Rattle.select_reply.specs.declared.code.Code.{Code}
use Rattle.select_reply.specs.declared.code.Code.TheVariants.{NotBuilt}
use Rattle.select_job.specs.Built.{is_built}
use Rattle.select_job.specs.Codes.{request_code, sql_code}
use Rattle.select_job.specs.Jobs.{Job}
use Rattle.select_job.specs.declared.asked.Asked.{Asked}
use Rattle.select_job.specs.declared.asked.Asked.TheVariants as asked

-- the body's own refusal, at its place in the body
pub record HasBodyFault (body : List ℕ) (code : Code) (at : ℕ) : Type 0 where
  pub fault : RequestFault
  pub read : Reads body (Err (Refused fault))
  pub named : code ≡ request_code fault.code
  pub placed : at ≡ fault.at

-- the refusal of a request's expression, at its place in the expression
pub record IsRefusedQuery (request : SelectRequest) (code : Code) (at : ℕ) : Type 0 where
  pub error : SqlError
  pub refused : FaultOf request.expression error
  pub named : code ≡ sql_code error.code
  pub placed : at ≡ error.at

-- a request asks what isn't built
pub record IsUnbuilt (request : SelectRequest) (code : Code) (at : ℕ) : Type 0 where
  pub query : Query
  pub spelled : Spells request.expression query
  pub unbuilt : is_built request ≡ false
  pub named : code ≡ NotBuilt
  pub placed : at ≡ 0

-- the body spells a request, and its query is refused
pub record HasQueryFault (body : List ℕ) (code : Code) (at : ℕ) : Type 0 where
  pub request : SelectRequest
  pub read : Reads body (Ok request)
  pub refused : IsRefusedQuery request code at ⊎ IsUnbuilt request code at

-- the body spells the request, and its expression the query
pub record IsAsked (body : List ℕ) (job : Job) : Type 0 where
  pub read : Reads body (Ok job.request)
  pub spelled : Spells job.request.expression job.query
  pub built : is_built job.request ≡ true

-- what a body asks: its own refusal comes first, then that of its expression
abbrev pub Prepares : List ℕ → Asked → Type 0
Prepares body (asked.Refused code at) = HasBodyFault body code at ⊎ HasQueryFault body code at
Prepares body (asked.Asks job) = IsAsked body job

-- a body asks one thing
abbrev pub EachAsksOneThing : Type 0
EachAsksOneThing = (body : List ℕ) (asked other : Asked) → Prepares body asked → Prepares body other → asked ≡ other

-- ---- while a body is read

-- what a request that was read asks
abbrev pub AsksQuery : SelectRequest → Asked → Type 0
AsksQuery request (asked.Refused code at) = IsRefusedQuery request code at ⊎ IsUnbuilt request code at
AsksQuery request (asked.Asks job) = (job.request ≡ request) × Spells request.expression job.query × (is_built request ≡ true)

-- a refusal tells the text's fault
abbrev pub RefusesOf : List ℕ → ParseError → Type 0
RefusesOf text error = (fault : SqlError) → error ≡ parse.Refused fault → FaultOf text fault

-- the query that a text spells, or its fault, or memory was wanting
abbrev pub IsParsed : List ℕ → Result Query ParseError → Type 0
IsParsed text (Ok query) = Spells text query × IsLawful query
IsParsed text (Err error) = RefusesOf text error
