-- What a request asks.
use Rattle.std.proofs.Common.{◌≡◌, ◌⊎◌, inl, Bool, true, false, ◌&&◌, refl}
use Rattle.std.specs.Prelude.{IsTrue}
use Rattle.select_request.specs.Printable.{is_input, is_output, is_range_of, is_valid}
use Rattle.select_request.specs.declared.request.SelectRequest.{SelectRequest}
use Rattle.sql_grammar.specs.Faults.{FaultOf}
use Rattle.sql_grammar.specs.declared.error.SqlError.{SqlError}
use Rattle.select_reply.specs.declared.code.Code.{Code}
use Rattle.select_job.specs.Codes.{sql_code}
use Rattle.select_job.specs.Prepared.{IsRefusedQuery, IsUnbuilt}

pub refused_query : (request : SelectRequest) (error : SqlError) (code : Code) → FaultOf request.expression error → code ≡ sql_code error.code
    → IsRefusedQuery request code error.at ⊎ IsUnbuilt request code error.at
refused_query request error code refused named = inl (record { error = error; refused = refused; named = named; placed = refl })

first_true : (a b : Bool) → IsTrue (a && b) → a ≡ true
first_true true b h = refl
first_true false b h = absurd (cc)

pub valid_input : (request : SelectRequest) → IsTrue (is_valid request) → is_input request.input ≡ true
unfolding is_valid
valid_input request h = first_true (is_input request.input) (is_output request.output) (first_true (is_input request.input && is_output request.output) (is_range_of request.input request.range) h)
