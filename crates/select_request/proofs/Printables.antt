-- What a printable request has.
use Rattle.std.specs.Prelude.{◌≡◌, Bool, true, ◌&&◌}
use Rattle.std.proofs.lemmas.Bool.{and_parts}
use Rattle.select_request.specs.Printable.{is_expression, is_input, is_output, is_range_of, is_valid, is_printable}
use Rattle.select_request.specs.declared.request.SelectRequest.{SelectRequest}

pub and_left : (a b : Bool) → (a && b) ≡ true → a ≡ true
and_left a b h = (and_parts a b h).0

pub and_right : (a b : Bool) → (a && b) ≡ true → b ≡ true
and_right a b h = (and_parts a b h).1

pub record Printable (request : SelectRequest) : Type 0 where
  pub expression : is_expression request.expression ≡ true
  pub input : is_input request.input ≡ true
  pub output : is_output request.output ≡ true
  pub range : is_range_of request.input request.range ≡ true

pub printable : (request : SelectRequest) → is_printable request ≡ true → Printable request
unfolding is_printable is_valid
printable request h =
    let e = is_expression request.expression in
    let i = is_input request.input in
    let o = is_output request.output in
    let r = is_range_of request.input request.range in
    let valid = and_right e (i && o && r) h in
    let formats = and_left (i && o) r valid in
    record { expression = and_left e (i && o && r) h; input = and_left i o formats; output = and_right i o formats; range = and_right (i && o) r valid }
