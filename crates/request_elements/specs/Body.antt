-- What a body is by its grammar: the elements that it has, or the place at which it is refused.
use Rattle.std.specs.Prelude.{◌≡◌, ℕ, List}
use Rattle.grammar_rules.specs.Places.{RefusedThere}
use Rattle.request_elements.specs.declared.found.Found.{Found}
use Rattle.request_elements.specs.declared.elements.ElementsError.{ElementsError}
use Rattle.request_elements.specs.declared.elements.ElementsError.TheVariants.{Malformed, OutOfMemory}
use Rattle.request_elements.specs.declared.elements.Failure.{Failure}
use Rattle.request_elements.specs.declared.elements.Failure.TheVariants.{Refused, Memory}
use Rattle.request_elements.specs.Pieces.{symbols_of, place_of}
use Rattle.request_elements.specs.Grammar.{request_body}

-- the body's pieces spell these elements
abbrev pub HasElements : List ℕ → List Found → Type 0
HasElements body found = request_body.Spells found (symbols_of body)

-- the first piece that can't stand there has this place, or the body ends there too early
pub record IsMalformed (body : List ℕ) (at : ℕ) : Type 0 where
  pub piece : ℕ
  pub refused : RefusedThere request_body (symbols_of body) piece
  pub place : at ≡ place_of body piece

-- the error tells that place
abbrev pub IsMalformedAs : List ℕ → ElementsError → Type 0
IsMalformedAs body (Malformed at) = IsMalformed body at
IsMalformedAs body OutOfMemory = Unit {0}

-- the error is at this place, but for want of memory
abbrev pub IsAt : ℕ → ElementsError → Type 0
IsAt place (Malformed at) = at ≡ place
IsAt place OutOfMemory = Unit {0}

-- the error that a failure at this place is
abbrev pub error_of : Failure → ℕ → ElementsError
error_of Refused at = Malformed at
error_of Memory at = OutOfMemory
