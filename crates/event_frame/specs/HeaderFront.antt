-- What the bytes of headers begin with, and how far they are good.
use Rattle.std.specs.Prelude.{◌≡◌, ◌≢◌, ℕ, List, ◌++◌, length}
use Rattle.event_frame.specs.Message.{Header, print_header, print_headers}
use Rattle.event_frame.specs.Event.{header}
use Rattle.event_frame.specs.Reading.{IsHeader, AreHeaders, StopsAt}

-- no header that can be written stands at the front
abbrev pub HasNoHeader : List ℕ → Type 0
HasNoHeader bytes = (h : Header) (more : List ℕ) → IsHeader h → bytes ≢ print_header h ++ more

-- the header of this name and value stands at the front, and then the rest
pub record SpellsHeader (bytes name value rest : List ℕ) : Type 0 where
  pub is_header : IsHeader (header name value)
  pub spelled : bytes ≡ print_header (header name value) ++ rest

-- the bytes are headers of a message
pub record EndsWell (bytes : List ℕ) : Type 0 where
  pub headers : List Header
  pub are_headers : AreHeaders headers
  pub spelled : bytes ≡ print_headers headers

-- the bytes are headers of a message up to this place, and go bad there
pub record EndsBadly (bytes : List ℕ) (place : ℕ) : Type 0 where
  pub headers : List Header
  pub rest : List ℕ
  pub are_headers : AreHeaders headers
  pub stops : StopsAt headers rest
  pub spelled : bytes ≡ print_headers headers ++ rest
  pub place_is : place ≡ length (print_headers headers)
