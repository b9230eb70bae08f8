-- The elements of a printed body.
use Rattle.std.specs.Prelude.{ℕ, ◌+◌, List, [], ◌∷◌, length}
use Rattle.select_request.specs.Printed.{Part, opens, leaf, closes, print_part, parts_of}
use Rattle.request_elements.specs.declared.found.Found.{Found}
use Rattle.select_request.specs.declared.request.SelectRequest.{SelectRequest}

-- the elements of parts that begin at this place, each at its start tag
abbrev pub found_in : ℕ → List Part → List Found
found_in at [] = []
found_in at (opens e ∷ parts) = record { element = e; at = at; text = [] } ∷ found_in (at + length (print_part (opens e))) parts
found_in at (leaf e text ∷ parts) = record { element = e; at = at; text = text } ∷ found_in (at + length (print_part (leaf e text))) parts
found_in at (closes e ∷ parts) = found_in (at + length (print_part (closes e))) parts

-- the elements of the printed body
unfoldable pub found_of : SelectRequest → List Found
found_of request = found_in 0 (parts_of request)
