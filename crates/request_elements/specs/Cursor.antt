-- What a contract sees of the cursor over a body's pieces.
use Rattle.std.specs.Prelude.{ℕ, List, [], ◌∷◌, Option, Some, None}
use Rattle.request_elements.specs.declared.pieces.Piece.{Piece as Sight}
use Rattle.request_elements.specs.declared.pieces.Piece.TheVariants.{Declaration, Start, End, Empty, Text, Unfit}
use Rattle.request_elements.specs.Pieces.{Piece, declaration, start_tag, end_tag, empty_tag, char_data, unfit, Symbol, cut}

-- the piece in sight
abbrev pub shown : Sight → Piece
shown Declaration = declaration
shown (Start name) = start_tag name.now
shown (End name) = end_tag name.now
shown (Empty name) = empty_tag name.now
shown (Text raw) = char_data raw.now
shown Unfit = unfit

-- the pieces that are left: the one in sight, and those of the bytes behind it
abbrev pub seen : Option Sight → ℕ → ℕ → List ℕ → List Symbol
seen None at next behind = []
seen (Some sight) at next behind = record { at = at; piece = shown sight } ∷ cut next behind

-- the bytes of a text
abbrev pub text_of : Piece → Option (List ℕ)
text_of declaration = None
text_of (start_tag name) = None
text_of (end_tag name) = None
text_of (empty_tag name) = None
text_of (char_data raw) = Some raw
text_of unfit = None

-- the name of a start tag or a whole element
abbrev pub beginning_name : Piece → Option (List ℕ)
beginning_name declaration = None
beginning_name (start_tag name) = Some name
beginning_name (end_tag name) = None
beginning_name (empty_tag name) = Some name
beginning_name (char_data raw) = None
beginning_name unfit = None

abbrev pub first_text : List Symbol → Option (List ℕ)
first_text [] = None
first_text (s ∷ ss) = text_of s.piece

abbrev pub first_name : List Symbol → Option (List ℕ)
first_name [] = None
first_name (s ∷ ss) = beginning_name s.piece
