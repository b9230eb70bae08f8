-- A CSV field that began with its quote: what the characters behind that quote stand for (RFC 4180,
-- section 2, with an escape character of its own).
use Rattle.std.specs.Prelude.{◌≡◌, ◌≢◌, ℕ, zero, suc, Bool, false, ◌||◌, ◌&&◌, ◌==◌, IsTrue, List, [], ◌∷◌, ◌++◌, slice_index, if◌then◌else◌}
use Rattle.std.specs.Str.{NonePass}

-- the characters begin with a quote or an escape
abbrev pub begins_special : ℕ → ℕ → List ℕ → Bool
begins_special q e [] = false
begins_special q e (c ∷ cs) = c == q || c == e

-- The text of a field, read behind its opening quote q, after `skip` characters that were read already.
-- An escape e directly before a quote or an escape stands for that character. A quote that isn't so
-- escaped closes the quoted part, and what follows it is kept as it is. Every other character, an escape
-- too, stands for itself. A quoted part that isn't closed ends with the field.
abbrev pub unquoted_after : ℕ → ℕ → ℕ → List ℕ → List ℕ
unquoted_after q e skip [] = []
unquoted_after q e (suc skip) (c ∷ cs) = unquoted_after q e skip cs
unquoted_after q e zero (c ∷ cs) =
    if c == e && begins_special q e cs then slice_index cs 0 ∷ unquoted_after q e 1 cs
    else (if c == q then cs else c ∷ unquoted_after q e 0 cs)

-- the text of a field, read behind its opening quote
unfoldable pub unquoted : ℕ → ℕ → List ℕ → List ℕ
unquoted q e cs = unquoted_after q e 0 cs

-- ---- the same as a grammar: which texts the characters behind an opening quote stand for

-- a piece of the quoted part: an escape with the character behind it, or one character
pub data FieldPiece : Type 0 where
  escaped : ℕ → FieldPiece
  single : ℕ → FieldPiece

-- the characters of the pieces, before what follows them
abbrev pub print_field : ℕ → List FieldPiece → List ℕ → List ℕ
print_field e [] rest = rest
print_field e (escaped c ∷ pieces) rest = e ∷ c ∷ print_field e pieces rest
print_field e (single c ∷ pieces) rest = c ∷ print_field e pieces rest

-- the characters that the pieces stand for
abbrev pub field_text : List FieldPiece → List ℕ
field_text [] = []
field_text (escaped c ∷ pieces) = c ∷ field_text pieces
field_text (single c ∷ pieces) = c ∷ field_text pieces

-- An escape has a quote or an escape behind it. A single character is no quote, and an escape that
-- stands for itself has no quote and no escape behind it.
abbrev pub AreFieldPieces : ℕ → ℕ → List FieldPiece → List ℕ → Type 0
AreFieldPieces q e [] rest = Unit {0}
AreFieldPieces q e (escaped c ∷ pieces) rest =
    IsTrue (c == q || c == e) × AreFieldPieces q e pieces rest
AreFieldPieces q e (single c ∷ pieces) rest =
    (c ≢ q) × (c ≡ e → begins_special q e (print_field e pieces rest) ≡ false)
    × AreFieldPieces q e pieces rest

-- The characters behind an opening quote stand for the text: pieces, the closing quote and a tail, which
-- is kept as it is; or pieces alone, where the quoted part isn't closed. Behind a quote that is the
-- escape too no further quote follows.
pub data StandsFor (q e : ℕ) (raw text : List ℕ) : Type 0 where
  closed : (pieces : List FieldPiece) (tail : List ℕ) → AreFieldPieces q e pieces (q ∷ tail)
      → (q ≡ e → begins_special q e tail ≡ false) → raw ≡ print_field e pieces (q ∷ tail)
      → text ≡ field_text pieces ++ tail → StandsFor q e raw text
  unclosed : (pieces : List FieldPiece) → AreFieldPieces q e pieces []
      → raw ≡ print_field e pieces [] → text ≡ field_text pieces → StandsFor q e raw text

-- ---- fields that are a slice of their characters

-- no quote and no escape stands in the field, but for a closing quote at its end
pub data IsPlainField (q e : ℕ) (raw : List ℕ) : Type 0 where
  unclosed_plain : NonePass (λ c. c == q || c == e) raw → IsPlainField q e raw
  closed_plain : (text : List ℕ) → NonePass (λ c. c == q || c == e) text → raw ≡ text ++ q ∷ []
      → IsPlainField q e raw
