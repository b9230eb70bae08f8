-- The fields of a CSV line (RFC 4180, section 2, with characters of the dialect's own, and with a reading for every line). The rule is
-- one for lists of numbers: of a line's characters, and of its bytes.
use Rattle.std.specs.Prelude.{◌≡◌, ℕ, Bool, true, false, ◌==◌, List, [], ◌∷◌, ◌++◌, if◌then◌else◌, drop}
use Rattle.std.specs.Str.{NonePass}
use Rattle.text_view.specs.QuotedField.{unquoted, begins_special, FieldPiece, print_field, field_text, AreFieldPieces}
use Rattle.csv_cutter.specs.declared.dialect.Dialect.{Dialect}
use Rattle.csv_cutter.specs.Dialects.{is_valid}

-- the list begins with this character
abbrev pub begins_with : ℕ → List ℕ → Bool
begins_with c [] = false
begins_with c (x ∷ xs) = x == c

-- no field character stands in the list
abbrev pub IsUncut : Dialect → List ℕ → Type 0
IsUncut d cs = NonePass (λ c. c == d.field) cs

-- A spelled field stands for a text. A plain field doesn't begin with the quote, holds no field character, and stands for itself. A closed
-- one is the quote, the pieces of its quoted part, the closing quote, and a tail without a field character, which is kept as it is; behind
-- a quote that is the escape too no further quote follows.
pub data SpellsField (d : Dialect) (spelled text : List ℕ) : Type 0 where
  plain : begins_with d.quote spelled ≡ false → IsUncut d spelled → text ≡ spelled → SpellsField d spelled text
  closed : (pieces : List FieldPiece) (tail : List ℕ) → AreFieldPieces d.quote d.escape pieces (d.quote ∷ tail) → IsUncut d tail
      → (d.quote ≡ d.escape → begins_special d.quote d.escape tail ≡ false) → spelled ≡ d.quote ∷ print_field d.escape pieces (d.quote ∷ tail)
      → text ≡ field_text pieces ++ tail → SpellsField d spelled text

-- an open field is the quote and the pieces of its quoted part, which nothing closes
pub record SpellsOpen (d : Dialect) (spelled text : List ℕ) : Type 0 where
  pub pieces : List FieldPiece
  pub valid : AreFieldPieces d.quote d.escape pieces []
  pub opened : spelled ≡ d.quote ∷ print_field d.escape pieces []
  pub meant : text ≡ field_text pieces

-- A line begins with a field: the last one, which alone may be open, or one that the field character ends, with more fields behind it.
pub data BeginsWithField (d : Dialect) (may_be_open : Bool) (line text : List ℕ) (others : List (List ℕ)) (Others : List ℕ → Type 0) : Type 0 where
  last_field : others ≡ [] → SpellsField d line text → BeginsWithField d may_be_open line text others Others
  last_open : others ≡ [] → may_be_open ≡ true → SpellsOpen d line text → BeginsWithField d may_be_open line text others Others
  more_fields : (spelled rest : List ℕ) → line ≡ spelled ++ d.field ∷ rest → SpellsField d spelled text → Others rest
      → BeginsWithField d may_be_open line text others Others

-- the line's fields stand for these texts, one or more
abbrev pub SpellsTexts : Dialect → Bool → List ℕ → List (List ℕ) → Type 0
SpellsTexts d may_be_open line [] = ⊥
SpellsTexts d may_be_open line (text ∷ texts) = BeginsWithField d may_be_open line text texts (λ rest. SpellsTexts d may_be_open rest texts)

-- the fields of a line, the last of which may be open
abbrev pub SpellsFields : Dialect → List ℕ → List (List ℕ) → Type 0
SpellsFields d line texts = SpellsTexts d true line texts

-- The line splits into fields none of which is open.
pub record IsClosed (d : Dialect) (line : List ℕ) : Type 0 where
  pub texts : List (List ℕ)
  pub spelled : SpellsTexts d false line texts

-- each line has fields
abbrev pub EachLineHasFields : Type 0
EachLineHasFields = (d : Dialect) → is_valid d ≡ true → (line : List ℕ) → (texts : List (List ℕ)) × SpellsFields d line texts

-- a line has no other fields
abbrev pub FieldsAreOne : Type 0
FieldsAreOne =
    (d : Dialect) → is_valid d ≡ true → (line : List ℕ) (one other : List (List ℕ)) → SpellsFields d line one → SpellsFields d line other → one ≡ other

-- what a spelled field stands for
abbrev pub text_of : Dialect → List ℕ → List ℕ
text_of d spelled = if begins_with d.quote spelled then unquoted d.quote d.escape (drop 1 spelled) else spelled
