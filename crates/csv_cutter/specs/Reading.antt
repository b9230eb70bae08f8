-- What reading a line gives: its fields as texts, or the fault that comes first.
use Rattle.std.specs.Prelude.{◌≡◌, ℕ, ◌<◌, ◌≤◌, nat_lt, true, List, [], ◌∷◌, length, map, take, All, Option, None, Some, Result, Ok, Err, if◌then◌else◌}
use Rattle.std.specs.Str.{chars, IsUtf8, is_utf8}
use Rattle.byte_masks.specs.declared.split.Span.{Span}
use Rattle.byte_masks.specs.Parts.{part}
use Rattle.text_view.specs.QuotedField.{IsPlainField}
use Rattle.csv_cutter.specs.declared.dialect.Dialect.{Dialect}
use Rattle.csv_cutter.specs.declared.fields.CsvFault.{CsvFault}
use Rattle.csv_cutter.specs.declared.fields.CsvFault.TheVariants.{InvalidTextEncoding, TooManyFields}
use Rattle.csv_cutter.specs.Dialects.{is_valid}
use Rattle.csv_cutter.specs.Fields.{SpellsFields, text_of}
use Rattle.csv_cutter.specs.Walk.{cut_fields, IsLegible}

-- the characters of a line have these fields, and not too many
pub record HasFields (d : Dialect) (line : List ℕ) (texts : List (List ℕ)) : Type 0 where
  pub utf8 : IsUtf8 line
  pub spelled : SpellsFields d (chars line) texts
  pub few : length texts ≤ 65536

-- the characters of a line have more fields than are read
pub record HasTooMany (d : Dialect) (line : List ℕ) : Type 0 where
  pub utf8 : IsUtf8 line
  pub texts : List (List ℕ)
  pub spelled : SpellsFields d (chars line) texts
  pub many : 65536 < length texts

-- the fields of a line's bytes, or why there are none: a line that isn't UTF-8 goes first
abbrev pub IsRead : Dialect → List ℕ → Result (List (List ℕ)) CsvFault → Type 0
IsRead d line (Ok texts) = HasFields d line texts
IsRead d line (Err InvalidTextEncoding) = ¬ (IsUtf8 line)
IsRead d line (Err TooManyFields) = HasTooMany d line

-- the same as a function: the texts of the fields that the line is cut into
unfoldable pub fields_of : Dialect → List ℕ → Result (List (List ℕ)) CsvFault
fields_of d line =
    if is_utf8 line
    then (if nat_lt 65536 (length (cut_fields d line)) then Err TooManyFields else Ok (map (λ spelled. text_of d (chars spelled)) (cut_fields d line)))
    else Err InvalidTextEncoding

-- the function gives what reading each line gives
abbrev pub EachLineIsReadSo : Type 0
EachLineIsReadSo = (d : Dialect) → is_valid d ≡ true → (line : List ℕ) → IsRead d line (fields_of d line)

-- of the texts that a line's fields stand for, these are the first ones
pub record HasFirst (d : Dialect) (line : List ℕ) (wanted : ℕ) (lent : List (List ℕ)) : Type 0 where
  pub texts : List (List ℕ)
  pub read : IsRead d line (Ok texts)
  pub first : lent ≡ take wanted texts

-- the first fields of a line's bytes, or why there are none: the faults are those of the whole line
abbrev pub IsReadFirst : Dialect → List ℕ → ℕ → Result (List (List ℕ)) CsvFault → Type 0
IsReadFirst d line wanted (Ok lent) = HasFirst d line wanted lent
IsReadFirst d line wanted (Err fault) = IsRead d line (Err fault)

-- ---- the contracts of private functions

-- the text of the field that a span cuts out
abbrev pub text_at : Dialect → List ℕ → Span → List ℕ
text_at d line span = text_of d (chars (part line span))

abbrev pub texts_at : Dialect → List ℕ → List Span → List (List ℕ)
texts_at d line spans = map (text_at d line) spans

-- what lent fields keep
pub record IsLent (d : Dialect) (line : List ℕ) (spans : List Span) : Type 0 where
  pub valid : is_valid d ≡ true
  pub legible : All (IsLegible line) spans

-- the first spans are those of the line's fields
pub record AreFirst (d : Dialect) (line : List ℕ) (count : ℕ) (spans : List Span) : Type 0 where
  pub within : count ≤ length spans
  pub few : count ≤ 65536
  pub parts : map (part line) (take count spans) ≡ cut_fields d line
  pub legible : All (IsLegible line) (take count spans)

-- spans were written for a line's fields, or these are too many
abbrev pub IsCutInto : Dialect → List ℕ → List Span → Option ℕ → Type 0
IsCutInto d line spans (Some count) = AreFirst d line count spans
IsCutInto d line spans None = 65536 < length (cut_fields d line)

-- the same for a line of any bytes
abbrev pub IsFilled : Dialect → List ℕ → List Span → Result ℕ CsvFault → Type 0
IsFilled d line spans (Ok count) = IsUtf8 line × AreFirst d line count spans
IsFilled d line spans (Err InvalidTextEncoding) = ¬ (IsUtf8 line)
IsFilled d line spans (Err TooManyFields) = IsUtf8 line × (65536 < length (cut_fields d line))

-- the first spans are those of the first fields that are wanted
pub record AreWanted (d : Dialect) (line : List ℕ) (wanted count : ℕ) (spans : List Span) : Type 0 where
  pub within : count ≤ length spans
  pub few : length (cut_fields d line) ≤ 65536
  pub parts : map (part line) (take count spans) ≡ take wanted (cut_fields d line)
  pub legible : All (IsLegible line) (take count spans)

-- spans were written for the first fields of a line of any bytes
abbrev pub IsFilledFirst : Dialect → List ℕ → ℕ → List Span → Result ℕ CsvFault → Type 0
IsFilledFirst d line wanted spans (Ok count) = IsUtf8 line × AreWanted d line wanted count spans
IsFilledFirst d line wanted spans (Err fault) = IsFilled d line spans (Err fault)

-- a spelled field is a slice of its own characters: it isn't quoted, or no quote and no escape stands behind its opening quote but for a
-- closing quote at its end
abbrev pub IsPlainSpelled : Dialect → List ℕ → Type 0
IsPlainSpelled d [] = Unit {0}
IsPlainSpelled d (c ∷ cs) = c ≡ d.quote → IsPlainField d.quote d.escape cs
