-- A field of a CSV record (RFC 4180, section 2, with a quote, an escape and delimiters of one's own). All are bytes, which
-- in a valid request are ASCII characters.
use Rattle.std.specs.Prelude.{ℕ, Bool, ◌||◌, ◌==◌, List, [], ◌∷◌, ◌++◌, if◌then◌else◌}
use Rattle.std.specs.List.{list_any, flat_map}
use Rattle.select_request.specs.declared.request.CsvOutput.{CsvOutput}
use Rattle.select_request.specs.declared.request.Delimiter.{Delimiter}
use Rattle.select_request.specs.declared.request.Delimiter.TheVariants.{One, Two}

abbrev pub is_delimiter_byte : Delimiter → ℕ → Bool
is_delimiter_byte (One a) c = c == a
is_delimiter_byte (Two a b) c = c == a || c == b

-- the field delimiter, the quote, or a byte of the record delimiter
abbrev pub is_guarded : CsvOutput → ℕ → Bool
is_guarded csv c = c == csv.field || c == csv.quote || is_delimiter_byte csv.delimiter c

-- a field that holds one of these stands in quotes, and where it is asked for each field does
unfoldable pub is_quoted : CsvOutput → List ℕ → Bool
is_quoted csv text = csv.always || list_any (is_guarded csv) text

-- in quotes the escape stands before each quote and each escape
abbrev pub escaped : CsvOutput → ℕ → List ℕ
escaped csv c = if c == csv.quote || c == csv.escape then csv.escape ∷ c ∷ [] else c ∷ []

unfoldable pub escaped_text : CsvOutput → List ℕ → List ℕ
escaped_text csv text = flat_map (escaped csv) text

-- the text between quotes
abbrev pub within_quotes : CsvOutput → List ℕ → List ℕ
within_quotes csv text = (csv.quote ∷ []) ++ (escaped_text csv text ++ csv.quote ∷ [])

-- the field of a text
unfoldable pub csv_field : CsvOutput → List ℕ → List ℕ
csv_field csv text = if is_quoted csv text then within_quotes csv text else text
