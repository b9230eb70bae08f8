-- Which dialects are valid, and the one of a request's CSV input.
use Rattle.std.specs.Prelude.{ℕ, Bool, ◌&&◌, ◌==◌, not, List, [], ◌∷◌}
use Rattle.select_request.specs.Values.{is_character, holds}
use Rattle.select_request.specs.Printable.{is_delimiter, is_varied}
use Rattle.select_request.specs.declared.request.CsvInput.{CsvInput}
use Rattle.select_request.specs.declared.request.Delimiter.{Delimiter}
use Rattle.select_request.specs.declared.request.Delimiter.TheVariants.{One, Two}
use Rattle.csv_cutter.specs.declared.dialect.Dialect.{Dialect}

-- each of them is an ASCII character other than NUL
abbrev pub has_characters : Dialect → Bool
has_characters d =
    is_character d.field && is_character d.quote && is_character d.escape && is_character d.comment && is_delimiter d.delimiter

-- field, quote, comment and each byte of the record delimiter are pairwise different, and the escape differs from all but the quote
abbrev pub is_apart : Dialect → Bool
is_apart d =
    not (d.field == d.quote) && not (d.field == d.comment) && not (d.quote == d.comment)
    && not (holds d.delimiter d.field) && not (holds d.delimiter d.quote) && not (holds d.delimiter d.comment)
    && not (d.escape == d.field) && not (d.escape == d.comment) && not (holds d.delimiter d.escape)

-- the characters of a dialect don't stand in each other's way
unfoldable pub is_valid : Dialect → Bool
is_valid d = has_characters d && is_varied d.delimiter && is_apart d

-- the bytes of the record delimiter
abbrev pub delimiter_bytes : Delimiter → List ℕ
delimiter_bytes (One a) = a ∷ []
delimiter_bytes (Two a b) = a ∷ b ∷ []

-- its first byte
abbrev pub first_of : Delimiter → ℕ
first_of (One a) = a
first_of (Two a b) = a

-- the dialect of a request's CSV input
abbrev pub dialect_of : CsvInput → Dialect
dialect_of csv = record { field = csv.field; quote = csv.quote; escape = csv.escape; comment = csv.comment; delimiter = csv.delimiter }
