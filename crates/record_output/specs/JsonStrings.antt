-- A JSON string (RFC 8259, section 7). The text is UTF-8, whose bytes from 128 on stand for themselves.
use Rattle.std.specs.Prelude.{ℕ, ◌+◌, ◌/◌, ◌%◌, ◌==◌, nat_lt, List, [], ◌∷◌, ◌++◌, if◌then◌else◌}
use Rattle.std.specs.List.{flat_map}
use Rattle.json_text.specs.Runs.{is_special}

-- a digit of base 16, in lower case
abbrev pub hex_digit : ℕ → ℕ
hex_digit n = if nat_lt n 10 then 48 + n else 87 + n

-- the escape of a quotation mark, a reverse solidus or a control character: \" \\ \b \t \n \f \r, and \u00xx for the others
abbrev pub escape : ℕ → List ℕ
escape c =
    if c == 34 then 92 ∷ 34 ∷ []
    else (if c == 92 then 92 ∷ 92 ∷ []
    else (if c == 8 then 92 ∷ 98 ∷ []
    else (if c == 9 then 92 ∷ 116 ∷ []
    else (if c == 10 then 92 ∷ 110 ∷ []
    else (if c == 12 then 92 ∷ 102 ∷ []
    else (if c == 13 then 92 ∷ 114 ∷ []
    else 92 ∷ 117 ∷ 48 ∷ 48 ∷ hex_digit (c / 16) ∷ hex_digit (c % 16) ∷ []))))))

-- each other character stands for itself
abbrev pub spelled : ℕ → List ℕ
spelled c = if is_special c then escape c else c ∷ []

unfoldable pub spelled_text : List ℕ → List ℕ
spelled_text text = flat_map spelled text

-- string = quotation-mark *char quotation-mark
abbrev pub json_string : List ℕ → List ℕ
json_string text = (34 ∷ []) ++ (spelled_text text ++ 34 ∷ [])
