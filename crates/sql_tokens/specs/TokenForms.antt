-- The tokens of a query: what each of them looks like, and which one begins a text.
--
-- Letters, digits and blanks are ASCII. Of two tokens that begin a text the longer one counts.
use Rattle.std.specs.Prelude.{ℕ, zero, suc, ◌+◌, ◌-◌, Bool, false, ◌&&◌, ◌||◌, ◌==◌, nat_lt, List, [], ◌∷◌, ◌++◌, length, take, drop, Option, Some, None, if◌then◌else◌}
use Rattle.std.specs.List.{prefix_len}
use Rattle.std.specs.Char.{is_ascii_alphabetic, is_ascii_digit}
use Rattle.sql_tokens.specs.declared.class.Class.{Class}
use Rattle.sql_tokens.specs.declared.class.Class.TheVariants.{LeftParenthesis, RightParenthesis, Comma, Dot, LeftBracket, RightBracket, Star, Plus, Minus, Slash, Percent, Equal, NotEqual, Less, LessOrEqual, Greater, GreaterOrEqual, Semicolon, Text, WholeNumber, PointNumber, ExponentNumber, QuotedName, QuotedNameCalled, Unfit}
use Rattle.sql_tokens.specs.Keywords.{class_of_word}

pub data Token : Type 0 where
  -- a letter or `_`, then letters, digits and `_`; and whether `(` stands behind it
  word : Bool → List ℕ → Token
  -- the bytes between two `"`, in which `""` stands for one; and whether `(` stands behind it
  quoted_name : Bool → List ℕ → Token
  -- the bytes between two `'`, in which `''` stands for one
  text_literal : List ℕ → Token
  -- digits
  whole_number : List ℕ → Token
  -- digits `.` digits, or `.` digits
  point_number : List ℕ → Token
  -- a number, `e` or `E`, a sign or none, digits
  exponent_number : List ℕ → Token
  -- one of `( ) , . [ ] * + - / % = <> != < <= > >= ;`
  punctuation : Class → Token
  -- no token: the bytes that are left
  unfit : List ℕ → Token

-- what a token is to the grammar
abbrev pub class_of : Token → Class
class_of (word called w) = class_of_word called w
class_of (quoted_name called raw) = if called then QuotedNameCalled else QuotedName
class_of (text_literal raw) = Text
class_of (whole_number raw) = WholeNumber
class_of (point_number raw) = PointNumber
class_of (exponent_number raw) = ExponentNumber
class_of (punctuation c) = c
class_of (unfit raw) = Unfit

-- the bytes of a symbol
abbrev pub punctuation_length : Class → ℕ
punctuation_length NotEqual = 2
punctuation_length LessOrEqual = 2
punctuation_length GreaterOrEqual = 2
punctuation_length _ = 1

-- the bytes of a token, its quotes among them
abbrev pub length_of : Token → ℕ
length_of (word called w) = length w
length_of (quoted_name called raw) = length raw + 2
length_of (text_literal raw) = length raw + 2
length_of (whole_number raw) = length raw
length_of (point_number raw) = length raw
length_of (exponent_number raw) = length raw
length_of (punctuation c) = punctuation_length c
length_of (unfit raw) = length raw

-- ---- bytes

-- space, tab, CR, LF
abbrev pub is_blank : ℕ → Bool
is_blank b = b == 32 || (b == 9 || (b == 13 || b == 10))

abbrev pub is_letter : ℕ → Bool
is_letter b = is_ascii_alphabetic b || b == 95

abbrev pub is_word_byte : ℕ → Bool
is_word_byte b = is_letter b || is_ascii_digit b

abbrev pub begins : (ℕ → Bool) → List ℕ → Bool
begins test [] = false
begins test (b ∷ bs) = test b

-- how many digits are in front
abbrev pub digits : List ℕ → ℕ
digits bs = prefix_len is_ascii_digit bs

-- whether `(` stands in front, behind blanks or none
abbrev pub is_called : List ℕ → Bool
is_called bs = begins (λ b. b == 40) (drop (prefix_len is_blank bs) bs)

-- ---- names and texts

-- the place of the first quote that isn't doubled, where the first byte is at this place; the first `skip` bytes are
-- passed, since a quote among them is the second of two
abbrev pub closing_behind : ℕ → ℕ → ℕ → List ℕ → Option ℕ
closing_behind quote skip at [] = None
closing_behind quote (suc skip) at (b ∷ bs) = closing_behind quote skip (at + 1) bs
closing_behind quote zero at (b ∷ bs) =
    if b == quote then (if begins (λ c. c == quote) bs then closing_behind quote 1 (at + 1) bs else Some at)
    else closing_behind quote 0 (at + 1) bs

-- the place of the quote that closes, among the bytes behind the one that opens
unfoldable pub closing : ℕ → List ℕ → Option ℕ
closing quote bs = closing_behind quote 0 0 bs

-- behind `"`: not empty
abbrev pub name_by : Option ℕ → List ℕ → Token
name_by None bs = unfit (34 ∷ bs)
name_by (Some n) bs = if n == 0 then unfit (34 ∷ bs) else quoted_name (is_called (drop (n + 1) bs)) (take n bs)

-- behind `'`
abbrev pub text_by : Option ℕ → List ℕ → Token
text_by None bs = unfit (39 ∷ bs)
text_by (Some n) bs = text_literal (take n bs)

-- ---- numbers

-- `.` digits in front, or nothing
abbrev pub fraction_length : List ℕ → ℕ
fraction_length [] = 0
fraction_length (b ∷ bs) = if b == 46 && nat_lt 0 (digits bs) then digits bs + 1 else 0

-- a sign in front, or nothing
abbrev pub sign_length : List ℕ → ℕ
sign_length bs = if begins (λ b. b == 43 || b == 45) bs then 1 else 0

abbrev pub signed_length : ℕ → List ℕ → ℕ
signed_length sign bs = if nat_lt 0 (digits (drop sign bs)) then digits (drop sign bs) + sign + 1 else 0

-- `e` or `E`, a sign or none, and digits in front, or nothing
abbrev pub exponent_length : List ℕ → ℕ
exponent_length [] = 0
exponent_length (b ∷ bs) = if b == 101 || b == 69 then signed_length (sign_length bs) bs else 0

-- how many digits stand behind the zeros in front
abbrev pub significant : List ℕ → ℕ
significant ds = length ds - prefix_len (λ d. d == 48) ds

-- more than 38 digits without leading zeros, or more than 38 behind the point
abbrev pub is_too_long : List ℕ → List ℕ → Bool
is_too_long whole fraction = nat_lt 38 (significant (whole ++ fraction)) || nat_lt 38 (length fraction)

-- a number without an exponent, of these digits before its point, and the point and the digits behind it
abbrev pub parts_number : List ℕ → List ℕ → List ℕ → List ℕ → Token
parts_number before [] raw bs = if is_too_long before [] then unfit bs else whole_number raw
parts_number before (point ∷ fraction) raw bs = if is_too_long before fraction then unfit bs else point_number raw

abbrev pub plain_number : ℕ → List ℕ → List ℕ → Token
plain_number whole raw bs = parts_number (take whole raw) (drop whole raw) raw bs

-- a number of so many digits, of so many bytes with its fraction, and of so many with its exponent; a letter may not
-- follow
abbrev pub number_by : ℕ → ℕ → ℕ → List ℕ → Token
number_by whole size exponent bs =
    if nat_lt 0 exponent then exponent_number (take (size + exponent) bs)
    else (if begins is_letter (drop size bs) then unfit bs else plain_number whole (take size bs) bs)

abbrev pub number_of_size : ℕ → ℕ → List ℕ → Token
number_of_size whole size bs = number_by whole size (exponent_length (drop size bs)) bs

-- a digit, or `.` and a digit, in front
unfoldable pub number_token : List ℕ → Token
number_token bs = number_of_size (digits bs) (digits bs + fraction_length (drop (digits bs) bs)) bs

-- ---- symbols

-- `<`, `<=` or `<>`, behind the `<`
abbrev pub less_by : List ℕ → Class
less_by bs = if begins (λ b. b == 61) bs then LessOrEqual else (if begins (λ b. b == 62) bs then NotEqual else Less)

-- `>` or `>=`, behind the `>`
abbrev pub greater_by : List ℕ → Class
greater_by bs = if begins (λ b. b == 61) bs then GreaterOrEqual else Greater

-- the symbol of one byte
abbrev pub single : ℕ → Option Class
single b =
    if b == 40 then Some LeftParenthesis
    else (if b == 41 then Some RightParenthesis
    else (if b == 44 then Some Comma
    else (if b == 46 then Some Dot
    else (if b == 91 then Some LeftBracket
    else (if b == 93 then Some RightBracket
    else (if b == 42 then Some Star
    else (if b == 43 then Some Plus
    else (if b == 45 then Some Minus
    else (if b == 47 then Some Slash
    else (if b == 37 then Some Percent
    else (if b == 61 then Some Equal
    else (if b == 59 then Some Semicolon else None))))))))))))

-- the symbol where there is one
abbrev pub single_token : Option Class → List ℕ → Token
single_token None bs = unfit bs
single_token (Some c) bs = punctuation c

-- the symbol that begins with b before these bytes, the longest
unfoldable pub punctuation_token : ℕ → List ℕ → Token
punctuation_token b bs =
    if b == 60 then punctuation (less_by bs)
    else (if b == 62 then punctuation (greater_by bs)
    else (if b == 33 && begins (λ c. c == 61) bs then punctuation NotEqual
    else single_token (single b) (b ∷ bs)))

abbrev pub punctuation_of : List ℕ → Token
punctuation_of [] = unfit []
punctuation_of (b ∷ bs) = punctuation_token b bs

-- ---- all

-- the word of the first n bytes
abbrev pub word_by : ℕ → List ℕ → Token
word_by n bs = word (is_called (drop n bs)) (take n bs)

-- the token that begins with b, which is no blank, before these bytes
unfoldable pub token_from : ℕ → List ℕ → Token
token_from b bs =
    if is_letter b then word_by (prefix_len is_word_byte (b ∷ bs)) (b ∷ bs)
    else (if is_ascii_digit b then number_token (b ∷ bs)
    else (if b == 46 && begins is_ascii_digit bs then number_token (b ∷ bs)
    else (if b == 34 then name_by (closing 34 bs) bs
    else (if b == 39 then text_by (closing 39 bs) bs
    else punctuation_token b bs))))

-- the token in front of bytes that begin with no blank
abbrev pub token_of : List ℕ → Token
token_of [] = unfit []
token_of (b ∷ bs) = token_from b bs
