-- The inside of a JSON string: its grammar (RFC 8259, section 7), and how it is read.
use Rattle.std.specs.Prelude.{◌≡◌, ℕ, zero, suc, ◌+◌, ◌-◌, ◌*◌, ◌≤◌, ◌≢◌, Bool, ◌&&◌, not, ◌==◌, nat_lt, nat_le, List, [], ◌∷◌, slice_index, drop, IsTrue, if◌then◌else◌}
use Rattle.std.specs.List.{list_any}
use Rattle.std.specs.Char.{digit_value}

-- 4HEXDIG
pub record Hex : Type 0 where
  pub first : ℕ
  pub second : ℕ
  pub third : ℕ
  pub fourth : ℕ

-- each is a digit of base 16, in either case
abbrev pub is_hex : Hex → Bool
is_hex h =
    nat_lt (digit_value h.first) 16
    && (nat_lt (digit_value h.second) 16
    && (nat_lt (digit_value h.third) 16 && nat_lt (digit_value h.fourth) 16))

-- the code that the four digits give
abbrev pub hex_value : Hex → ℕ
hex_value h =
    digit_value h.first * 4096 + digit_value h.second * 256 + digit_value h.third * 16
    + digit_value h.fourth

-- the two halves of a surrogate pair
abbrev pub is_high_surrogate : ℕ → Bool
is_high_surrogate unit = nat_le 0xd800 unit && nat_lt unit 0xdc00

abbrev pub is_low_surrogate : ℕ → Bool
is_low_surrogate unit = nat_le 0xdc00 unit && nat_lt unit 0xe000

-- the character that a surrogate pair stands for
abbrev pub pair_value : ℕ → ℕ → ℕ
pair_value high low = 0x10000 + (high - 0xd800) * 1024 + (low - 0xdc00)

-- the letter of a short escape: one of " \ / b f n r t
abbrev pub is_letter : ℕ → Bool
is_letter c = list_any (λ letter. c == letter) (34 ∷ 92 ∷ 47 ∷ 98 ∷ 102 ∷ 110 ∷ 114 ∷ 116 ∷ [])

-- what it stands for: backspace, form feed, line feed, carriage return, tab, or itself
abbrev pub letter_value : ℕ → ℕ
letter_value c =
    if c == 98 then 8
    else (if c == 102 then 12
    else (if c == 110 then 10 else (if c == 114 then 13 else (if c == 116 then 9 else c))))

-- char = unescaped / escape letter / escape "u" 4HEXDIG / two such escapes that are a surrogate pair
pub data Piece : Type 0 where
  unescaped : ℕ → Piece
  short : ℕ → Piece
  code : Hex → Piece
  pair : Hex → Hex → Piece

-- unescaped = %x20-21 / %x23-5B / %x5D-10FFFF; a code alone is no half of a pair
abbrev pub IsPiece : Piece → Type 0
IsPiece (unescaped c) = (32 ≤ c) × (c ≢ 34) × (c ≢ 92)
IsPiece (short c) = IsTrue (is_letter c)
IsPiece (code h) =
    IsTrue (is_hex h)
    × IsTrue (not (is_high_surrogate (hex_value h)) && not (is_low_surrogate (hex_value h)))
IsPiece (pair h l) =
    (IsTrue (is_hex h) × IsTrue (is_hex l))
    × (IsTrue (is_high_surrogate (hex_value h)) × IsTrue (is_low_surrogate (hex_value l)))

-- the characters of the pieces, before what follows them
abbrev pub print_piece : Piece → List ℕ → List ℕ
print_piece (unescaped c) rest = c ∷ rest
print_piece (short c) rest = 92 ∷ c ∷ rest
print_piece (code h) rest = 92 ∷ 117 ∷ h.first ∷ h.second ∷ h.third ∷ h.fourth ∷ rest
print_piece (pair h l) rest =
    92 ∷ 117 ∷ h.first ∷ h.second ∷ h.third ∷ h.fourth
    ∷ 92 ∷ 117 ∷ l.first ∷ l.second ∷ l.third ∷ l.fourth ∷ rest

abbrev pub print_pieces : List Piece → List ℕ
print_pieces [] = []
print_pieces (p ∷ ps) = print_piece p (print_pieces ps)

-- the one character that a piece stands for
abbrev pub piece_value : Piece → ℕ
piece_value (unescaped c) = c
piece_value (short c) = letter_value c
piece_value (code h) = hex_value h
piece_value (pair h l) = pair_value (hex_value h) (hex_value l)

abbrev pub pieces_text : List Piece → List ℕ
pieces_text [] = []
pieces_text (p ∷ ps) = piece_value p ∷ pieces_text ps

abbrev pub ArePieces : List Piece → Type 0
ArePieces [] = Unit {0}
ArePieces (p ∷ ps) = IsPiece p × ArePieces ps

-- the inside of a string spells the text
pub record SpellsString (raw text : List ℕ) : Type 0 where
  pub pieces : List Piece
  pub valid : ArePieces pieces
  pub spelled : raw ≡ print_pieces pieces
  pub meant : text ≡ pieces_text pieces

-- ---- the same, read from the left, at any characters: a reverse solidus that begins no escape stands for itself

-- a character, and how many further ones were taken for it
pub record Taken : Type 0 where
  pub character : ℕ
  pub further : ℕ

-- the characters begin with "u" 4HEXDIG
abbrev pub hex_in : List ℕ → Hex
hex_in cs = record {
  first = slice_index cs 1;
  second = slice_index cs 2;
  third = slice_index cs 3;
  fourth = slice_index cs 4;
}

abbrev pub has_code : List ℕ → Bool
has_code cs = slice_index cs 0 == 117 && is_hex (hex_in cs)

abbrev pub solidus_alone : Taken
solidus_alone = record { character = 92; further = 0 }

-- a first half of a pair, before these characters: the pair where the second half follows
abbrev pub take_pair : ℕ → List ℕ → Taken
take_pair high rest =
    if slice_index rest 0 == 92 && (has_code (drop 1 rest) && is_low_surrogate (hex_value (hex_in (drop 1 rest))))
    then record { character = pair_value high (hex_value (hex_in (drop 1 rest))); further = 11 }
    else solidus_alone

-- a code before these characters
abbrev pub take_code : ℕ → List ℕ → Taken
take_code unit rest =
    if is_high_surrogate unit then take_pair unit rest
    else (if is_low_surrogate unit then solidus_alone else record { character = unit; further = 5 })

-- the letter of a short escape
abbrev pub take_letter : ℕ → Taken
take_letter c =
    if is_letter c then record { character = letter_value c; further = 1 } else solidus_alone

-- what stands behind a reverse solidus
abbrev pub take_escape : List ℕ → Taken
take_escape cs =
    if has_code cs then take_code (hex_value (hex_in cs)) (drop 5 cs) else take_letter (slice_index cs 0)

abbrev pub take_char : ℕ → List ℕ → Taken
take_char c cs = if c == 92 then take_escape cs else record { character = c; further = 0 }

-- the text of a string's inside, after `skip` characters that were taken already
abbrev pub unescaped_after : ℕ → List ℕ → List ℕ
unescaped_after skip [] = []
unescaped_after (suc skip) (c ∷ cs) = unescaped_after skip cs
unescaped_after zero (c ∷ cs) = (take_char c cs).character ∷ unescaped_after (take_char c cs).further cs

-- the text of a string's inside
unfoldable pub unescaped_text : List ℕ → List ℕ
unescaped_text cs = unescaped_after 0 cs
