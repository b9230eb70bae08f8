-- A text between two tags, and the characters that it stands for (XML 1.0, sections 2.4 and 4.1).
--
-- It is UTF-8 without NUL. Each `&` in it begins a reference: `&lt;`, `&gt;`, `&amp;`, `&quot;`, `&apos;`, or `&#D;` or
-- `&#xH;` with one to eight digits for a Unicode scalar value other than 0. All else stands for itself. That it holds no
-- `<` is said by the cut into pieces, at which a text ends.
use Rattle.std.specs.Prelude.{◌≡◌, ℕ, zero, suc, ◌+◌, ◌*◌, Bool, false, ◌&&◌, ◌||◌, not, ◌==◌, nat_lt, nat_le, List, [], ◌∷◌, ◌++◌, length, Option, Some, None, option_map, codes, bytes_eq, encode_utf8, if◌then◌else◌}
use Rattle.std.specs.Borrow.{Bor}
use Rattle.std.specs.Char.{digit_value}
use Rattle.std.specs.Str.{is_utf8}
use Rattle.request_elements.specs.Pieces.{has, up_to}

-- the number that the digits go on to, behind others of this value
abbrev pub number_after : ℕ → ℕ → List ℕ → Option ℕ
number_after base so_far [] = Some so_far
number_after base so_far (d ∷ digits) =
    if nat_lt (digit_value d) base then number_after base (so_far * base + digit_value d) digits else None

-- a Unicode scalar value other than 0
abbrev pub is_character : ℕ → Bool
is_character c = (nat_lt 0 c && nat_lt c 55296) || (nat_le 57344 c && nat_lt c 1114112)

abbrev pub if_character : Option ℕ → Option ℕ
if_character None = None
if_character (Some c) = if is_character c then Some c else None

-- the character that one to eight digits name
abbrev pub numbered : ℕ → List ℕ → Option ℕ
numbered base digits =
    if nat_lt 0 (length digits) && nat_le (length digits) 8 then if_character (number_after base 0 digits) else None

-- the character of `#D` or `#xH`, behind the `#`
abbrev pub by_number : List ℕ → Option ℕ
by_number [] = None
by_number (c ∷ digits) = if c == 120 then numbered 16 digits else numbered 10 (c ∷ digits)

abbrev pub by_name : List ℕ → Option ℕ
by_name name =
    if bytes_eq name (codes "lt") then Some 60
    else (if bytes_eq name (codes "gt") then Some 62
    else (if bytes_eq name (codes "amp") then Some 38
    else (if bytes_eq name (codes "quot") then Some 34
    else (if bytes_eq name (codes "apos") then Some 39 else None))))

-- the character that a reference names between its `&` and its `;`
unfoldable pub referred : List ℕ → Option ℕ
referred [] = None
referred (c ∷ name) = if c == 35 then by_number name else by_name (c ∷ name)

-- the character of the reference that these bytes begin behind a `&`
abbrev pub reference_in : List ℕ → Option ℕ
reference_in bytes = if has 59 bytes then referred (up_to 59 bytes) else None

-- the character, and then the rest
abbrev pub then_resolved : Option ℕ → Option (List ℕ) → Option (List ℕ)
then_resolved None rest = None
then_resolved (Some c) rest = option_map (λ bytes. encode_utf8 c ++ bytes) rest

-- the bytes with their references resolved, but for the first `skip`, which belong to a reference that began before
abbrev pub resolved_behind : ℕ → List ℕ → Option (List ℕ)
resolved_behind skip [] = Some []
resolved_behind (suc skip) (b ∷ bytes) = resolved_behind skip bytes
resolved_behind zero (b ∷ bytes) =
    if b == 38 then then_resolved (reference_in bytes) (resolved_behind (length (up_to 59 bytes) + 1) bytes)
    else option_map (λ rest. b ∷ rest) (resolved_behind 0 bytes)

-- the bytes with their references resolved
unfoldable pub resolved : List ℕ → Option (List ℕ)
resolved bytes = resolved_behind 0 bytes

-- the UTF-8 of the text's characters, where it is a text
unfoldable pub text_value : List ℕ → Option (List ℕ)
text_value raw = if is_utf8 raw && not (has 0 raw) then resolved raw else None

-- the bytes before the first such byte and those behind it, or there is none
abbrev pub Splits : ℕ → List ℕ → Option (Bor (List ℕ) × Bor (List ℕ)) → Type 0
Splits x bs None = has x bs ≡ false
Splits x bs (Some p) = (bs ≡ p.0.now ++ x ∷ p.1.now) × (has x p.0.now ≡ false)
