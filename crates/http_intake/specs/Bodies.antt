-- How many bytes of body follow a head, and what its fields say of the connection (RFC 9112, section 6; RFC 9110, sections 7.6.1,
-- 8.6 and 10.1.1).
use Rattle.std.specs.Prelude.{◌≡◌, ℕ, ◌<◌, Bool, ◌&&◌, ◌==◌, nat_le, nat_lt, List, [], ◌∷◌, length, take, drop, if◌then◌else◌, Option, None, Some, is_some, Result, Ok, Err, codes}
use Rattle.std.specs.Borrow.{Bor}
use Rattle.std.specs.Char.{is_ascii_digit}
use Rattle.std.specs.List.{list_all, list_any, prefix_len}
use Rattle.std.specs.Option.{option_copied}
use Rattle.std.specs.Str.{bytes_eq, str_eq_ignore_ascii_case}
use Rattle.std.specs.Str.Parse.{digits_value}
use Rattle.httparse.specs.Grammar.{RequestHead, is_ows}
use Rattle.http_intake.specs.declared.refusal.Refusal.{Refusal}
use Rattle.http_intake.specs.declared.refusal.Refusal.TheVariants.{OldVersion, TransferEncoding, BadLength, NoLength, BodyTooLarge}
use Rattle.http_intake.specs.Fields.{values_in}

-- the longest body in bytes
abbrev pub most_body : ℕ
most_body = 2097152

-- Content-Length = 1*DIGIT
abbrev pub is_number : List ℕ → Bool
is_number value = nat_lt 0 (length value) && list_all is_ascii_digit value

-- the digits without the zeros before them: two numbers are the same where these are
abbrev pub significant : List ℕ → List ℕ
significant value = drop (prefix_len (λ b. b == 48) value) value

-- the value is a number of these significant digits
abbrev pub says : List ℕ → List ℕ → Bool
says digits value = is_number value && bytes_eq (significant value) digits

-- the digits that the values of Content-Length state, or none without a value: each is a number, and all are the same
abbrev pub stated : List (List ℕ) → Result (Option (List ℕ)) Refusal
stated [] = Ok None
stated (value ∷ values) = if list_all (says (significant value)) (value ∷ values) then Ok (Some (significant value)) else Err BadLength

-- what a lent answer holds
abbrev pub told : Result (Option (Bor (List ℕ))) Refusal → Result (Option (List ℕ)) Refusal
told (Ok digits) = Ok (option_copied digits)
told (Err refusal) = Err refusal

-- the length of the body: a POST states it, and without a statement there is no body
abbrev pub length_of : Bool → Result (Option (List ℕ)) Refusal → Result ℕ Refusal
length_of is_post (Err refusal) = Err refusal
length_of is_post (Ok None) = if is_post then Err NoLength else Ok 0
length_of is_post (Ok (Some digits)) = if nat_le (digits_value 10 digits) most_body then Ok (digits_value 10 digits) else Err BodyTooLarge

-- the first value, if there is one
abbrev pub first_of : List (List ℕ) → Option (List ℕ)
first_of [] = None
first_of (value ∷ values) = Some value

abbrev pub is_post : RequestHead → Bool
is_post head = bytes_eq head.method (codes "POST")

-- how long the body of the message is, or why its head is refused before a body
abbrev pub body_length : RequestHead → Result ℕ Refusal
body_length head =
    if head.minor == 0 then Err OldVersion
    else (if is_some (first_of (values_in head (codes "Transfer-Encoding"))) then Err TransferEncoding
    else length_of (is_post head) (stated (values_in head (codes "Content-Length"))))

-- the head waits for `100 Continue` before its body
abbrev pub expects_continue : RequestHead → Bool
expects_continue head = list_any (λ value. str_eq_ignore_ascii_case value (codes "100-continue")) (values_in head (codes "Expect"))

-- ---- Connection = #connection-option, a list by commas with optional white space around its members

-- the byte before the first member
abbrev pub onto_first : ℕ → List (List ℕ) → List (List ℕ)
onto_first b [] = (b ∷ []) ∷ []
onto_first b (member ∷ members) = (b ∷ member) ∷ members

-- the members that the commas part
abbrev pub members_of : List ℕ → List (List ℕ)
members_of [] = [] ∷ []
members_of (b ∷ value) = if b == 44 then [] ∷ members_of value else onto_first b (members_of value)

-- what was found of a comma: the member before the first one and the bytes behind it, or that there is none
abbrev pub IsSplit : List ℕ → Option (Bor (List ℕ) × Bor (List ℕ)) → Type 0
IsSplit value None = members_of value ≡ value ∷ []
IsSplit value (Some parts) = (members_of value ≡ parts.0.now ∷ members_of parts.1.now) × (length parts.1.now < length value)

-- the bytes behind the white space at the front
abbrev pub without_blanks : List ℕ → List ℕ
without_blanks member = drop (prefix_len is_ows member) member

-- the member is `close`, and white space
abbrev pub is_close : List ℕ → Bool
is_close member =
    str_eq_ignore_ascii_case (take 5 (without_blanks member)) (codes "close") && list_all is_ows (drop 5 (without_blanks member))

-- the head asks for the connection's end
abbrev pub asks_close : RequestHead → Bool
asks_close head = list_any (λ value. list_any is_close (members_of value)) (values_in head (codes "Connection"))
