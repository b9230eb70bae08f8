-- A message of the AWS event stream encoding (application/vnd.amazon.eventstream): a prelude of two
-- lengths with its CRC, the headers, the payload and the CRC of all that stands before it. Numbers
-- are big-endian.
use Rattle.std.specs.Prelude.{ℕ, ◌+◌, List, ◌∷◌, ◌++◌, length}
use Rattle.std.specs.List.{flat_map}
use Rattle.std.specs.Int.{w16, w32, to_be_bytes}
use Rattle.event_frame.specs.Crc.{crc_of}

-- a header whose value is a string
pub record Header : Type 0 where
  pub name : List ℕ
  pub value : List ℕ

-- name length (1), name, 7, the kind of a string, value length (2), value
unfoldable pub print_header : Header → List ℕ
print_header h = length h.name ∷ h.name ++ 7 ∷ to_be_bytes w16 (length h.value) ++ h.value

-- the headers one after the other
abbrev pub print_headers : List Header → List ℕ
print_headers headers = flat_map print_header headers

-- the bytes and their CRC (4)
unfoldable pub sealed : List ℕ → List ℕ
sealed bytes = bytes ++ to_be_bytes w32 (crc_of bytes)

-- total length (4), headers length (4) and their CRC
unfoldable pub prelude_of : ℕ → ℕ → List ℕ
prelude_of total headers = sealed (to_be_bytes w32 total ++ to_be_bytes w32 headers)

-- the message with these header bytes and this payload
unfoldable pub message_of : List ℕ → List ℕ → List ℕ
message_of headers payload =
    sealed (prelude_of (length headers + length payload + 16) (length headers) ++ headers ++ payload)
