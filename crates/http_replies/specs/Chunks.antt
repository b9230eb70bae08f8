-- The chunked transfer coding (RFC 9112, section 7.1), and what a sink of chunks tells of the connection under it.
use Rattle.std.specs.Prelude.{◌≡◌, ℕ, ◌<◌, ◌==◌, true, List, [], ◌∷◌, ◌++◌, length, map, if◌then◌else◌, codes}
use Rattle.std.specs.Char.{digit_char}
use Rattle.std.specs.Int.Digits.{digits_of}
use Rattle.network_ports.specs.Calls.{Link}
use Rattle.http_replies.specs.Replies.{crlf}

-- chunk-size = 1*HEXDIG, in lower case and without zeros before it
unfoldable pub hex_of : ℕ → List ℕ
hex_of n = if n == 0 then 48 ∷ [] else map digit_char (digits_of 16 n)

-- chunk = chunk-size CRLF chunk-data CRLF. A frame is never empty, so that no chunk of one is the last
unfoldable pub chunk : List ℕ → List ℕ
chunk bytes = hex_of (length bytes) ++ crlf ++ bytes ++ crlf

-- last-chunk, and no trailer
unfoldable pub last_chunk : List ℕ
last_chunk = codes "0\r\n\r\n"

-- where a write on the current connection has failed, it is broken
abbrev pub IsMarked : Link → Type 0
IsMarked link = link.begun_at < link.write_faults → link.connections.broke ≡ true
