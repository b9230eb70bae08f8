-- The replies of an HTTP/1.1 server (RFC 9112, sections 4 to 7; RFC 9110, sections 8.3, 8.6 and 15): the head before a body in
-- chunks, the interim reply, and an error as an XML document.
use Rattle.std.specs.Prelude.{ℕ, Bool, List, [], ◌∷◌, ◌++◌, length, if◌then◌else◌, codes, decimal}

-- the end of a line
abbrev pub crlf : List ℕ
crlf = 13 ∷ 10 ∷ []

-- status-line = HTTP-version SP status-code SP reason-phrase
unfoldable pub status_line : ℕ → List ℕ → List ℕ
status_line status reason = codes "HTTP/1.1 " ++ decimal status ++ codes " " ++ reason ++ crlf

-- field-line = field-name ":" OWS field-value
unfoldable pub field : List ℕ → List ℕ → List ℕ
field name value = name ++ codes ": " ++ value ++ crlf

-- whether the connection closes behind the reply
unfoldable pub close_field : Bool → List ℕ
close_field closes = if closes then codes "Connection: close\r\n" else []

-- the reply that lets the peer send its body
unfoldable pub continue_reply : List ℕ
continue_reply = codes "HTTP/1.1 100 Continue\r\n\r\n"

-- the head before frames of events, each of which is a chunk
unfoldable pub success_head : Bool → List ℕ
success_head closes =
    codes "HTTP/1.1 200 OK\r\nContent-Type: application/octet-stream\r\nTransfer-Encoding: chunked\r\n" ++ close_field closes ++ crlf

-- an error by its code, with a message
unfoldable pub document : List ℕ → List ℕ → List ℕ
document code message =
    codes "<?xml version=\"1.0\" encoding=\"UTF-8\"?><Error><Code>" ++ code
    ++ codes "</Code><Message>" ++ message ++ codes "</Message></Error>"

-- the head before a document of so many bytes
unfoldable pub error_head : ℕ → List ℕ → ℕ → Bool → List ℕ
error_head status reason size closes =
    status_line status reason ++ field (codes "Content-Type") (codes "application/xml")
    ++ field (codes "Content-Length") (decimal size) ++ close_field closes ++ crlf

-- what tells of an error
unfoldable pub error_reply : ℕ → List ℕ → List ℕ → List ℕ → Bool → List ℕ
error_reply status reason code message closes =
    error_head status reason (length (document code message)) closes ++ document code message
