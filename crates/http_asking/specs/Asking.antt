-- The request that a client sends (RFC 9112, sections 3 and 5; RFC 3986, sections 2.1 and 2.3).
use Rattle.std.specs.Prelude.{ℕ, Bool, ◌||◌, ◌==◌, List, [], ◌∷◌, ◌++◌, length, if◌then◌else◌, codes, decimal}
use Rattle.std.specs.Char.{is_ascii_alphanumeric}
use Rattle.std.specs.List.{flat_map}
use Rattle.percent_encoding.specs.Percent.{percent_encode_byte}

-- unreserved = ALPHA / DIGIT / "-" / "." / "_" / "~", and the slash that parts segments
unfoldable pub is_plain : ℕ → Bool
is_plain b = is_ascii_alphanumeric b || ((b == 45) || ((b == 46) || ((b == 95) || ((b == 126) || (b == 47)))))

abbrev pub encode_byte : ℕ → List ℕ
encode_byte b = if is_plain b then b ∷ [] else percent_encode_byte b

-- the name of an object as the path of a target
abbrev pub encoded : List ℕ → List ℕ
encoded name = flat_map encode_byte name

-- a POST of the body, which asks for a select over the object of the name, and for the connection's end behind the reply
unfoldable pub request_head : List ℕ → ℕ → List ℕ
request_head name size =
    codes "POST /" ++ encoded name ++ codes "?select&select-type=2 HTTP/1.1\r\nHost: localhost\r\nContent-Length: " ++ decimal size
    ++ codes "\r\nConnection: close\r\n\r\n"

abbrev pub request_text : List ℕ → List ℕ → List ℕ
request_text name body = request_head name (length body) ++ body
