-- What a request target asks for (RFC 9112, section 3.2.1; the URL Standard, sections 1.3 and 5): an object's name as its path,
-- and the operation in its query.
use Rattle.std.specs.Prelude.{ℕ, Bool, ◌&&◌, ◌==◌, nat_lt, List, [], ◌∷◌, length, if◌then◌else◌, Result, Ok, Err, codes}
use Rattle.std.specs.List.{list_any}
use Rattle.std.specs.Str.{bytes_eq, is_utf8}
use Rattle.std.specs.Str.Lossy.{utf8_lossy}
use Rattle.percent_encoding.specs.Percent.{percent_decode}
use Rattle.form_urlencoded.specs.Form.{decode, raw_pairs, split_once}
use Rattle.httparse.specs.Grammar.{RequestHead}
use Rattle.http_intake.specs.declared.refusal.Refusal.{Refusal}
use Rattle.http_intake.specs.declared.refusal.Refusal.TheVariants.{NotPost, BadTarget, NotSelect}
use Rattle.http_intake.specs.Bodies.{is_post}

-- the bytes before the first `?`
abbrev pub path_of : List ℕ → List ℕ
path_of target = (split_once 63 target).0

-- the bytes behind the first `?`
abbrev pub query_of : List ℕ → List ℕ
query_of target = (split_once 63 target).1

-- a name is text, and isn't empty
abbrev pub named : List ℕ → Result (List ℕ) Refusal
named bytes = if is_utf8 bytes && nat_lt 0 (length bytes) then Ok bytes else Err BadTarget

-- the name of the object: the path behind its `/`, decoded
abbrev pub name_of : List ℕ → Result (List ℕ) Refusal
name_of [] = Err BadTarget
name_of (b ∷ path) = if b == 47 then named (percent_decode path) else Err BadTarget

-- the text that a name or a value of a query stands for
abbrev pub text_of : List ℕ → List ℕ
text_of raw = utf8_lossy (decode raw)

-- the pair has the name `select`
abbrev pub is_select : List ℕ × List ℕ → Bool
is_select pair = bytes_eq (text_of pair.0) (codes "select")

-- the pair is `select-type` and `2`
abbrev pub is_type : List ℕ × List ℕ → Bool
is_type pair = bytes_eq (text_of pair.0) (codes "select-type") && bytes_eq (text_of pair.1) (codes "2")

-- the query asks for a select
abbrev pub asks_select : List ℕ → Bool
asks_select query = list_any is_select (raw_pairs query) && list_any is_type (raw_pairs query)

-- the name, where the query asks for a select
abbrev pub selected : Bool → Result (List ℕ) Refusal → Result (List ℕ) Refusal
selected asks (Ok name) = if asks then Ok name else Err NotSelect
selected asks (Err refusal) = Err refusal

-- the object that the message asks for, or why it is refused once its body has come
abbrev pub object_of : RequestHead → Result (List ℕ) Refusal
object_of head =
    if is_post head then selected (asks_select (query_of head.target)) (name_of (path_of head.target)) else Err NotPost
