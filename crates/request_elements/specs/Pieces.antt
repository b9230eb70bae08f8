-- The body cut into pieces, from the left: tags, and what stands between them.
--
-- A tag is `<`, an inside without `>`, and `>`: so it ends at the first `>`. What stands up to the next `<`, or up to
-- the body's end, is one piece. A tag whose name is no element's begins nothing in the grammar and is refused at its
-- `<`, as a `<` with no `>` behind it is. So the place of a fault is that of the first piece that can't stand there.
use Rattle.std.specs.Prelude.{ℕ, zero, suc, ◌+◌, Bool, false, ◌&&◌, ◌||◌, not, ◌==◌, List, [], ◌∷◌, ◌++◌, length, drop, take, codes, bytes_eq, if◌then◌else◌}
use Rattle.std.specs.List.{list_any, list_all}
use Rattle.std.specs.Str.{is_utf8}
use Rattle.grammar_rules.specs.Placed.{Placed, place_at}

pub data Piece : Type 0 where
  -- `<?xml ..?>`
  declaration : Piece
  -- `<X S>`, by X; the request's own start tag with its namespace too
  start_tag : List ℕ → Piece
  -- `</X S>`
  end_tag : List ℕ → Piece
  -- `<X S/>`
  empty_tag : List ℕ → Piece
  -- the bytes up to the next `<` or the body's end, at least one
  char_data : List ℕ → Piece
  -- a `<` with no `>` behind it
  unfit : Piece

-- a piece and its place in bytes
abbrev pub Symbol : Type 0
Symbol = Placed Piece

-- space, tab, CR, LF
abbrev pub is_blank : ℕ → Bool
is_blank b = b == 32 || (b == 9 || (b == 13 || b == 10))

abbrev pub are_blanks : List ℕ → Bool
are_blanks bytes = list_all is_blank bytes

abbrev pub without_first_blanks : List ℕ → List ℕ
without_first_blanks [] = []
without_first_blanks (b ∷ bytes) = if is_blank b then without_first_blanks bytes else b ∷ bytes

-- a byte before those that are left of the rest without its last blanks
abbrev pub unless_blank : ℕ → List ℕ → List ℕ
unless_blank b [] = if is_blank b then [] else b ∷ []
unless_blank b (c ∷ bytes) = b ∷ c ∷ bytes

abbrev pub without_last_blanks : List ℕ → List ℕ
without_last_blanks [] = []
without_last_blanks (b ∷ bytes) = unless_blank b (without_last_blanks bytes)

-- whether the byte stands among these
abbrev pub has : ℕ → List ℕ → Bool
has byte bytes = list_any (λ b. b == byte) bytes

-- the bytes before the first such byte, or all
abbrev pub up_to : ℕ → List ℕ → List ℕ
up_to byte [] = []
up_to byte (b ∷ bytes) = if b == byte then [] else b ∷ up_to byte bytes

-- the root's name
abbrev pub root_name : List ℕ
root_name = codes "SelectObjectContentRequest"

-- the namespace of the root between two of these quotes
unfoldable pub namespace : ℕ → List ℕ
namespace quote = codes "xmlns=" ++ quote ∷ codes "http://s3.amazonaws.com/doc/2006-03-01/" ++ quote ∷ []

-- one or more blanks, the namespace in either quote, and blanks
abbrev pub is_namespace : List ℕ → Bool
is_namespace [] = false
is_namespace (b ∷ bytes) =
    is_blank b && (bytes_eq (without_first_blanks bytes) (namespace 34) || bytes_eq (without_first_blanks bytes) (namespace 39))

-- the root's name with its namespace
abbrev pub is_root_with_namespace : List ℕ → Bool
is_root_with_namespace inside =
    bytes_eq (take 26 inside) root_name && is_namespace (without_last_blanks (drop 26 inside))

-- the name of a start tag
unfoldable pub named : List ℕ → List ℕ
named inside = if is_root_with_namespace inside then root_name else without_last_blanks inside

abbrev pub begins_with : ℕ → List ℕ → Bool
begins_with byte [] = false
begins_with byte (b ∷ bytes) = b == byte

abbrev pub ends_with : ℕ → List ℕ → Bool
ends_with byte [] = false
ends_with byte (b ∷ []) = b == byte
ends_with byte (b ∷ c ∷ bytes) = ends_with byte (c ∷ bytes)

abbrev pub but_last : List ℕ → List ℕ
but_last [] = []
but_last (b ∷ []) = []
but_last (b ∷ c ∷ bytes) = b ∷ but_last (c ∷ bytes)

-- one blank, characters other than `?` and `<`, and `?`
abbrev pub is_declared : List ℕ → Bool
is_declared [] = false
is_declared (b ∷ bytes) =
    is_blank b && (ends_with 63 bytes && (not (has 63 (but_last bytes) || has 60 (but_last bytes)) && is_utf8 (but_last bytes)))

-- `?xml` and the rest of a declaration
unfoldable pub is_declaration : List ℕ → Bool
is_declaration inside = bytes_eq (take 4 inside) (codes "?xml") && is_declared (drop 4 inside)

-- the tag of this inside
unfoldable pub tag : List ℕ → Piece
tag inside =
    if is_declaration inside then declaration
    else (if begins_with 47 inside then end_tag (without_last_blanks (drop 1 inside))
    else (if ends_with 47 inside then empty_tag (named (but_last inside)) else start_tag (named inside)))

-- the piece that begins with b before these bytes
abbrev pub piece_from : ℕ → List ℕ → Piece
piece_from b bytes =
    if b == 60 then (if has 62 bytes then tag (up_to 62 bytes) else unfit)
    else char_data (b ∷ up_to 60 bytes)

-- how many of the bytes behind b belong to that piece
abbrev pub further : ℕ → List ℕ → ℕ
further b bytes =
    if b == 60 then (if has 62 bytes then length (up_to 62 bytes) + 1 else 0)
    else length (up_to 60 bytes)

-- the pieces of these bytes, of which the first begins at this place, but for the first `skip` bytes, which belong to
-- a piece that began before
abbrev pub cut_behind : ℕ → ℕ → List ℕ → List Symbol
cut_behind skip at [] = []
cut_behind (suc skip) at (b ∷ bytes) = cut_behind skip (at + 1) bytes
cut_behind zero at (b ∷ bytes) = record { at = at; piece = piece_from b bytes } ∷ cut_behind (further b bytes) (at + 1) bytes

-- the pieces of bytes that begin at this place
unfoldable pub cut : ℕ → List ℕ → List Symbol
cut at bytes = cut_behind 0 at bytes

-- the pieces of a body
abbrev pub symbols_of : List ℕ → List Symbol
symbols_of body = cut 0 body

-- the place of the k-th piece, counted from 0, or the body's length behind the last
unfoldable pub place_of : List ℕ → ℕ → ℕ
place_of body k = place_at (length body) (symbols_of body) k
