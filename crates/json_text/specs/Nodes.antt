-- What a checked value is, and the walks over its tree.
use Rattle.std.specs.Prelude.{◌≡◌, ℕ, true, false, List, [], ◌∷◌, ◌++◌, Option, None, Some, Result, Ok, Err, if◌then◌else◌}
use Rattle.std.specs.Str.{chars, IsUtf8, is_utf8, IsValidUpTo}
use Rattle.text_view.specs.JsonString.{unescaped_text}
use Rattle.json_text.specs.Grammar.{Json, null, truth, number, string, empty_array, array, empty_object, object, print, IsValue, AreBlanks}
use Rattle.json_text.specs.Texts.{levels, IsParsingFault, IsTooDeep}
use Rattle.json_text.specs.Machine.{class, Verdict, accepted, unfit, too_deep, verdict}
use Rattle.json_text.specs.Trimmed.{content, skip_blanks}
use Rattle.json_text.specs.declared.bytes.Class.{Class}
use Rattle.json_text.specs.declared.bytes.Class.TheVariants.{Quote, ArrayBegin, ObjectBegin, LetterN, LetterT, LetterF}
use Rattle.json_text.specs.declared.checking.JsonCode.{JsonCode}
use Rattle.json_text.specs.declared.checking.JsonCode.TheVariants.{InvalidTextEncoding, JSONParsingError, JSONTooDeep}
use Rattle.json_text.specs.declared.checking.JsonFault.{JsonFault}
use Rattle.json_text.specs.declared.machine.Mode.TheVariants.{ValueDue}
use Rattle.json_text.specs.declared.node.Kind.{Kind}
use Rattle.json_text.specs.declared.node.Kind.TheVariants.{Null, Bool as BoolKind, Number, Text, Array, Object}

-- the bytes are the value's own, without blanks around it
pub record Spells (bytes : List ℕ) (tree : Json) : Type 0 where
  pub valid : IsValue levels 0 tree
  pub spelled : bytes ≡ print tree []

-- the bytes are those of some value
pub record IsNode (bytes : List ℕ) : Type 0 where
  pub tree : Json
  pub spells : Spells bytes tree

-- the value's own bytes, with blanks around them
pub record StandsIn (bytes token : List ℕ) : Type 0 where
  pub before : List ℕ
  pub behind : List ℕ
  pub blank_before : AreBlanks before
  pub blank_behind : AreBlanks behind
  pub spelled : bytes ≡ before ++ (token ++ behind)

-- the first fault of the bytes, and its place
abbrev pub IsFault : List ℕ → JsonCode → ℕ → Type 0
IsFault bytes InvalidTextEncoding at = (IsUtf8 bytes → ⊥) × IsValidUpTo bytes at
IsFault bytes JSONParsingError at = IsUtf8 bytes × IsParsingFault bytes at
IsFault bytes JSONTooDeep at = IsUtf8 bytes × IsTooDeep bytes at

-- ---- the same as a function

-- the value's own bytes, or why there is none, by what a reader says of all bytes
abbrev pub value_by : Verdict → List ℕ → Result (List ℕ) JsonCode
value_by accepted bytes = Ok (content (skip_blanks bytes))
value_by (unfit at) bytes = Err JSONParsingError
value_by (too_deep at) bytes = Err JSONTooDeep

-- the own bytes of the value that the bytes stand for, or why they are no JSON text
unfoldable pub value_of : List ℕ → Result (List ℕ) JsonCode
value_of bytes = if is_utf8 bytes then value_by (verdict bytes ValueDue [] 0) bytes else Err InvalidTextEncoding

-- an answer without the place of its fault
abbrev pub without_place : Result (List ℕ) JsonFault → Result (List ℕ) JsonCode
without_place (Ok token) = Ok token
without_place (Err fault) = Err fault.code

-- the bytes have this fault at some place
pub record HasFault (bytes : List ℕ) (code : JsonCode) : Type 0 where
  pub at : ℕ
  pub fault : IsFault bytes code at

-- the bytes are a text of this value, or have this fault
abbrev pub IsTold : List ℕ → Result (List ℕ) JsonCode → Type 0
IsTold bytes (Ok token) = IsUtf8 bytes × StandsIn bytes token × IsNode token
IsTold bytes (Err code) = HasFault bytes code

-- the function gives the value of each text, and a fault of all other bytes
abbrev pub EachTextIsTold : Type 0
EachTextIsTold = (bytes : List ℕ) → IsTold bytes (value_of bytes)

-- ---- walks

abbrev pub kind_of : Json → Kind
kind_of null = Null
kind_of (truth b) = BoolKind b
kind_of (number n) = Number
kind_of (string raw) = Text
kind_of (empty_array blanks) = Array
kind_of (array e es) = Array
kind_of (empty_object blanks) = Object
kind_of (object m ms) = Object

-- the same, told by the class of the first byte
abbrev pub kind_by_class : Class → Kind
kind_by_class Quote = Text
kind_by_class ArrayBegin = Array
kind_by_class ObjectBegin = Object
kind_by_class LetterN = Null
kind_by_class LetterT = BoolKind true
kind_by_class LetterF = BoolKind false
kind_by_class _ = Number

abbrev pub kind_at : List ℕ → Kind
kind_at [] = Null
kind_at (c ∷ cs) = kind_by_class (class c)

-- the characters that a string stands for; another value has none
abbrev pub IsTextOf : Json → Option (List ℕ) → Type 0
IsTextOf (string raw) None = ⊥
IsTextOf (string raw) (Some text) = text ≡ unescaped_text (chars raw)
IsTextOf _ None = Unit {0}
IsTextOf _ (Some text) = ⊥
