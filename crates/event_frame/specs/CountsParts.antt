-- The parts of a text of counts, as they are read.
use Rattle.std.specs.Prelude.{◌≡◌, ◌≢◌, ℕ, ◌+◌, ◌<◌, Bool, true, false, List, ◌∷◌, ◌++◌, length, slice_index}
use Rattle.std.specs.Char.{is_ascii_digit}
use Rattle.event_frame.specs.CountsText.{CountsText, declaration, opening, print_element, IsNumber, SpellsCounts}
use Rattle.event_frame.specs.declared.counts.Counts.{Counts}

-- the bytes don't begin with this front
abbrev pub LacksFront : List ℕ → List ℕ → Type 0
LacksFront bytes front = (more : List ℕ) → bytes ≢ front ++ more

-- the digit of this value stands at the place
pub record IsDigitAt (bytes : List ℕ) (at digit : ℕ) : Type 0 where
  pub inside : at < length bytes
  pub is_digit : is_ascii_digit (slice_index bytes at) ≡ true
  pub value : digit + 48 ≡ slice_index bytes at

-- no number with a `<` behind it stands at the front
abbrev pub HasNoNumber : List ℕ → Type 0
HasNoNumber bytes = (digits more : List ℕ) (n : ℕ) → IsNumber digits n → bytes ≢ digits ++ 60 ∷ more

-- a number stands at the front, and no digit behind it
pub record SpellsNumber (bytes : List ℕ) (n : ℕ) (rest : List ℕ) : Type 0 where
  pub digits : List ℕ
  pub is_number : IsNumber digits n
  pub spelled : bytes ≡ digits ++ rest
  pub ended : is_ascii_digit (slice_index rest 0) ≡ false

-- no opening stands at the front
abbrev pub HasNoOpening : List ℕ → List ℕ → Type 0
HasNoOpening name bytes = (namespaced : Bool) → LacksFront bytes (opening name namespaced)

-- an opening stands at the front
pub record SpellsOpening (name bytes rest : List ℕ) : Type 0 where
  pub namespaced : Bool
  pub spelled : bytes ≡ opening name namespaced ++ rest

-- no number with this text behind it stands at the front
abbrev pub HasNoField : List ℕ → List ℕ → Type 0
HasNoField bytes behind = (digits more : List ℕ) (n : ℕ) → IsNumber digits n → bytes ≢ digits ++ (behind ++ more)

-- a number stands at the front, and this text behind it
pub record SpellsField (bytes behind : List ℕ) (n : ℕ) (rest : List ℕ) : Type 0 where
  pub digits : List ℕ
  pub is_number : IsNumber digits n
  pub spelled : bytes ≡ digits ++ (behind ++ rest)

-- the bytes are an element of the counts
pub record ReadsElement (name bytes : List ℕ) (c : Counts) : Type 0 where
  pub text : CountsText
  pub printed : bytes ≡ print_element name text
  pub spelled : SpellsCounts text c

-- the bytes are no element of counts
abbrev pub HasNoElement : List ℕ → List ℕ → Type 0
HasNoElement name bytes = (c : Counts) → ReadsElement name bytes c → ⊥

-- the payload is no declaration with an element behind it
abbrev pub HasNoDeclared : List ℕ → List ℕ → Type 0
HasNoDeclared name payload = (element : List ℕ) → payload ≡ declaration ++ element → HasNoElement name element

-- the payload is a declaration with an element behind it
pub record ReadsDeclared (name payload : List ℕ) (c : Counts) : Type 0 where
  pub behind : List ℕ
  pub declared : payload ≡ declaration ++ behind
  pub element : ReadsElement name behind c
