-- JSON (RFC 8259, sections 2 to 7): trees, their spelling and which of them are valid. A tree keeps its blanks and its tokens
-- as they are spelled. The bytes are UTF-8 as a whole, so the grammar is told over bytes.
use Rattle.std.specs.Prelude.{◌≡◌, ℕ, suc, ◌<◌, Bool, true, false, ◌||◌, ◌&&◌, nat_le, ◌==◌, List, [], ◌∷◌, ◌++◌, IsTrue}
use Rattle.text_view.specs.JsonString.{Piece, ArePieces, print_pieces}

-- ws = *( %x20 / %x09 / %x0A / %x0D )
abbrev pub is_blank : ℕ → Bool
is_blank c = c == 32 || c == 9 || c == 10 || c == 13

abbrev pub AreBlanks : List ℕ → Type 0
AreBlanks [] = Unit {0}
AreBlanks (c ∷ cs) = IsTrue (is_blank c) × AreBlanks cs

-- ---- numbers (section 6)

-- digit1-9
abbrev pub is_nonzero_digit : ℕ → Bool
is_nonzero_digit c = nat_le 49 c && nat_le c 57

-- DIGIT
abbrev pub is_digit : ℕ → Bool
is_digit c = c == 48 || is_nonzero_digit c

-- *DIGIT
abbrev pub AreDigits : List ℕ → Type 0
AreDigits [] = Unit {0}
AreDigits (c ∷ cs) = IsTrue (is_digit c) × AreDigits cs

-- int = zero / ( digit1-9 *DIGIT )
pub data Int : Type 0 where
  zero_int : Int
  nonzero_int : ℕ → List ℕ → Int

abbrev pub print_int : Int → List ℕ → List ℕ
print_int zero_int rest = 48 ∷ rest
print_int (nonzero_int d ds) rest = d ∷ (ds ++ rest)

abbrev pub IsInt : Int → Type 0
IsInt zero_int = Unit {0}
IsInt (nonzero_int d ds) = IsTrue (is_nonzero_digit d) × AreDigits ds

-- [ frac ], frac = decimal-point 1*DIGIT
pub data Frac : Type 0 where
  no_frac : Frac
  frac : ℕ → List ℕ → Frac

abbrev pub print_frac : Frac → List ℕ → List ℕ
print_frac no_frac rest = rest
print_frac (frac d ds) rest = 46 ∷ d ∷ (ds ++ rest)

abbrev pub IsFrac : Frac → Type 0
IsFrac no_frac = Unit {0}
IsFrac (frac d ds) = IsTrue (is_digit d) × AreDigits ds

-- [ exp ], exp = e [ minus / plus ] 1*DIGIT, e = %x65 / %x45
pub data Exp : Type 0 where
  no_exp : Exp
  unsigned_exp : ℕ → ℕ → List ℕ → Exp
  signed_exp : ℕ → ℕ → ℕ → List ℕ → Exp

abbrev pub is_e : ℕ → Bool
is_e c = c == 101 || c == 69

abbrev pub is_sign : ℕ → Bool
is_sign c = c == 45 || c == 43

abbrev pub print_exp : Exp → List ℕ → List ℕ
print_exp no_exp rest = rest
print_exp (unsigned_exp e d ds) rest = e ∷ d ∷ (ds ++ rest)
print_exp (signed_exp e s d ds) rest = e ∷ s ∷ d ∷ (ds ++ rest)

abbrev pub IsExp : Exp → Type 0
IsExp no_exp = Unit {0}
IsExp (unsigned_exp e d ds) = IsTrue (is_e e) × IsTrue (is_digit d) × AreDigits ds
IsExp (signed_exp e s d ds) = IsTrue (is_e e) × IsTrue (is_sign s) × IsTrue (is_digit d) × AreDigits ds

-- number = [ minus ] int [ frac ] [ exp ]
pub data Number : Type 0 where
  unsigned : Int → Frac → Exp → Number
  negative : Int → Frac → Exp → Number

abbrev pub print_number : Number → List ℕ → List ℕ
print_number (unsigned i f e) rest = print_int i (print_frac f (print_exp e rest))
print_number (negative i f e) rest = 45 ∷ print_int i (print_frac f (print_exp e rest))

abbrev pub IsNumber : Number → Type 0
IsNumber (unsigned i f e) = IsInt i × IsFrac f × IsExp e
IsNumber (negative i f e) = IsInt i × IsFrac f × IsExp e

-- ---- strings (section 7)

-- the bytes between the quotation marks: *char, where a surrogate escape stands in a pair alone
pub record IsInside (raw : List ℕ) : Type 0 where
  pub pieces : List Piece
  pub valid : ArePieces pieces
  pub spelled : raw ≡ print_pieces pieces

-- ---- values (sections 3 to 5)

mutual
  -- value = false / null / true / object / array / number / string
  pub data Json : Type 0 where
    null : Json
    truth : Bool → Json
    number : Number → Json
    string : List ℕ → Json
    -- array = begin-array [ value *( value-separator value ) ] end-array
    empty_array : List ℕ → Json
    array : Element → Elements → Json
    -- object = begin-object [ member *( value-separator member ) ] end-object
    empty_object : List ℕ → Json
    object : Member → Members → Json

  -- a value, with the blanks before and behind it
  pub data Element : Type 0 where
    element : List ℕ → Json → List ℕ → Element

  pub data Elements : Type 0 where
    no_elements : Elements
    more_elements : Element → Elements → Elements

  -- member = string name-separator value; the name, with the blanks before and behind it
  pub data Member : Type 0 where
    member : List ℕ → List ℕ → List ℕ → Element → Member

  pub data Members : Type 0 where
    no_members : Members
    more_members : Member → Members → Members

abbrev pub truth_name : Bool → List ℕ
truth_name true = 116 ∷ 114 ∷ 117 ∷ 101 ∷ []
truth_name false = 102 ∷ 97 ∷ 108 ∷ 115 ∷ 101 ∷ []

abbrev pub null_name : List ℕ
null_name = 110 ∷ 117 ∷ 108 ∷ 108 ∷ []

-- the bytes of a tree, before what follows them
unfoldable mutual
  pub print : Json → List ℕ → List ℕ
  print null rest = null_name ++ rest
  print (truth b) rest = truth_name b ++ rest
  print (number n) rest = print_number n rest
  print (string raw) rest = 34 ∷ (raw ++ 34 ∷ rest)
  print (empty_array blanks) rest = 91 ∷ (blanks ++ 93 ∷ rest)
  print (array e es) rest = 91 ∷ print_element e (print_elements es rest)
  print (empty_object blanks) rest = 123 ∷ (blanks ++ 125 ∷ rest)
  print (object m ms) rest = 123 ∷ print_member m (print_members ms rest)

  pub print_element : Element → List ℕ → List ℕ
  print_element (element before v behind) rest = before ++ print v (behind ++ rest)

  pub print_elements : Elements → List ℕ → List ℕ
  print_elements no_elements rest = 93 ∷ rest
  print_elements (more_elements e es) rest = 44 ∷ print_element e (print_elements es rest)

  pub print_member : Member → List ℕ → List ℕ
  print_member (member before name behind e) rest = before ++ 34 ∷ (name ++ 34 ∷ (behind ++ 58 ∷ print_element e rest))

  pub print_members : Members → List ℕ → List ℕ
  print_members no_members rest = 125 ∷ rest
  print_members (more_members m ms) rest = 44 ∷ print_member m (print_members ms rest)

-- The tree spells JSON, and no bracket of it opens a level past the limit, where `depth` brackets stand around the tree.
unfoldable mutual
  pub IsValue : ℕ → ℕ → Json → Type 0
  IsValue limit depth null = Unit {0}
  IsValue limit depth (truth b) = Unit {0}
  IsValue limit depth (number n) = IsNumber n
  IsValue limit depth (string raw) = IsInside raw
  IsValue limit depth (empty_array blanks) = (depth < limit) × AreBlanks blanks
  IsValue limit depth (array e es) = (depth < limit) × IsElement limit (suc depth) e × AreElements limit (suc depth) es
  IsValue limit depth (empty_object blanks) = (depth < limit) × AreBlanks blanks
  IsValue limit depth (object m ms) = (depth < limit) × IsMember limit (suc depth) m × AreMembers limit (suc depth) ms

  pub IsElement : ℕ → ℕ → Element → Type 0
  IsElement limit depth (element before v behind) = AreBlanks before × IsValue limit depth v × AreBlanks behind

  pub AreElements : ℕ → ℕ → Elements → Type 0
  AreElements limit depth no_elements = Unit {0}
  AreElements limit depth (more_elements e es) = IsElement limit depth e × AreElements limit depth es

  pub IsMember : ℕ → ℕ → Member → Type 0
  IsMember limit depth (member before name behind e) = AreBlanks before × IsInside name × AreBlanks behind × IsElement limit depth e

  pub AreMembers : ℕ → ℕ → Members → Type 0
  AreMembers limit depth no_members = Unit {0}
  AreMembers limit depth (more_members m ms) = IsMember limit depth m × AreMembers limit depth ms
