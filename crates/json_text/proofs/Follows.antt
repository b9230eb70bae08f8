-- What may follow, to a JSON text's end, from each state of the reader.
use Rattle.std.proofs.Common.{◌≡◌, ℕ, suc, ◌<◌, ◌⊎◌, Bool, true, false, List, [], ◌∷◌, ◌++◌, length}
use Rattle.json_text.specs.Grammar.{Json, Elements, Members, print, print_elements, print_members, IsValue, AreElements, AreMembers, AreBlanks, IsInside}
use Rattle.json_text.specs.Machine.{behind_close}
use Rattle.json_text.specs.declared.machine.Mode.{Mode}
use Rattle.json_text.specs.declared.machine.Mode.TheVariants.{ValueDue, ElementDue, NameDue, FirstNameDue, ColonDue, Ended, InWord, InNumber, InText, InName}
use Rattle.json_text.specs.declared.machine.Letters.{Letters}
use Rattle.json_text.specs.declared.machine.Letters.TheVariants.{Ull, Ll, L, Rue, Ue, E, Alse, Lse, Se}
use Rattle.json_text.specs.declared.machine.Part.{Part}
use Rattle.json_text.specs.declared.machine.Digits.{Digits}
use Rattle.json_text.specs.declared.machine.Move.{Move}
use Rattle.json_text.specs.declared.machine.Move.TheVariants.{To, OpenArray, OpenObject, Close, Refuse}
use Rattle.json_text.proofs.Strings.{Tail}
use Rattle.json_text.proofs.Numbers.{NumberTail}

-- the rest of an array, from behind an element on
pub record ElementsThen (L d : ℕ) (P : List ℕ → Type 0) (ts : List ℕ) : Type 0 where
  pub blanks : List ℕ
  pub elements : Elements
  pub rest : List ℕ
  pub blank : AreBlanks blanks
  pub valid : AreElements L d elements
  pub spelled : ts ≡ blanks ++ print_elements elements rest
  pub behind : P rest

pub record MembersThen (L d : ℕ) (P : List ℕ → Type 0) (ts : List ℕ) : Type 0 where
  pub blanks : List ℕ
  pub members : Members
  pub rest : List ℕ
  pub blank : AreBlanks blanks
  pub valid : AreMembers L d members
  pub spelled : ts ≡ blanks ++ print_members members rest
  pub behind : P rest

pub record ValueThen (L d : ℕ) (P : List ℕ → Type 0) (ts : List ℕ) : Type 0 where
  pub blanks : List ℕ
  pub value : Json
  pub rest : List ℕ
  pub blank : AreBlanks blanks
  pub valid : IsValue L d value
  pub spelled : ts ≡ blanks ++ print value rest
  pub behind : P rest

pub record ByteThen (c : ℕ) (P : List ℕ → Type 0) (ts : List ℕ) : Type 0 where
  pub blanks : List ℕ
  pub rest : List ℕ
  pub blank : AreBlanks blanks
  pub spelled : ts ≡ blanks ++ c ∷ rest
  pub behind : P rest

pub record NameThen (P : List ℕ → Type 0) (ts : List ℕ) : Type 0 where
  pub blanks : List ℕ
  pub raw : List ℕ
  pub rest : List ℕ
  pub blank : AreBlanks blanks
  pub valid : IsInside raw
  pub spelled : ts ≡ blanks ++ 34 ∷ (raw ++ 34 ∷ rest)
  pub behind : P rest

pub record StringThen (p : Part) (P : List ℕ → Type 0) (ts : List ℕ) : Type 0 where
  pub raw : List ℕ
  pub rest : List ℕ
  pub valid : Tail p raw
  pub spelled : ts ≡ raw ++ 34 ∷ rest
  pub behind : P rest

pub record WordThen (w : List ℕ) (P : List ℕ → Type 0) (ts : List ℕ) : Type 0 where
  pub rest : List ℕ
  pub spelled : ts ≡ w ++ rest
  pub behind : P rest

pub record NumberThen (s : Digits) (P : List ℕ → Type 0) (ts : List ℕ) : Type 0 where
  pub rest : List ℕ
  pub valid : NumberTail s rest ts
  pub behind : P rest

abbrev pub letters : Letters → List ℕ
letters Ull = 117 ∷ 108 ∷ 108 ∷ []
letters Ll = 108 ∷ 108 ∷ []
letters L = 108 ∷ []
letters Rue = 114 ∷ 117 ∷ 101 ∷ []
letters Ue = 117 ∷ 101 ∷ []
letters E = 101 ∷ []
letters Alse = 97 ∷ 108 ∷ 115 ∷ 101 ∷ []
letters Lse = 108 ∷ 115 ∷ 101 ∷ []
letters Se = 115 ∷ 101 ∷ []

-- what may follow a value
abbrev pub After : ℕ → List Bool → List ℕ → Type 0
After limit [] ts = AreBlanks ts
After limit (true ∷ nest) ts = ElementsThen limit (suc (length nest)) (λ rest. After limit nest rest) ts
After limit (false ∷ nest) ts = MembersThen limit (suc (length nest)) (λ rest. After limit nest rest) ts

abbrev pub ValueNext : ℕ → List Bool → List ℕ → Type 0
ValueNext limit nest ts = ValueThen limit (length nest) (After limit nest) ts

abbrev pub ColonNext : ℕ → List Bool → List ℕ → Type 0
ColonNext limit nest ts = ByteThen 58 (ValueNext limit nest) ts

abbrev pub NameNext : ℕ → List Bool → List ℕ → Type 0
NameNext limit nest ts = NameThen (ColonNext limit nest) ts

-- the bytes bring a text that was read so far to its end
abbrev pub Follows : ℕ → Mode → List Bool → List ℕ → Type 0
Follows limit ValueDue nest ts = ValueNext limit nest ts
Follows limit ElementDue nest ts = ByteThen 93 (After limit (behind_close nest)) ts ⊎ ValueNext limit nest ts
Follows limit NameDue nest ts = NameNext limit nest ts
Follows limit FirstNameDue nest ts = ByteThen 125 (After limit (behind_close nest)) ts ⊎ NameNext limit nest ts
Follows limit ColonDue nest ts = ColonNext limit nest ts
Follows limit Ended nest ts = After limit nest ts
Follows limit (InWord w) nest ts = WordThen (letters w) (After limit nest) ts
Follows limit (InNumber s) nest ts = NumberThen s (After limit nest) ts
Follows limit (InText p) nest ts = StringThen p (After limit nest) ts
Follows limit (InName p) nest ts = StringThen p (ColonNext limit nest) ts

-- the same behind a byte that does this
abbrev pub FollowsMove : ℕ → List Bool → List ℕ → Move → Type 0
FollowsMove limit nest ts (To m) = Follows limit m nest ts
FollowsMove limit nest ts OpenArray = (length nest < limit) × Follows limit ElementDue (true ∷ nest) ts
FollowsMove limit nest ts OpenObject = (length nest < limit) × Follows limit FirstNameDue (false ∷ nest) ts
FollowsMove limit nest ts Close = After limit (behind_close nest) ts
FollowsMove limit nest ts Refuse = ⊥
