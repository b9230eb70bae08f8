-- A small grammar of selections, as an example of counts, lists with limits, choices by the first symbol, classes of symbols, a rule
-- that is tried ahead and a refusal with a name:
--
--   selection = name "." "*" | item { "," item }
--   item      = number | number "-" number | name { "." name }
--
-- with so many items, and so many numbers and names in them. A star elsewhere is misplaced.
use Rattle.std.specs.Prelude.{ℕ, Bool, nat_eq, List, [], ◌∷◌, Option, Some, None}
use Rattle.grammar_rules.specs.declared.worked.selections.Word.{Word}
use Rattle.grammar_rules.specs.declared.worked.selections.Word.TheVariants.{Number, Name, Dash, Dot, Star, Comma}
use Rattle.grammar_rules.specs.declared.worked.selections.Class.{Class}
use Rattle.grammar_rules.specs.declared.worked.selections.Class.TheVariants.{Numbers, Names, Dashes, Dots, Stars, Commas}
use Rattle.grammar_rules.specs.declared.worked.selections.Item.{Item}
use Rattle.grammar_rules.specs.declared.worked.selections.Item.TheVariants.{One, Range, Path}
use Rattle.grammar_rules.specs.declared.worked.selections.Selection.{Selection}
use Rattle.grammar_rules.specs.declared.worked.selections.Selection.TheVariants.{All, Listed}
use Rattle.grammar_rules.specs.Rules.{Rule, Verdict, takes, refuses, token, nothing, made, begun, either, preceded_by}
use Rattle.grammar_rules.specs.Counted.{Counted, one_more, given, both, past, chain, list_of}

pub data Fault : Type 0 where
  too_many_items : Fault
  too_many_values : Fault
  misplaced : Fault

-- ---- words

abbrev pub class_of : Word → Class
class_of (Number n) = Numbers
class_of (Name n) = Names
class_of Dash = Dashes
class_of Dot = Dots
class_of Star = Stars
class_of Comma = Commas

abbrev pub number_of : Class → ℕ
number_of Numbers = 0
number_of Names = 1
number_of Dashes = 2
number_of Dots = 3
number_of Stars = 4
number_of Commas = 5

abbrev pub all_classes : List Class
all_classes = Numbers ∷ Names ∷ Dashes ∷ Dots ∷ Stars ∷ Commas ∷ []

abbrev pub is : Class → Class → Bool
is c d = nat_eq (number_of c) (number_of d)

-- the words of a class
abbrev pub of : Class → Word → Bool
of c w = is c (class_of w)

abbrev pub number : Word → Verdict Fault ℕ
number (Number n) = takes n
number (Name n) = refuses
number Dash = refuses
number Dot = refuses
number Star = refuses
number Comma = refuses

abbrev pub name : Word → Verdict Fault ℕ
name (Number n) = refuses
name (Name n) = takes n
name Dash = refuses
name Dot = refuses
name Star = refuses
name Comma = refuses

-- ---- items

-- a number, and a name, each of which is counted
abbrev pub a_number : Counted ℕ Word Fault ℕ
a_number = one_more too_many_values number

abbrev pub a_name : Counted ℕ Word Fault ℕ
a_name = one_more too_many_values name

abbrev pub range : Counted ℕ Word Fault Item
range = given (λ p. Range p.0 p.1) (both a_number (past (of Dashes) a_number))

-- name { "." name }
abbrev pub path : Counted ℕ Word Fault Item
path = chain Path a_name (past (of Dots) a_name)

-- number | number "-" number | path
unfoldable pub item : Counted ℕ Word Fault Item
item n = either (either (range n) (given One a_number n)) (path n)

-- ---- selections

-- what is told of a word that would begin one item more than there may be
abbrev pub over : Word → Option Fault
over (Number n) = Some too_many_items
over (Name n) = Some too_many_items
over Dash = None
over Dot = None
over Star = None
over Comma = None

-- item { "," item }
abbrev pub items : ℕ → ℕ → Rule Word Fault (List Item)
items most values = made (λ p. p.0) (list_of most over (of Commas) item values)

-- name "." "*"
abbrev pub all_of : Rule Word Fault ℕ
all_of = begun name (λ a. preceded_by (token (of Dots)) (preceded_by (token (of Stars)) (nothing a)))

-- selections of at most so many items, with at most so many numbers and names in them
unfoldable pub selection : ℕ → ℕ → Rule Word Fault Selection
selection most values = either (made Listed (items most values)) (made All all_of)

-- a star that is refused is misplaced
abbrev pub star_name : Word → Option Fault
star_name (Number n) = None
star_name (Name n) = None
star_name Dash = None
star_name Dot = None
star_name Star = Some misplaced
star_name Comma = None
