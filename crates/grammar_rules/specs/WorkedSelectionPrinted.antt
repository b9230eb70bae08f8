-- The words of a selection.
use Rattle.std.specs.Prelude.{ℕ, ◌+◌, ◌≤◌, List, [], ◌∷◌, ◌++◌, length}
use Rattle.grammar_rules.specs.declared.worked.selections.Word.{Word}
use Rattle.grammar_rules.specs.declared.worked.selections.Word.TheVariants.{Number, Name, Dash, Dot, Star, Comma}
use Rattle.grammar_rules.specs.declared.worked.selections.Item.{Item}
use Rattle.grammar_rules.specs.declared.worked.selections.Item.TheVariants.{One, Range, Path}
use Rattle.grammar_rules.specs.declared.worked.selections.Selection.{Selection}
use Rattle.grammar_rules.specs.declared.worked.selections.Selection.TheVariants.{All, Listed}
use Rattle.grammar_rules.specs.Spelled.{print_all}

abbrev pub print_item : Item → List Word
print_item (One a) = Number a ∷ []
print_item (Range a b) = Number a ∷ Dash ∷ Number b ∷ []
print_item (Path a names) = Name a ∷ print_all (λ b. Dot ∷ Name b ∷ []) names

abbrev pub print_items : List Item → List Word
print_items [] = []
print_items (i ∷ rest) = print_item i ++ print_all (λ j. Comma ∷ print_item j) rest

abbrev pub print_selection : Selection → List Word
print_selection (All a) = Name a ∷ Dot ∷ Star ∷ []
print_selection (Listed is) = print_items is

-- how many numbers and names it has
abbrev pub values_in : Item → ℕ
values_in (One a) = 1
values_in (Range a b) = 2
values_in (Path a names) = length names + 1

abbrev pub values_of : List Item → ℕ
values_of [] = 0
values_of (i ∷ rest) = values_in i + values_of rest

abbrev pub AreWithin : ℕ → ℕ → List Item → Type 0
AreWithin most values [] = ⊥
AreWithin most values (i ∷ rest) = (length rest + 1 ≤ most) × (values_of (i ∷ rest) ≤ values)

-- the selection has a text: at least one item, and within the limits
abbrev pub HasText : ℕ → ℕ → Selection → Type 0
HasText most values (All a) = Unit {0}
HasText most values (Listed is) = AreWithin most values is
