-- What the functions of the parser of selections answer, seen as outcomes and as answers.
use Rattle.std.specs.Prelude.{◌≡◌, ◌≢◌, ℕ, ◌⊎◌, List, [], ◌∷◌, drop, false, Option, Some, None, Result, Ok, Err}
use mathlib.Core.Logic.{inl, inr}
use Rattle.grammar_rules.specs.declared.worked.selections.Word.{Word}
use Rattle.grammar_rules.specs.declared.worked.selections.Word.TheVariants.{Number, Name}
use Rattle.grammar_rules.specs.declared.worked.selections.Class.TheVariants.{Numbers, Names}
use Rattle.grammar_rules.specs.declared.worked.selections.Head.{Head}
use Rattle.grammar_rules.specs.declared.worked.selections.Head.TheVariants.{Numeral, Naming}
use Rattle.grammar_rules.specs.declared.worked.selections.Selection.{Selection}
use Rattle.grammar_rules.specs.declared.worked.selections.Stop.{Stop}
use Rattle.grammar_rules.specs.declared.worked.selections.Stop.TheVariants.{Unfit, ManyItems, ManyValues, Memory}
use Rattle.grammar_rules.specs.declared.worked.selections.SelectionError.{SelectionError}
use Rattle.grammar_rules.specs.declared.worked.selections.SelectionError.TheVariants.{Refused, MisplacedStar, TooManyItems, TooManyValues, OutOfMemory}
use Rattle.grammar_rules.specs.Readers.{Outcome, found, failed, starts}
use Rattle.grammar_rules.specs.Places.{Answer, value, refusal, named_first}
use Rattle.grammar_rules.specs.WorkedSelections.{Fault, too_many_items, too_many_values, misplaced, of, over, star_name}
use Rattle.grammar_rules.specs.WorkedSelectionReaders.{read_all_of}

-- the fault that a stop tells
abbrev pub fault_of : Stop → Option Fault
fault_of Unfit = None
fault_of ManyItems = Some too_many_items
fault_of ManyValues = Some too_many_values
fault_of Memory = None

-- the result is that outcome, with what is left, but for want of memory
abbrev pub Gives : {A : Type 0} → Outcome Word Fault A → Result A Stop → List Word → Type 0
Gives outcome (Ok a) left = outcome ≡ found a left
Gives outcome (Err e) left = e ≢ Memory → outcome ≡ failed (fault_of e) left

-- the same with the count behind the value
abbrev pub GivesCounted : {S A : Type 0} → Outcome Word Fault (A × S) → Result A Stop → S → List Word → Type 0
GivesCounted outcome (Ok a) n left = outcome ≡ found (a, n) left
GivesCounted outcome (Err e) n left = e ≢ Memory → outcome ≡ failed (fault_of e) left

abbrev pub head_of : Head → ℕ ⊎ ℕ
head_of (Numeral a) = inl a
head_of (Naming a) = inr a

abbrev pub GivesHead : Outcome Word Fault ((ℕ ⊎ ℕ) × ℕ) → Result Head Stop → ℕ → List Word → Type 0
GivesHead outcome (Ok h) n left = outcome ≡ found (head_of h, n) left
GivesHead outcome (Err e) n left = e ≢ Memory → outcome ≡ failed (fault_of e) left

-- a number stands at the front, or none does
abbrev pub NumberAt : List Word → Option ℕ → Type 0
NumberAt ts (Some n) = ts ≡ Number n ∷ drop 1 ts
NumberAt ts None = starts (of Numbers) ts ≡ false

-- a name stands at the front, or none does
abbrev pub NameAt : List Word → Option ℕ → Type 0
NameAt ts (Some n) = ts ≡ Name n ∷ drop 1 ts
NameAt ts None = starts (of Names) ts ≡ false

-- a number or a name stands at the front, or none does
abbrev pub HeadAt : List Word → Option Head → Type 0
HeadAt ts (Some (Numeral n)) = ts ≡ Number n ∷ drop 1 ts
HeadAt ts (Some (Naming n)) = ts ≡ Name n ∷ drop 1 ts
HeadAt ts None = (starts (of Numbers) ts ≡ false) × (starts (of Names) ts ≡ false)

-- the stop where there is no room for an item
abbrev pub over_first : List Word → Option Fault
over_first [] = None
over_first (w ∷ ts) = over w

abbrev pub IsOver : List Word → Stop → Type 0
IsOver ts stop = (stop ≢ Memory) × (fault_of stop ≡ over_first ts)

abbrev pub IsFailed : {A : Type 0} → Outcome Word Fault A → Type 0
IsFailed (found a left) = ⊥
IsFailed (failed e left) = Unit {0}

-- the name of all is passed with what follows it, or nothing is
abbrev pub TakesAll : List Word → Option ℕ → List Word → Type 0
TakesAll before (Some n) after = read_all_of before ≡ found n after
TakesAll before None after = IsFailed (read_all_of before) × (after ≡ before)

-- ---- answers

abbrev pub refused_at : Option Fault → ℕ → SelectionError
refused_at None at = Refused at
refused_at (Some k) at = MisplacedStar at

-- the error that a stop at this place is, where these words are left
abbrev pub error_of : Stop → List Word → ℕ → SelectionError
error_of Unfit left at = refused_at (named_first star_name left) at
error_of ManyItems left at = TooManyItems at
error_of ManyValues left at = TooManyValues at
error_of Memory left at = OutOfMemory

-- the answer that a result is, but for want of memory
abbrev pub answer_of : Result Selection SelectionError → Option (Answer Fault Selection)
answer_of (Ok s) = Some (value s)
answer_of (Err (Refused at)) = Some (refusal None at)
answer_of (Err (MisplacedStar at)) = Some (refusal (Some misplaced) at)
answer_of (Err (TooManyItems at)) = Some (refusal (Some too_many_items) at)
answer_of (Err (TooManyValues at)) = Some (refusal (Some too_many_values) at)
answer_of (Err OutOfMemory) = None
