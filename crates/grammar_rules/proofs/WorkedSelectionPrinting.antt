-- What is printed of a selection is spelled.
use Rattle.std.proofs.Common.{◌≡◌, ℕ, suc, ◌+◌, ◌-◌, List, [], ◌∷◌, length, refl, arith}
use Rattle.grammar_rules.specs.declared.worked.selections.Word.TheVariants.{Number, Name, Dash, Dot, Star, Comma}
use Rattle.grammar_rules.specs.declared.worked.selections.Class.TheVariants.{Dashes, Dots, Stars, Commas}
use Rattle.grammar_rules.specs.declared.worked.selections.Item.{Item}
use Rattle.grammar_rules.specs.declared.worked.selections.Item.TheVariants.{One, Range, Path}
use Rattle.grammar_rules.specs.declared.worked.selections.Selection.TheVariants.{All, Listed}
use Rattle.grammar_rules.specs.Rules.{either, made, preceded_by, token, nothing}
use Rattle.grammar_rules.specs.Counted.{given, both, past, many_from, item as counted_item}
use Rattle.grammar_rules.specs.Spelled.{Prints, print_all}
use Rattle.grammar_rules.specs.WorkedSelections.{too_many_values, of, number, name, a_number, a_name, range, path, item, over, items, all_of, selection}
use Rattle.grammar_rules.specs.WorkedSelectionPrinted.{print_item, print_items, print_selection, values_in, values_of, AreWithin, HasText}
use Rattle.grammar_rules.proofs.Printing.{spelled-made, spelled-first, spelled-second, spelled-past, spelled-begun, spelled-one_more, spelled-both, spelled-room, spelled-many_from_nil, spelled-many_from_cons, spelled-chain}

number_spelled : (n m a : ℕ) → n ≡ suc m → (a_number n).Spells (a, m) (Number a ∷ [])
number_spelled n m a e = spelled-one_more too_many_values number (Number a) a n m e refl

name_spelled : (n m a : ℕ) → n ≡ suc m → (a_name n).Spells (a, m) (Name a ∷ [])
name_spelled n m a e = spelled-one_more too_many_values name (Name a) a n m e refl

names_spelled : (names : List ℕ) (n m : ℕ) → n ≡ length names + m → (many_from (past (of Dots) a_name) n).Spells (names, m) (print_all (λ b. Dot ∷ Name b ∷ []) names)
names_spelled [] n m e = let p : n ≡ m = omega (arith, e) in rw p (spelled-many_from_nil (past (of Dots) a_name) m)
names_spelled (b ∷ names) n m e =
    let l : ℕ = length names + m in
    spelled-many_from_cons (past (of Dots) a_name) n l m b names (Dot ∷ Name b ∷ []) (print_all (λ c. Dot ∷ Name c ∷ []) names)
    (spelled-past (a_name n) (b, l) (Name b ∷ []) (name_spelled n l b (omega (arith, e))) (of Dots) Dot refl)
    (names_spelled names l m refl)

item_spelled : (i : Item) (n m : ℕ) → n ≡ values_in i + m → (item n).Spells (i, m) (print_item i)
unfolding item
item_spelled (One a) n m e =
    spelled-first (either (range n) (given One a_number n)) (One a, m) (Number a ∷ [])
    (spelled-second (given One a_number n) (One a, m) (Number a ∷ []) (spelled-made (a_number n) (a, m) (Number a ∷ []) (number_spelled n m a (omega (arith, e))) (λ p. (One p.0, p.1))) (range n)) (path n)
item_spelled (Range a b) n m e =
    let pair : (both a_number (past (of Dashes) a_number) n).Spells ((a, b), m) (Number a ∷ Dash ∷ Number b ∷ []) =
    spelled-both a_number (past (of Dashes) a_number) n (suc m) m a b (Number a ∷ []) (Dash ∷ Number b ∷ []) (number_spelled n (suc m) a (omega (arith, e)))
    (spelled-past (a_number (suc m)) (b, m) (Number b ∷ []) (number_spelled (suc m) m b refl) (of Dashes) Dash refl) in
    spelled-first (either (range n) (given One a_number n)) (Range a b, m) (Number a ∷ Dash ∷ Number b ∷ [])
    (spelled-first (range n) (Range a b, m) (Number a ∷ Dash ∷ Number b ∷ [])
    (spelled-made (both a_number (past (of Dashes) a_number) n) ((a, b), m) (Number a ∷ Dash ∷ Number b ∷ []) pair (λ p. (Range p.0.0 p.0.1, p.1))) (given One a_number n)) (path n)
item_spelled (Path a names) n m e =
    let l : ℕ = length names + m in
    spelled-second (path n) (Path a names, m) (Name a ∷ print_all (λ b. Dot ∷ Name b ∷ []) names)
    (spelled-chain Path a_name (past (of Dots) a_name) n l m a names (Name a ∷ []) (print_all (λ b. Dot ∷ Name b ∷ []) names) (name_spelled n l a (omega (arith, e))) (names_spelled names l m refl))
    (either (range n) (given One a_number n))

-- an item of a list, where `left + 1` may still come
listed_spelled : (i : Item) (most left n m : ℕ) → most ≡ suc left → n ≡ values_in i + m → (counted_item over item (most, n)).Spells (i, (left, m)) (print_item i)
listed_spelled i most left n m f e = spelled-room over item most left n m i (print_item i) f (item_spelled i n m e)

items_spelled : (rest : List Item) (most left n m : ℕ) → most ≡ length rest + left → n ≡ values_of rest + m
    → (many_from (past (of Commas) (counted_item over item)) (most, n)).Spells (rest, (left, m)) (print_all (λ j. Comma ∷ print_item j) rest)
items_spelled [] most left n m f e =
    let p : most ≡ left = omega (arith, f) in
    let q : n ≡ m = omega (arith, e) in
    rw (p, q) (spelled-many_from_nil (past (of Commas) (counted_item over item)) (left, m))
items_spelled (i ∷ rest) most left n m f e =
    let k : ℕ = length rest + left in
    let l : ℕ = values_of rest + m in
    spelled-many_from_cons (past (of Commas) (counted_item over item)) (most, n) (k, l) (left, m) i rest (Comma ∷ print_item i) (print_all (λ j. Comma ∷ print_item j) rest)
    (spelled-past (counted_item over item (most, n)) (i, (k, l)) (print_item i) (listed_spelled i most k n l (omega (arith, f)) (omega (arith, e))) (of Commas) Comma refl)
    (items_spelled rest k left l m refl refl)

list_spelled : (most values : ℕ) (is : List Item) → AreWithin most values is → (items most values).Spells is (print_items is)
list_spelled most values [] h = absurd h
list_spelled most values (i ∷ rest) h =
    let left : ℕ = most - (length rest + 1) in
    let m : ℕ = values - (values_in i + values_of rest) in
    let k : ℕ = length rest + left in
    let l : ℕ = values_of rest + m in
    let first = listed_spelled i most k values l (omega (arith, h.0)) (omega (arith, h.1)) in
    let others = items_spelled rest k left l m refl refl in
    let whole = spelled-chain (λ a more. a ∷ more) (counted_item over item) (past (of Commas) (counted_item over item)) (most, values) (k, l) (left, m) i rest (print_item i) (print_all (λ j. Comma ∷ print_item j) rest) first others in
    ((i ∷ rest, m), refl, ((i ∷ rest, (left, m)), refl, whole))

all_spelled : (a : ℕ) → all_of.Spells a (Name a ∷ Dot ∷ Star ∷ [])
all_spelled a =
    spelled-begun name (λ b. preceded_by (token (of Dots)) (preceded_by (token (of Stars)) (nothing b))) (Name a) a a (Dot ∷ Star ∷ []) refl
    (spelled-past (preceded_by (token (of Stars)) (nothing a)) a (Star ∷ []) (spelled-past (nothing a) a [] (refl, refl) (of Stars) Star refl) (of Dots) Dot refl)

pub selection_spelled : (most values : ℕ) → Prints (selection most values) (HasText most values) print_selection
unfolding selection
selection_spelled most values (All a) h =
    spelled-second (made All all_of) (All a) (Name a ∷ Dot ∷ Star ∷ []) (spelled-made all_of a (Name a ∷ Dot ∷ Star ∷ []) (all_spelled a) All) (made Listed (items most values))
selection_spelled most values (Listed is) h =
    spelled-first (made Listed (items most values)) (Listed is) (print_items is) (spelled-made (items most values) is (print_items is) (list_spelled most values is h) Listed) (made All all_of)
