-- The steps of the parser of selections, as equations of its readers.
use Rattle.std.proofs.Common.{◌≡◌, ℕ, ◌-◌, nat_lt, ◌⊎◌, true, false, List, [], ◌∷◌, ◌++◌, drop, Option, Some, None, Result, Ok, Err, refl, ap, ◌∙◌, inl, inr, arith}
use Rattle.std.proofs.lemmas.Bool.Decides.{nat_tests}
use Rattle.grammar_rules.specs.declared.worked.selections.Word.{Word}
use Rattle.grammar_rules.specs.declared.worked.selections.Word.TheVariants.{Number, Name, Dash, Dot, Star, Comma}
use Rattle.grammar_rules.specs.declared.worked.selections.Class.TheVariants.{Numbers, Names, Dashes, Dots, Stars, Commas}
use Rattle.grammar_rules.specs.declared.worked.selections.Head.{Head}
use Rattle.grammar_rules.specs.declared.worked.selections.Head.TheVariants.{Numeral, Naming}
use Rattle.grammar_rules.specs.declared.worked.selections.Item.{Item}
use Rattle.grammar_rules.specs.declared.worked.selections.Item.TheVariants.{One, Range, Path}
use Rattle.grammar_rules.specs.declared.worked.selections.Selection.{Selection}
use Rattle.grammar_rules.specs.declared.worked.selections.Selection.TheVariants.{All, Listed}
use Rattle.grammar_rules.specs.declared.worked.selections.Stop.{Stop}
use Rattle.grammar_rules.specs.Readers.{Outcome, found, failed, read_made, read_past, starts, unless_found}
use Rattle.grammar_rules.specs.CountedReaders.{read_counted_past, read_links}
use Rattle.grammar_rules.specs.WorkedSelections.{Fault, too_many_values, of, number, name}
use Rattle.grammar_rules.specs.WorkedSelectionReaders.{value, read_number, read_name, read_head, read_number_rest, read_name_rest, read_rest, read_item, read_listed, read_items, read_all_of, read_selection}
use Rattle.grammar_rules.specs.WorkedSelecting.{GivesCounted, head_of, HeadAt, over_first, IsFailed}
use Rattle.grammar_rules.proofs.Counts.{one_more_refused, one_more_over, one_more_taken}
use Rattle.grammar_rules.proofs.CountedMany.{chain_fail, list_begin, links_step, links_stop, links_fail}
use Rattle.grammar_rules.proofs.WorkedSelectionReads.{head_first, seen_number, seen_name, seen_value, less_name, less_item}

-- ---- values

module _ (n : ℕ) (ts : List Word) where
  pub number_refused : starts (of Numbers) ts ≡ false → read_number n ts ≡ failed None ts
  unfolding read_number
  number_refused e = one_more_refused too_many_values number n (of Numbers) seen_number ts e

  pub number_over : (a : ℕ) → ts ≡ Number a ∷ drop 1 ts → n ≡ 0 → read_number n ts ≡ failed (Some too_many_values) ts
  unfolding read_number
  number_over a e z = one_more_over too_many_values number n (Number a) a ts e refl z

  pub number_taken : (a : ℕ) (left : List Word) → ts ≡ Number a ∷ drop 1 ts → (n ≡ 0 → ⊥) → left ≡ drop 1 ts → read_number n ts ≡ found (a, n - 1) left
  unfolding read_number
  number_taken a left e z l = one_more_taken too_many_values number n (Number a) a ts left e refl z l

  pub name_refused : starts (of Names) ts ≡ false → read_name n ts ≡ failed None ts
  unfolding read_name
  name_refused e = one_more_refused too_many_values name n (of Names) seen_name ts e

  pub name_over : (a : ℕ) → ts ≡ Name a ∷ drop 1 ts → n ≡ 0 → read_name n ts ≡ failed (Some too_many_values) ts
  unfolding read_name
  name_over a e z = one_more_over too_many_values name n (Name a) a ts e refl z

  pub name_taken : (a : ℕ) (left : List Word) → ts ≡ Name a ∷ drop 1 ts → (n ≡ 0 → ⊥) → left ≡ drop 1 ts → read_name n ts ≡ found (a, n - 1) left
  unfolding read_name
  name_taken a left e z l = one_more_taken too_many_values name n (Name a) a ts left e refl z l

  pub head_refused : HeadAt ts None → read_head n ts ≡ failed None ts
  unfolding read_head
  head_refused h = one_more_refused too_many_values value n head_first seen_value ts (no_head ts h.0 h.1)
    where
      no_head : (us : List Word) → starts (of Numbers) us ≡ false → starts (of Names) us ≡ false → starts head_first us ≡ false
      no_head [] e f = refl
      no_head (w ∷ us) e f = rw (e, f) refl

  pub head_over : (h : Head) → HeadAt ts (Some h) → n ≡ 0 → read_head n ts ≡ failed (Some too_many_values) ts
  unfolding read_head
  head_over (Numeral a) e z = one_more_over too_many_values value n (Number a) (inl a) ts e refl z
  head_over (Naming a) e z = one_more_over too_many_values value n (Name a) (inr a) ts e refl z

  pub head_taken : (h : Head) (left : List Word) → HeadAt ts (Some h) → (n ≡ 0 → ⊥) → left ≡ drop 1 ts → read_head n ts ≡ found (head_of h, n - 1) left
  unfolding read_head
  head_taken (Numeral a) left e z l = one_more_taken too_many_values value n (Number a) (inl a) ts left e refl z l
  head_taken (Naming a) left e z l = one_more_taken too_many_values value n (Name a) (inr a) ts left e refl z l

-- ---- items

module _ (a n : ℕ) (ts : List Word) where
  pub number_alone : starts (of Dashes) ts ≡ false → read_number_rest a n ts ≡ found (One a, n) ts
  unfolding read_number_rest
  number_alone e = rw e refl

  pub range_found : (b m : ℕ) (left : List Word) → starts (of Dashes) ts ≡ true → read_number n (drop 1 ts) ≡ found (b, m) left → read_number_rest a n ts ≡ found (Range a b, m) left
  unfolding read_number_rest
  range_found b m left e f = rw (e, f) refl

  pub range_failed : (k : Option Fault) (left : List Word) → starts (of Dashes) ts ≡ true → read_number n (drop 1 ts) ≡ failed k left → read_number_rest a n ts ≡ failed k left
  unfolding read_number_rest
  range_failed k left e f = rw (e, f) refl

-- the path, where these names of it have been read
pub names_left : ℕ → List ℕ → ℕ → List Word → Outcome Word Fault (Item × ℕ)
names_left a so_far n ts = read_links (Path a) (of Dots) (read_counted_past (of Dots) read_name) so_far n ts

pub names_begin : (a n : ℕ) (ts : List Word) → read_name_rest a n ts ≡ names_left a [] n ts
unfolding names_left read_name_rest
names_begin a n ts = refl

module _ (a n : ℕ) (so_far : List ℕ) (ts : List Word) where
  pub names_step : (b m : ℕ) (left : List Word) → starts (of Dots) ts ≡ true → read_name n (drop 1 ts) ≡ found (b, m) left → names_left a so_far n ts ≡ names_left a (so_far ++ b ∷ []) m left
  unfolding names_left
  names_step b m left e f = links_step (Path a) (of Dots) (read_counted_past (of Dots) read_name) less_name so_far n ts b m left e (rw e f)

  pub names_stop : starts (of Dots) ts ≡ false → names_left a so_far n ts ≡ found (Path a so_far, n) ts
  unfolding names_left
  names_stop e = links_stop (Path a) (of Dots) (read_counted_past (of Dots) read_name) less_name so_far n ts e

  pub names_fail : (k : Option Fault) (left : List Word) → starts (of Dots) ts ≡ true → read_name n (drop 1 ts) ≡ failed k left → names_left a so_far n ts ≡ failed k left
  unfolding names_left
  names_fail k left e f = links_fail (Path a) (of Dots) (read_counted_past (of Dots) read_name) less_name so_far n ts k left e (rw e f)

module _ (n : ℕ) (ts : List Word) where
  pub item_goes_on : (h : ℕ ⊎ ℕ) (m : ℕ) (left : List Word) → read_head n ts ≡ found (h, m) left → read_item n ts ≡ read_rest h m left
  unfolding read_item
  item_goes_on h m left e = rw e refl

  pub item_failed : (k : Option Fault) (left : List Word) → read_head n ts ≡ failed k left → read_item n ts ≡ failed k left
  unfolding read_item
  item_failed k left e = rw e refl

-- ---- lists

module _ (left n : ℕ) (ts : List Word) where
  no_room : (us : List Word) → read_listed (0, n) us ≡ failed (over_first us) us
  unfolding read_listed
  no_room [] = refl
  no_room (Number a ∷ us) = refl
  no_room (Name a ∷ us) = refl
  no_room (Dash ∷ us) = refl
  no_room (Dot ∷ us) = refl
  no_room (Star ∷ us) = refl
  no_room (Comma ∷ us) = refl

  pub listed_over : left ≡ 0 → read_listed (left, n) ts ≡ failed (over_first ts) ts
  listed_over z = rw z (no_room ts)

  pub listed_is : (left ≡ 0 → ⊥) → read_listed (left, n) ts ≡ read_made {B = Item × (ℕ × ℕ)} (λ p. (p.0, (left - 1, p.1))) (read_item n ts)
  unfolding read_listed
  listed_is z = let q : nat_lt 0 left ≡ true = grind (arith, nat_tests) in rw q refl

-- what a function gives as an item, it gives as one of a list
pub listed_gives : (left n : ℕ) (ts : List Word) → (left ≡ 0 → ⊥) → (result : Result Item Stop) (m : ℕ) (behind : List Word) → GivesCounted (read_item n ts) result m behind → GivesCounted (read_listed (left, n) ts) result (left - 1, m) behind
listed_gives left n ts z (Ok a) m behind e = listed_is left n ts z ∙ ap (read_made {B = Item × (ℕ × ℕ)} (λ p. (p.0, (left - 1, p.1)))) e
listed_gives left n ts z (Err k) m behind e = λ u. listed_is left n ts z ∙ ap (read_made {B = Item × (ℕ × ℕ)} (λ p. (p.0, (left - 1, p.1)))) (e u)

-- the items, where these of them have been read
pub items_left : List Item → ℕ → ℕ → List Word → Outcome Word Fault (List Item)
items_left so_far left n ts =
    read_made (λ p. p.0) (read_made {B = List Item × ℕ} (λ p. (p.0, p.1.1)) (read_links (λ all. all) (of Commas) (read_counted_past (of Commas) read_listed) so_far (left, n) ts))

module _ (most values : ℕ) (ts : List Word) where
  pub items_begin : (a : Item) (l m : ℕ) (left : List Word) → read_listed (most, values) ts ≡ found (a, (l, m)) left → read_items most values ts ≡ items_left (a ∷ []) l m left
  unfolding items_left read_items read_listed
  items_begin a l m left e =
      ap (λ o. read_made {B = List Item} (λ p. p.0) (read_made {B = List Item × ℕ} (λ p. (p.0, p.1.1)) o)) (list_begin (of Commas) read_listed (read_counted_past (of Commas) read_listed) (most, values) ts a (l, m) left e)

  pub items_none : (k : Option Fault) (left : List Word) → read_listed (most, values) ts ≡ failed k left → read_items most values ts ≡ failed k left
  unfolding read_items read_listed
  items_none k left e =
      ap (λ o. read_made {B = List Item} (λ p. p.0) (read_made {B = List Item × ℕ} (λ p. (p.0, p.1.1)) o)) (chain_fail (λ a rest. a ∷ rest) (of Commas) read_listed (read_counted_past (of Commas) read_listed) (most, values) ts k left e)

module _ (left n : ℕ) (so_far : List Item) (ts : List Word) where
  abbrev without_counts : Outcome Word Fault (List Item × (ℕ × ℕ)) → Outcome Word Fault (List Item)
  without_counts o = read_made (λ p. p.0) (read_made {B = List Item × ℕ} (λ p. (p.0, p.1.1)) o)

  pub items_step : (a : Item) (l m : ℕ) (behind : List Word) → starts (of Commas) ts ≡ true → read_listed (left, n) (drop 1 ts) ≡ found (a, (l, m)) behind → items_left so_far left n ts ≡ items_left (so_far ++ a ∷ []) l m behind
  unfolding items_left
  items_step a l m behind e f =
      ap without_counts (links_step (λ all. all) (of Commas) (read_counted_past (of Commas) read_listed) less_item so_far (left, n) ts a (l, m) behind e (rw e f))

  pub items_stop : starts (of Commas) ts ≡ false → items_left so_far left n ts ≡ found so_far ts
  unfolding items_left
  items_stop e = ap without_counts (links_stop (λ all. all) (of Commas) (read_counted_past (of Commas) read_listed) less_item so_far (left, n) ts e)

  pub items_fail : (k : Option Fault) (behind : List Word) → starts (of Commas) ts ≡ true → read_listed (left, n) (drop 1 ts) ≡ failed k behind → items_left so_far left n ts ≡ failed k behind
  unfolding items_left
  items_fail k behind e f =
      ap without_counts (links_fail (λ all. all) (of Commas) (read_counted_past (of Commas) read_listed) less_item so_far (left, n) ts k behind e (rw e f))

-- ---- a selection

pub all_unnamed : (ts : List Word) → starts (of Names) ts ≡ false → IsFailed (read_all_of ts)
unfolding read_all_of
all_unnamed [] e = tt
all_unnamed (Number a ∷ ts) e = tt
all_unnamed (Name a ∷ ts) e = let p : true ≡ false = e in cc
all_unnamed (Dash ∷ ts) e = tt
all_unnamed (Dot ∷ ts) e = tt
all_unnamed (Star ∷ ts) e = tt
all_unnamed (Comma ∷ ts) e = tt

module _ (ts : List Word) where
  name_first : (a : ℕ) (us : List Word) → us ≡ Name a ∷ drop 1 us → read_all_of us ≡ read_past (of Dots) (read_past (of Stars) (λ left. found a left)) (drop 1 us)
  unfolding read_all_of
  name_first a [] e = absurd (let p : [] ≡ Name a ∷ [] = e in cc)
  name_first a (w ∷ us) e = let p : w ≡ Name a = cc in rw p refl

  pub all_undotted : (a : ℕ) → ts ≡ Name a ∷ drop 1 ts → starts (of Dots) (drop 1 ts) ≡ false → IsFailed (read_all_of ts)
  all_undotted a e f = rw (name_first a ts e, f) tt

  pub all_unstarred : (a : ℕ) → ts ≡ Name a ∷ drop 1 ts → starts (of Dots) (drop 1 ts) ≡ true → starts (of Stars) (drop 1 (drop 1 ts)) ≡ false → IsFailed (read_all_of ts)
  all_unstarred a e f g = rw (name_first a ts e, f, g) tt

  pub all_taken : (a : ℕ) → ts ≡ Name a ∷ drop 1 ts → starts (of Dots) (drop 1 ts) ≡ true → starts (of Stars) (drop 1 (drop 1 ts)) ≡ true → read_all_of ts ≡ found a (drop 1 (drop 1 (drop 1 ts)))
  all_taken a e f g = rw (name_first a ts e, f, g) refl

  pub selection_all : (most values a : ℕ) (left : List Word) → read_all_of ts ≡ found a left → read_selection most values ts ≡ found (All a) left
  unfolding read_selection
  selection_all most values a left e = rw e refl

  listed_alone : (o : Outcome Word Fault ℕ) (q : Outcome Word Fault Selection) → IsFailed o → unless_found (read_made All o) q ≡ q
  listed_alone (found a left) q f = absurd f
  listed_alone (failed k left) q f = refl

  pub selection_listed : (most values : ℕ) → IsFailed (read_all_of ts) → read_selection most values ts ≡ read_made Listed (read_items most values ts)
  unfolding read_selection
  selection_listed most values f = listed_alone (read_all_of ts) (read_made Listed (read_items most values ts)) f
