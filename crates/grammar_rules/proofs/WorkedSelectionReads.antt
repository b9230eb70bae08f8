-- The readers of the grammar of selections read its rules: each side condition is a test over all classes.
use Rattle.std.proofs.Common.{◌≡◌, ℕ, ◌-◌, nat_lt, ◌||◌, ◌&&◌, ◌⊎◌, Bool, true, false, is_some, refl, inl, inr}
use Rattle.grammar_rules.specs.declared.worked.selections.Word.{Word}
use Rattle.grammar_rules.specs.declared.worked.selections.Word.TheVariants.{Number, Name, Dash, Dot, Star, Comma}
use Rattle.grammar_rules.specs.declared.worked.selections.Class.{Class}
use Rattle.grammar_rules.specs.declared.worked.selections.Class.TheVariants.{Numbers, Names, Dashes, Dots, Stars, Commas}
use Rattle.grammar_rules.specs.declared.worked.selections.Item.{Item}
use Rattle.grammar_rules.specs.declared.worked.selections.Item.TheVariants.{One, Range, Path}
use Rattle.grammar_rules.specs.Rules.{Rule, Verdict, limited, terminal, nothing, made, begun, either, Same}
use Rattle.grammar_rules.specs.Factored.{merged, either_of}
use Rattle.grammar_rules.specs.Counted.{given, past, many_from, list_of, item as counted_item}
use Rattle.grammar_rules.specs.Readers.{found, read_made, is_seen}
use Rattle.grammar_rules.specs.CountedReaders.{read_counted_past, read_many_from, read_links, read_item as read_one_of, read_list_of}
use Rattle.grammar_rules.specs.WorkedSelections.{Fault, too_many_values, class_of, number_of, all_classes, is, of, number, name, a_number, a_name, range, path, item, over, items}
use Rattle.grammar_rules.specs.WorkedSelectionReaders.{value, head, number_rest, name_rest, rest, factored_item, read_number, read_name, read_head, read_number_rest, read_name_rest, read_rest, read_item, read_listed, read_items}
use Rattle.grammar_rules.proofs.Clear.{Sight}
use Rattle.grammar_rules.proofs.Terminals.{nothing_sight, closed-terminal}
use Rattle.grammar_rules.proofs.Reading.{Reads, token_sight, past_sight, reads-nothing, reads-made}
use Rattle.grammar_rules.proofs.Choices.{either_sight, reads-either}
use Rattle.grammar_rules.proofs.Many.{many_sight}
use Rattle.grammar_rules.proofs.Counts.{CountedReads, seen_limited, reads-one_more, reads-counted_past, reads-item as reads-one_of}
use Rattle.grammar_rules.proofs.CountedMany.{CountedShrinks, counted_shrinks, reads-many_from, list_sight, reads-list_of}
use Rattle.grammar_rules.proofs.Begun.{reads-counted_begun}
use Rattle.grammar_rules.proofs.Classes.{by_class, Every, every_at, apart_by, distinct_by, more_by, reads_by}
use Rattle.grammar_rules.proofs.Same.{same_refl, same_sym, same_trans, same-either, same-sequence, reads-same}
use Rattle.grammar_rules.proofs.Factoring.{same_made_first, same_one_and, same_one_alone, same_then_optional}
use Rattle.grammar_rules.proofs.Merging.{same_merged, same_terminal, merged_limited}

every : Every all_classes
every = every_at all_classes number_of (elim [ Numbers ↦ refl | Names ↦ refl | Dashes ↦ refl | Dots ↦ refl | Stars ↦ refl | Commas ↦ refl ])

abbrev pub on : Sight Class → Sight Word
on s = by_class class_of s

-- ---- values

pub seen_number : (w : Word) → is_seen (number w) ≡ of Numbers w
seen_number = elim [ Number n ↦ refl | Name n ↦ refl | Dash ↦ refl | Dot ↦ refl | Star ↦ refl | Comma ↦ refl ]

pub seen_name : (w : Word) → is_seen (name w) ≡ of Names w
seen_name = elim [ Number n ↦ refl | Name n ↦ refl | Dash ↦ refl | Dot ↦ refl | Star ↦ refl | Comma ↦ refl ]

pub reads-number : CountedReads a_number (token_sight (of Numbers)) read_number
unfolding read_number
reads-number = reads-one_more too_many_values number (of Numbers) seen_number

pub reads-name : CountedReads a_name (token_sight (of Names)) read_name
unfolding read_name
reads-name = reads-one_more too_many_values name (of Names) seen_name

-- ---- items

abbrev number_rest_sight : Sight Class
number_rest_sight = record { first = λ c. is Dashes c; null = true; more = λ c. is Dashes c }

abbrev name_rest_sight : Sight Class
name_rest_sight = record { first = λ c. is Dots c; null = true; more = λ c. is Dots c }

abbrev dash_sight : Sight Class
dash_sight = record { first = λ c. is Dashes c; null = false; more = λ c. false }

abbrev dot_sight : Sight Class
dot_sight = record { first = λ c. is Dots c; null = false; more = λ c. false }

reads-number_rest : (a : ℕ) → CountedReads (number_rest a) (on number_rest_sight) (read_number_rest a)
unfolding read_number_rest
reads-number_rest a n =
    reads_by class_of all_classes every (either_sight dash_sight nothing_sight)
    (number_rest a n) number_rest_sight (read_number_rest a n) refl
    (reads-either (made (λ q. (Range a q.0, q.1)) (past (of Dashes) a_number n)) (nothing (One a, n)) (on dash_sight) nothing_sight
    (λ ts. read_made (λ q. (Range a q.0, q.1)) (read_counted_past (of Dashes) read_number n ts)) (λ ts. found (One a, n) ts)
    (reads-made (λ q. (Range a q.0, q.1)) (past (of Dashes) a_number n) (on dash_sight) (read_counted_past (of Dashes) read_number n)
    (reads-counted_past (of Dashes) a_number (token_sight (of Numbers)) read_number reads-number n))
    (reads-nothing (One a, n)) (distinct_by class_of all_classes every dash_sight nothing_sight refl) refl)

reads-name_rest : (a : ℕ) → CountedReads (name_rest a) (on name_rest_sight) (read_name_rest a)
unfolding read_name_rest read_links
reads-name_rest a n =
    reads_by class_of all_classes every (many_sight dot_sight)
    (name_rest a n) name_rest_sight (read_name_rest a n) refl
    (reads-made (λ q. (Path a q.0, q.1)) (many_from (past (of Dots) a_name) n) (on (many_sight dot_sight)) (read_many_from (of Dots) (read_counted_past (of Dots) read_name) n)
    (reads-many_from (past (of Dots) a_name) (on dot_sight) (read_counted_past (of Dots) read_name)
    (reads-counted_past (of Dots) a_name (token_sight (of Names)) read_name reads-name) refl (λ x. refl) n))

abbrev rest_sight : ℕ ⊎ ℕ → Sight Class
rest_sight (inl a) = number_rest_sight
rest_sight (inr a) = name_rest_sight

reads-rest : (h : ℕ ⊎ ℕ) → CountedReads (rest h) (on (rest_sight h)) (read_rest h)
reads-rest (inl a) = reads-number_rest a
reads-rest (inr a) = reads-name_rest a

abbrev pub head_first : Word → Bool
head_first w = of Numbers w || of Names w

pub seen_value : (w : Word) → is_seen (value w) ≡ head_first w
seen_value = elim [ Number n ↦ refl | Name n ↦ refl | Dash ↦ refl | Dot ↦ refl | Star ↦ refl | Comma ↦ refl ]

reads-head : CountedReads head (token_sight head_first) read_head
unfolding read_head
reads-head = reads-one_more too_many_values value head_first seen_value

abbrev pub item_sight : Sight Class
item_sight = record { first = λ c. is Numbers c || is Names c; null = false; more = λ c. is Dashes c || is Dots c }

rest_more : (h : ℕ ⊎ ℕ) (w : Word) → (rest_sight h).more (class_of w) ≡ true → item_sight.more (class_of w) ≡ true
rest_more (inl a) w e = more_by class_of all_classes every number_rest_sight item_sight.more refl w e
rest_more (inr a) w e = more_by class_of all_classes every name_rest_sight item_sight.more refl w e

reads-factored_item : CountedReads factored_item (on item_sight) read_item
unfolding read_item
reads-factored_item =
    reads-counted_begun head rest (λ h. on (rest_sight h)) read_head read_rest head_first reads-head reads-rest (λ w. item_sight.more (class_of w)) rest_more

-- ---- the factored rule says what the rule says

abbrev number_look : ℕ → Word → Verdict Fault ℕ
number_look n w = limited too_many_values (nat_lt 0 n) (number w)

abbrev name_look : ℕ → Word → Verdict Fault ℕ
name_look n w = limited too_many_values (nat_lt 0 n) (name w)

off_looks : (n : ℕ) (w : Word) → (is_seen (number_look n w) && is_seen (name_look n w)) ≡ false
off_looks n w =
    rw (seen_limited too_many_values (nat_lt 0 n) (number w), seen_limited too_many_values (nat_lt 0 n) (name w), seen_number w, seen_name w)
    (distinct_by class_of all_classes every (record { first = λ c. is Numbers c; null = false; more = λ c. false }) (record { first = λ c. is Names c; null = false; more = λ c. false }) refl w)

number_or_range : (n : ℕ) → Same (either (range n) (given One a_number n)) (begun (number_look n) (λ a. number_rest a (n - 1)))
number_or_range n =
    same_trans (either (range n) (given One a_number n)) (either (begun (number_look n) (λ a. made (λ q. (Range a q.0, q.1)) (past (of Dashes) a_number (n - 1)))) (made (λ a. (One a, n - 1)) (terminal (number_look n)))) (begun (number_look n) (λ a. number_rest a (n - 1)))
    (same-either (range n) (begun (number_look n) (λ a. made (λ q. (Range a q.0, q.1)) (past (of Dashes) a_number (n - 1)))) (given One a_number n) (made (λ a. (One a, n - 1)) (terminal (number_look n)))
    (same_one_and too_many_values number (past (of Dashes) a_number) (λ p. Range p.0 p.1) n) (same_one_alone too_many_values number One n))
    (same_then_optional (terminal (number_look n)) (λ a. made (λ q. (Range a q.0, q.1)) (past (of Dashes) a_number (n - 1))) (λ a. (One a, n - 1)) (closed-terminal (number_look n)))

path_begun : (n : ℕ) → Same (path n) (begun (name_look n) (λ a. name_rest a (n - 1)))
path_begun n = same_one_and too_many_values name (many_from (past (of Dots) a_name)) (λ p. Path p.0 p.1) n

same_rest : (n : ℕ) (h : ℕ ⊎ ℕ) → Same (either_of (λ a. number_rest a (n - 1)) (λ a. name_rest a (n - 1)) h) (rest h (n - 1))
same_rest n (inl a) = same_refl (number_rest a (n - 1))
same_rest n (inr a) = same_refl (name_rest a (n - 1))

pub same_item : (n : ℕ) → Same (item n) (factored_item n)
unfolding item
same_item n =
    let one_choice : Rule Word Fault (Item × ℕ) = begun (λ w. merged (number_look n w) (name_look n w)) (either_of (λ a. number_rest a (n - 1)) (λ a. name_rest a (n - 1))) in
    let head_look : Word → Verdict Fault (ℕ ⊎ ℕ) = λ w. limited too_many_values (nat_lt 0 n) (value w) in
    let two_choices : Rule Word Fault (Item × ℕ) = either (begun (number_look n) (λ a. number_rest a (n - 1))) (begun (name_look n) (λ a. name_rest a (n - 1))) in
    same_trans (item n) two_choices (factored_item n)
    (same-either (either (range n) (given One a_number n)) (begun (number_look n) (λ a. number_rest a (n - 1))) (path n) (begun (name_look n) (λ a. name_rest a (n - 1))) (number_or_range n) (path_begun n))
    (same_trans two_choices one_choice (factored_item n)
    (same_merged (number_look n) (name_look n) (λ a. number_rest a (n - 1)) (λ a. name_rest a (n - 1)) (off_looks n))
    (same_trans one_choice (begun head_look (λ h. rest h (n - 1))) (factored_item n)
    (same-sequence (terminal (λ w. merged (number_look n w) (name_look n w))) (terminal head_look) (either_of (λ a. number_rest a (n - 1)) (λ a. name_rest a (n - 1))) (λ h. rest h (n - 1))
    (same_terminal (λ w. merged (number_look n w) (name_look n w)) head_look (λ w. merged_limited too_many_values (nat_lt 0 n) (number w) (name w))) (same_rest n))
    (same_sym (factored_item n) (begun head_look (λ h. rest h (n - 1))) (same_made_first (λ h. (h, n - 1)) (terminal head_look) (λ p. rest p.0 p.1)))))

pub reads-item : CountedReads item (on item_sight) read_item
reads-item n = reads-same (factored_item n) (item n) (same_sym (item n) (factored_item n) (same_item n)) (on item_sight) (read_item n) (reads-factored_item n)

-- ---- selections

seen_over : (w : Word) → is_some (over w) ≡ item_sight.first (class_of w)
seen_over = elim [ Number n ↦ refl | Name n ↦ refl | Dash ↦ refl | Dot ↦ refl | Star ↦ refl | Comma ↦ refl ]

abbrev comma_sight : Sight Class
comma_sight = record { first = λ c. is Commas c; null = false; more = λ c. false }

abbrev pub items_sight : Sight Class
items_sight = record { first = item_sight.first; null = false; more = λ c. is Commas c || (is Dashes c || is Dots c) }

pub reads-items : (most values : ℕ) → Reads (items most values) (on items_sight) (read_items most values)
unfolding read_items
reads-items most values =
    reads-made (λ p. p.0) (list_of most over (of Commas) item values) (on items_sight) (read_list_of most over (of Commas) read_item values)
    (reads_by class_of all_classes every (list_sight item_sight (λ c. is Commas c)) (list_of most over (of Commas) item values) items_sight (read_list_of most over (of Commas) read_item values) refl
    (reads-list_of most over (of Commas) item (on item_sight) read_item reads-item refl seen_over (apart_by class_of all_classes every item_sight comma_sight refl) values))

-- a part of a path, and an item behind a comma, leave less
pub less_name : CountedShrinks (read_counted_past (of Dots) read_name)
less_name = counted_shrinks (past (of Dots) a_name) (on dot_sight) (read_counted_past (of Dots) read_name) (reads-counted_past (of Dots) a_name (token_sight (of Names)) read_name reads-name) refl

pub less_item : CountedShrinks (read_counted_past (of Commas) read_listed)
unfolding read_listed
less_item =
    counted_shrinks (past (of Commas) (counted_item over item)) (past_sight (of Commas) (on item_sight)) (read_counted_past (of Commas) (read_one_of over read_item))
    (reads-counted_past (of Commas) (counted_item over item) (on item_sight) (read_one_of over read_item) (reads-one_of over item (on item_sight) read_item reads-item refl seen_over)) refl
