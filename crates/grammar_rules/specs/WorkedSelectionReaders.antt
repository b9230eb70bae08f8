-- The readers of the grammar of selections, which mirror its rules; of an item, whose alternatives begin alike, they mirror the factored
-- rule.
use Rattle.std.specs.Prelude.{ℕ, ◌⊎◌, List, []}
use mathlib.Core.Logic.{inl, inr}
use Rattle.grammar_rules.specs.declared.worked.selections.Word.{Word}
use Rattle.grammar_rules.specs.declared.worked.selections.Class.TheVariants.{Dashes, Dots, Stars, Commas}
use Rattle.grammar_rules.specs.declared.worked.selections.Item.{Item}
use Rattle.grammar_rules.specs.declared.worked.selections.Item.TheVariants.{One, Range, Path}
use Rattle.grammar_rules.specs.declared.worked.selections.Selection.{Selection}
use Rattle.grammar_rules.specs.declared.worked.selections.Selection.TheVariants.{All, Listed}
use Rattle.grammar_rules.specs.Rules.{Verdict, made, either, nothing}
use Rattle.grammar_rules.specs.Factored.{merged}
use Rattle.grammar_rules.specs.Counted.{Counted, one_more, past, after, many_from}
use Rattle.grammar_rules.specs.Readers.{Outcome, found, read_made, read_begun, read_past, chosen, starts, read_ahead}
use Rattle.grammar_rules.specs.CountedReaders.{CountedReader, read_one_more, read_after, read_counted_past, read_links, read_item as read_one_of, read_list_of}
use Rattle.grammar_rules.specs.WorkedSelections.{Fault, too_many_values, of, number, name, a_number, a_name, over}

-- ---- the factored rule of an item

-- a number or a name, which is counted
abbrev pub value : Word → Verdict Fault (ℕ ⊎ ℕ)
value w = merged (number w) (name w)

abbrev pub head : Counted ℕ Word Fault (ℕ ⊎ ℕ)
head = one_more too_many_values value

-- what follows a number, and what follows a name
abbrev pub number_rest : ℕ → Counted ℕ Word Fault Item
number_rest a n = either (made (λ q. (Range a q.0, q.1)) (past (of Dashes) a_number n)) (nothing (One a, n))

abbrev pub name_rest : ℕ → Counted ℕ Word Fault Item
name_rest a n = made (λ q. (Path a q.0, q.1)) (many_from (past (of Dots) a_name) n)

abbrev pub rest : ℕ ⊎ ℕ → Counted ℕ Word Fault Item
rest (inl a) = number_rest a
rest (inr a) = name_rest a

abbrev pub factored_item : Counted ℕ Word Fault Item
factored_item = after head rest

-- ---- readers

unfoldable pub read_number : CountedReader ℕ Word Fault ℕ
read_number = read_one_more too_many_values number

unfoldable pub read_name : CountedReader ℕ Word Fault ℕ
read_name = read_one_more too_many_values name

unfoldable pub read_head : CountedReader ℕ Word Fault (ℕ ⊎ ℕ)
read_head = read_one_more too_many_values value

unfoldable pub read_number_rest : ℕ → CountedReader ℕ Word Fault Item
read_number_rest a n ts = chosen (starts (of Dashes) ts) (read_made (λ q. (Range a q.0, q.1)) (read_counted_past (of Dashes) read_number n ts)) (found (One a, n) ts)

unfoldable pub read_name_rest : ℕ → CountedReader ℕ Word Fault Item
read_name_rest a n ts = read_links (Path a) (of Dots) (read_counted_past (of Dots) read_name) [] n ts

abbrev pub read_rest : ℕ ⊎ ℕ → CountedReader ℕ Word Fault Item
read_rest (inl a) = read_number_rest a
read_rest (inr a) = read_name_rest a

unfoldable pub read_item : CountedReader ℕ Word Fault Item
read_item = read_after read_head read_rest

-- an item of a list in which so many may still come
unfoldable pub read_listed : CountedReader (ℕ × ℕ) Word Fault Item
read_listed = read_one_of over read_item

unfoldable pub read_items : ℕ → ℕ → List Word → Outcome Word Fault (List Item)
read_items most values ts = read_made (λ p. p.0) (read_list_of most over (of Commas) read_item values ts)

unfoldable pub read_all_of : List Word → Outcome Word Fault ℕ
read_all_of = read_begun name (λ a. read_past (of Dots) (read_past (of Stars) (λ ts. found a ts)))

unfoldable pub read_selection : ℕ → ℕ → List Word → Outcome Word Fault Selection
read_selection most values ts = read_ahead (λ us. read_made Listed (read_items most values us)) (λ us. read_made All (read_all_of us)) ts
