-- The items of a record and aggregates are read.
use Rattle.std.proofs.Common.{◌≡◌, ℕ, ◌||◌, Bool, true, false, not, ◌∷◌, Option, Some, None, is_some, refl, sym, ap, ◌∙◌}
use Rattle.std.specs.List.{list_all}
use Rattle.sql_tokens.specs.declared.class.Class.{Class}
use Rattle.sql_tokens.specs.declared.class.Class.TheVariants as k
use Rattle.sql_tokens.specs.Classes.{same_class, all_classes}
use Rattle.sql_tokens.specs.Cutting.{Symbol}
use Rattle.sql_tokens.proofs.ClassLaws.{every, same_is}
use Rattle.sql_grammar.specs.declared.tree.Expr.{Expr}
use Rattle.grammar_rules.specs.Rules.{Rule, terminal, token, made, either, preceded_by, Same}
use Rattle.grammar_rules.specs.Readers.{read_made, read_terminal, is_seen}
use Rattle.grammar_rules.specs.Counted.{plain, given, both, past, chain}
use Rattle.grammar_rules.specs.CountedReaders.{read_plain, read_given, read_both, read_counted_past, read_chain}
use Rattle.grammar_rules.proofs.Clear.{Sight}
use Rattle.grammar_rules.proofs.Sequences.{sequence_sight}
use Rattle.grammar_rules.proofs.Terminals.{closed-terminal}
use Rattle.grammar_rules.proofs.Reading.{past_sight, reads-made}
use Rattle.grammar_rules.proofs.Many.{many_sight}
use Rattle.grammar_rules.proofs.Counts.{CountedReads}
use Rattle.grammar_rules.proofs.CountedMany.{reads-list_of, list_sight}
use Rattle.grammar_rules.proofs.Classes.{agree, apart_by, reads_by}
use Rattle.grammar_rules.proofs.Same.{same_refl, same_sym, same_trans, same-sequence, reads-same}
use Rattle.grammar_rules.proofs.Factoring.{same_factored}
use Rattle.sql_grammar.proofs.Forms.{Told, reads-one_of}
use Rattle.sql_grammar.proofs.Combining.{on, Countable, is, one, seen, seen_or_nothing, seen_those, seen_word, reads_terminal, written, plainly, as_given, in_pair, behind, maybe_so, one_or_other, in_brackets}
use Rattle.sql_grammar.specs.Marks.{Fault, class, of, is_name, begins_expression, name_of, name}
use Rattle.sql_grammar.specs.Expressions.{Counting, word, enclosed, over_class, expression}
use Rattle.sql_grammar.specs.Readers.{read_enclosed, read_expression}
use Rattle.sql_grammar.specs.declared.tree.Agg.{Agg}
use Rattle.sql_grammar.specs.declared.tree.Agg.TheVariants as agg
use Rattle.sql_grammar.specs.declared.tree.Selection.TheVariants as selection
use Rattle.grammar_rules.specs.Rules.{told}
use Rattle.grammar_rules.proofs.Counts.{reads-item, reads-counted_past}
use Rattle.grammar_rules.proofs.CountedMany.{reads-chain}
use Rattle.sql_grammar.specs.Queries.{as_name, row, rows, AggForm, count_form, sum_form, min_form, max_form, avg_form, agg_form, aggregate, agg_of, any_agg, mixed_class, over_first, over_total, total, later_agg, first_total, later_total, totals, items}
use Rattle.sql_grammar.specs.QueryReaders.{read_name, read_as_name, read_row, read_rows, is_agg, read_aggregate, read_counted, read_count, read_agg_of, read_any_agg, read_later_agg, read_total, read_first_total, read_later_total, read_totals, read_items}
use Rattle.sql_grammar.proofs.Sights.{or_sight, or_more}
use Rattle.sql_grammar.proofs.ExpressionReads.{same_truth, seen_over, reads-expression}
use Rattle.sql_grammar.proofs.FactoredCalls.{same_enclosed}

-- ---- names

pub reads-name : Countable (plain (terminal name)) (one is_name) read_name
unfolding read_name
reads-name = plainly (terminal name) (one is_name) (read_terminal name) (reads_terminal name is_name (seen_those is_name name_of))

abbrev as_sight : Sight Class
as_sight = seen_or_nothing (is k.As) (is k.As)

pub reads-as_name : Countable as_name as_sight read_as_name
unfolding read_as_name same_class
reads-as_name =
    maybe_so (past (of k.As) (plain (terminal name))) (one (is k.As)) as_sight (read_counted_past (of k.As) read_name) refl refl
    (behind (is k.As) (plain (terminal name)) (one is_name) read_name reads-name)

-- ---- items of a record

abbrev row_sight : Sight Class
row_sight = seen begins_expression (λ c. is k.As c || or_more c)

pub reads-row : Countable row row_sight read_row
unfolding read_row same_class
reads-row =
    as_given (λ p. record { expr = p.0; name = p.1 }) (both (expression 64) as_name) row_sight (read_both (read_expression 64) read_as_name)
    (in_pair (expression 64) as_name or_sight as_sight row_sight (read_expression 64) read_as_name refl refl (reads-expression 64) reads-as_name)

abbrev pub rows_sight : Sight Class
rows_sight = seen begins_expression (λ c. is k.Comma c || (is k.As c || or_more c))

pub reads-rows : Countable rows rows_sight read_rows
unfolding read_rows same_class
reads-rows =
    written rows (list_sight row_sight (is k.Comma)) rows_sight read_rows refl
    (λ n. reads-list_of 256 (λ s. over_class true (class s)) (of k.Comma) row (on row_sight) read_row reads-row refl (λ s. seen_over true (class s)) (apart_by class all_classes every row_sight (one (is k.Comma)) refl) n)

-- ---- aggregates

reads-aggregate : (c : Class) (node : Expr → Agg) → Countable (aggregate c node) (one (is c)) (read_aggregate c node)
unfolding read_aggregate same_class
reads-aggregate c node =
    behind (is c) (enclosed true (given node (expression 63))) (one (is k.LeftParenthesis)) (read_enclosed true (read_given node (read_expression 63)))
    (in_brackets true (given node (expression 63)) or_sight (read_given node (read_expression 63)) refl refl (as_given node (expression 63) or_sight (read_expression 63) (reads-expression 63)))

abbrev star_counted : Counting Agg
star_counted = plain (made (λ s. agg.CountAll) (token (of k.Star)))

abbrev counted : Counting Agg
counted n = either (star_counted n) (given agg.Count (expression 63) n)

abbrev counted_sight : Sight Class
counted_sight = seen (λ c. is k.Star c || begins_expression c) or_more

reads-counted : Countable counted counted_sight read_counted
unfolding read_counted same_class
reads-counted =
    one_or_other star_counted (given agg.Count (expression 63)) (one (is k.Star)) or_sight counted_sight (read_plain (λ ts. read_made (λ s. agg.CountAll) (read_terminal (word k.Star) ts))) (read_given agg.Count (read_expression 63)) refl refl refl refl
    (plainly (made (λ s. agg.CountAll) (token (of k.Star))) (one (is k.Star)) (λ ts. read_made (λ s. agg.CountAll) (read_terminal (word k.Star) ts))
    (reads-made (λ s. agg.CountAll) (token (of k.Star)) (on (one (is k.Star))) (read_terminal (word k.Star)) (reads_terminal (word k.Star) (is k.Star) (seen_word k.Star))))
    (as_given agg.Count (expression 63) or_sight (read_expression 63) (reads-expression 63))

abbrev count_factored : Counting Agg
count_factored = past (of k.CountCalled) (enclosed true counted)

same_count : (n : ℕ) → Same (agg_of count_form n) (count_factored n)
same_count n =
    let T : Rule Symbol Fault Symbol = token (of k.CountCalled) in
    let A : Rule Symbol Fault (Agg × ℕ) = enclosed true star_counted n in
    let B : Rule Symbol Fault (Agg × ℕ) = enclosed true (given agg.Count (expression 63)) n in
    let once : Rule Symbol Fault (Agg × ℕ) = preceded_by T (either A B) in
    same_trans (agg_of count_form n) once (count_factored n)
    (same_factored T (λ s. A) (λ s. B) (closed-terminal (word k.CountCalled)))
    (same-sequence T T (λ s. either A B) (λ s. enclosed true counted n) (same_refl T)
    (λ s. same_enclosed true star_counted (given agg.Count (expression 63)) counted n (same_refl (counted n))))

reads-count : Countable (agg_of count_form) (one (is k.CountCalled)) read_count
unfolding read_count same_class
reads-count n =
    reads-same (count_factored n) (agg_of count_form n) (same_sym (agg_of count_form n) (count_factored n) (same_count n)) (on (one (is k.CountCalled))) (read_count n)
    (behind (is k.CountCalled) (enclosed true counted) (one (is k.LeftParenthesis)) (read_enclosed true read_counted)
    (in_brackets true counted counted_sight read_counted refl refl reads-counted) n)

abbrev agg_class : AggForm → Class
agg_class count_form = k.CountCalled
agg_class sum_form = k.SumCalled
agg_class min_form = k.MinCalled
agg_class max_form = k.MaxCalled
agg_class avg_form = k.AvgCalled

reads-agg_of : (f : AggForm) → Countable (agg_of f) (one (is (agg_class f))) (read_agg_of f)
reads-agg_of count_form = reads-count
reads-agg_of sum_form = reads-aggregate k.SumCalled agg.Sum
reads-agg_of min_form = reads-aggregate k.MinCalled agg.Min
reads-agg_of max_form = reads-aggregate k.MaxCalled agg.Max
reads-agg_of avg_form = reads-aggregate k.AvgCalled agg.Avg

form_of_class : (f : AggForm) → agg_form (agg_class f) ≡ Some f
form_of_class count_form = refl
form_of_class sum_form = refl
form_of_class min_form = refl
form_of_class max_form = refl
form_of_class avg_form = refl

abbrev is_agg_form : AggForm → Option AggForm → Bool
is_agg_form f None = false
is_agg_form count_form (Some count_form) = true
is_agg_form sum_form (Some sum_form) = true
is_agg_form min_form (Some min_form) = true
is_agg_form max_form (Some max_form) = true
is_agg_form avg_form (Some avg_form) = true
is_agg_form f (Some g) = false

self_form : (f : AggForm) → is_agg_form f (Some f) ≡ true
self_form = elim [ count_form ↦ refl | sum_form ↦ refl | min_form ↦ refl | max_form ↦ refl | avg_form ↦ refl ]

implied : (a b : Bool) → (not a || b) ≡ true → a ≡ true → b ≡ true
implied true b h q = h
implied false b h q = cc

form_all : (f : AggForm) → list_all (λ c. not (is_agg_form f (agg_form c)) || same_class (agg_class f) c) all_classes ≡ true
unfolding same_class
form_all = elim [ count_form ↦ refl | sum_form ↦ refl | min_form ↦ refl | max_form ↦ refl | avg_form ↦ refl ]

form_back : (f : AggForm) (c : Class) → agg_form c ≡ Some f → same_class (agg_class f) c ≡ true
form_back f c h = implied (is_agg_form f (agg_form c)) (same_class (agg_class f) c) (every (λ d. not (is_agg_form f (agg_form d)) || same_class (agg_class f) d) (form_all f) c) (rw h (self_form f))

form_there : (f : AggForm) (c : Class) → same_class (agg_class f) c ≡ true → agg_form c ≡ Some f
form_there f c h = sym (ap agg_form (same_is (agg_class f) c h)) ∙ form_of_class f

agg_told : Told (λ f. on (one (is (agg_class f)))) (λ s. agg_form (class s)) (λ s. false)
agg_told = record {
  begins = λ f s h. form_there f (class s) h;
  tells = λ f s h. form_back f (class s) h;
  wants = λ f. refl;
  more = λ f s h. h;
}

pub reads-any_agg : Countable any_agg (one is_agg) read_any_agg
unfolding any_agg read_any_agg
reads-any_agg n =
    reads-one_of (λ f. agg_of f n) (λ f. on (one (is (agg_class f)))) (λ s. agg_form (class s)) (λ s. false) (λ f. read_agg_of f n) agg_told (λ f. reads-agg_of f n)

-- ---- lists of aggregates

abbrev total_sight : Sight Class
total_sight = seen is_agg (is k.As)

reads-first : Countable (total any_agg) total_sight (read_total read_any_agg)
unfolding same_class
reads-first =
    as_given (λ p. record { agg = p.0; name = p.1 }) (both any_agg as_name) total_sight (read_both read_any_agg read_as_name)
    (in_pair any_agg as_name (one is_agg) as_sight total_sight read_any_agg read_as_name refl refl reads-any_agg reads-as_name)

seen_told : (A : Type 0) (o : Option Fault) → is_seen {A = A} (told o) ≡ is_some o
seen_told A None = refl
seen_told A (Some j) = refl

mixed_all : list_all (λ c. agree (is_some (mixed_class c)) (begins_expression c)) all_classes ≡ true
mixed_all = refl

seen_mixed : (c : Class) → is_some (mixed_class c) ≡ begins_expression c
seen_mixed c = same_truth (is_some (mixed_class c)) (begins_expression c) (every (λ d. agree (is_some (mixed_class d)) (begins_expression d)) mixed_all c)

abbrev pub later_first : Class → Bool
later_first c = is_agg c || begins_expression c

over_all : list_all (λ c. agree (is_some (over_total c)) (later_first c)) all_classes ≡ true
over_all = refl

seen_over_total : (c : Class) → is_some (over_total c) ≡ later_first c
seen_over_total c = same_truth (is_some (over_total c)) (later_first c) (every (λ d. agree (is_some (over_total d)) (later_first d)) over_all c)

seen_over_first : (o : Option AggForm) → is_some (over_first o) ≡ is_some o
seen_over_first None = refl
seen_over_first (Some f) = refl

abbrev mixed_agg : Counting Agg
mixed_agg = plain (terminal (λ s. told (mixed_class (class s))))

reads-later_agg : Countable later_agg (one later_first) read_later_agg
unfolding read_later_agg
reads-later_agg =
    one_or_other any_agg mixed_agg (one is_agg) (one begins_expression) (one later_first) read_any_agg (read_plain (read_terminal (λ s. told (mixed_class (class s))))) refl refl refl refl
    reads-any_agg
    (plainly (terminal (λ s. told (mixed_class (class s)))) (one begins_expression) (read_terminal (λ s. told (mixed_class (class s))))
    (reads_terminal (λ s. told (mixed_class (class s))) begins_expression (λ s. seen_told Agg (mixed_class (class s)) ∙ seen_mixed (class s))))

abbrev later_sight : Sight Class
later_sight = seen later_first (is k.As)

reads-later : Countable (total later_agg) later_sight (read_total read_later_agg)
unfolding same_class
reads-later =
    as_given (λ p. record { agg = p.0; name = p.1 }) (both later_agg as_name) later_sight (read_both read_later_agg read_as_name)
    (in_pair later_agg as_name (one later_first) as_sight later_sight read_later_agg read_as_name refl refl reads-later_agg reads-as_name)

reads-first_total : CountedReads first_total (on total_sight) read_first_total
unfolding read_first_total
reads-first_total = reads-item (λ s. over_first (agg_form (class s))) (total any_agg) (on total_sight) (read_total read_any_agg) reads-first refl (λ s. seen_over_first (agg_form (class s)))

pub reads-later_total : CountedReads (past (of k.Comma) later_total) (on (past_sight (is k.Comma) later_sight)) (read_counted_past (of k.Comma) read_later_total)
unfolding read_later_total
reads-later_total =
    reads-counted_past (of k.Comma) later_total (on later_sight) read_later_total
    (reads-item (λ s. over_total (class s)) (total later_agg) (on later_sight) (read_total read_later_agg) reads-later refl (λ s. seen_over_total (class s)))

abbrev pub totals_sight : Sight Class
totals_sight = seen is_agg (λ c. is k.Comma c || is k.As c)

abbrev comma_sight : Sight Class
comma_sight = past_sight (is k.Comma) later_sight

pub reads-totals : Countable totals totals_sight read_totals
unfolding read_totals same_class
reads-totals n =
    reads_by class all_classes every (sequence_sight total_sight (many_sight comma_sight)) (totals n) totals_sight (read_totals n) refl
    (reads-made (λ p. (p.0, p.1.1)) (chain (λ a rest. a ∷ rest) first_total (past (of k.Comma) later_total) (256, n)) (on (sequence_sight total_sight (many_sight comma_sight))) (read_chain (λ a rest. a ∷ rest) (of k.Comma) read_first_total (read_counted_past (of k.Comma) read_later_total) (256, n))
    (reads-chain (λ a rest. a ∷ rest) first_total (past (of k.Comma) later_total) (on total_sight) (on comma_sight) read_first_total (read_counted_past (of k.Comma) read_later_total)
    reads-first_total reads-later_total refl (apart_by class all_classes every comma_sight comma_sight refl) (apart_by class all_classes every total_sight comma_sight refl) (256, n)))

abbrev pub items_sight : Sight Class
items_sight = seen (λ c. begins_expression c || is_agg c) (λ c. is k.Comma c || (is k.As c || or_more c))

pub reads-items : Countable items items_sight read_items
unfolding read_items same_class
reads-items =
    one_or_other (given selection.Rows rows) (given selection.Totals totals) rows_sight totals_sight items_sight (read_given selection.Rows read_rows) (read_given selection.Totals read_totals) refl refl refl refl
    (as_given selection.Rows rows rows_sight read_rows reads-rows) (as_given selection.Totals totals totals_sight read_totals reads-totals)
