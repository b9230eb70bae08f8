-- The source, the filter and the end of a query are read.
use Rattle.std.proofs.Common.{◌≡◌, ℕ, ◌||◌, Bool, true, List, [], ◌∷◌, Option, is_some, refl, if◌then◌else◌}
use Rattle.std.specs.List.{list_all}
use Rattle.sql_tokens.specs.declared.class.Class.{Class}
use Rattle.sql_tokens.specs.declared.class.Class.TheVariants as k
use Rattle.sql_tokens.specs.Classes.{same_class, all_classes}
use Rattle.sql_tokens.specs.Cutting.{Symbol}
use Rattle.sql_tokens.proofs.ClassLaws.{every}
use Rattle.sql_grammar.specs.declared.tree.Expr.{Expr}
use Rattle.grammar_rules.specs.Rules.{Rule, takes, refuses, terminal, token, nothing, made, either, optional, preceded_by, Same}
use Rattle.grammar_rules.specs.Readers.{found, read_made, read_terminal, read_past, read_either, read_optional}
use Rattle.grammar_rules.specs.Counted.{plain, given, both, after, past, before, many_from, item}
use Rattle.grammar_rules.specs.CountedReaders.{read_plain, read_given, read_both, read_after, read_counted_past}
use Rattle.grammar_rules.proofs.Clear.{Sight}
use Rattle.grammar_rules.proofs.Sequences.{sequence_sight}
use Rattle.grammar_rules.proofs.Terminals.{nothing_sight, closed-terminal}
use Rattle.grammar_rules.proofs.Reading.{past_sight, reads-nothing, reads-made, reads-past, reads-sequence}
use Rattle.grammar_rules.proofs.Choices.{optional_sight, reads-optional}
use Rattle.grammar_rules.proofs.Many.{many_sight}
use Rattle.grammar_rules.proofs.Classes.{seen_in, agree, apart_by, reads_by}
use Rattle.grammar_rules.proofs.Same.{same_refl, same_sym, same_trans, same-either, reads-same}
use Rattle.grammar_rules.proofs.Factoring.{same_factored, same_in_a_row, same_swapped}
use Rattle.sql_grammar.proofs.Regrouping.{same_grouped, same_shared}
use Rattle.sql_grammar.proofs.Combining.{on, Readable, Countable, is, one, seen, seen_or_nothing, seen_those, seen_word, seen_digits, reads_terminal, plainly, as_given, in_pair, behind, closed, maybe_so, one_or_other, in_turn}
use Rattle.sql_grammar.specs.Marks.{Fault, class, of, is_name, name_of, name, digits}
use Rattle.sql_grammar.specs.Expressions.{Counting, word, expression}
use Rattle.sql_grammar.specs.Readers.{Reader, begins, is_step, read_expression}
use Rattle.sql_grammar.specs.declared.tree.Name.{Name}
use Rattle.sql_grammar.specs.declared.tree.Step.{Step}
use Rattle.sql_grammar.specs.declared.tree.Step.TheVariants as step
use Rattle.grammar_rules.specs.CountedReaders.{read_many_from, read_item}
use Rattle.grammar_rules.proofs.Counts.{reads-item}
use Rattle.grammar_rules.proofs.CountedMany.{reads-many_from}
use Rattle.sql_grammar.specs.Marks.{is_source}
use Rattle.sql_grammar.specs.Queries.{named_step, element_step, all_step, own_step, source_step, over_step, steps, source_steps, alias, source, filter, ending}
use Rattle.sql_grammar.specs.QueryReaders.{read_name, read_named_step, read_element_rest, read_all_rest, read_step, read_steps, read_own_steps, read_bracket_steps, read_source_steps, begins_alias, read_alias, read_source, read_filter, read_limit, read_ending, read_behind_list}
use Rattle.sql_grammar.proofs.Sights.{or_sight, or_more}
use Rattle.sql_grammar.proofs.ExpressionReads.{same_truth, reads-expression}
use Rattle.sql_grammar.proofs.ItemReads.{reads-name}

-- ---- steps

abbrev element_rest : Counting Step
element_rest = before (plain (made step.Element (terminal digits))) (of k.RightBracket)

abbrev all_rest : Counting Step
all_rest = before (plain (made (λ s. step.All) (token (of k.Star)))) (of k.RightBracket)

reads-named_step : Countable named_step (one (is k.Dot)) read_named_step
unfolding read_named_step
reads-named_step =
    behind (is k.Dot) (plain (made step.Member (terminal name))) (one is_name) (read_plain (λ ts. read_made step.Member (read_terminal name ts)))
    (plainly (made step.Member (terminal name)) (one is_name) (λ ts. read_made step.Member (read_terminal name ts))
    (reads-made step.Member (terminal name) (on (one is_name)) (read_terminal name) (reads_terminal name is_name (seen_those is_name name_of))))

reads-element_rest : Countable element_rest (one (is k.WholeNumber)) read_element_rest
unfolding read_element_rest same_class
reads-element_rest =
    closed (plain (made step.Element (terminal digits))) (one (is k.WholeNumber)) (read_plain (λ ts. read_made step.Element (read_terminal digits ts))) k.RightBracket refl refl
    (plainly (made step.Element (terminal digits)) (one (is k.WholeNumber)) (λ ts. read_made step.Element (read_terminal digits ts))
    (reads-made step.Element (terminal digits) (on (one (is k.WholeNumber))) (read_terminal digits) (reads_terminal digits (is k.WholeNumber) (seen_digits 0 9223372036854775807))))

reads-all_rest : Countable all_rest (one (is k.Star)) read_all_rest
unfolding read_all_rest same_class
reads-all_rest =
    closed (plain (made (λ s. step.All) (token (of k.Star)))) (one (is k.Star)) (read_plain (λ ts. read_made (λ s. step.All) (read_terminal (word k.Star) ts))) k.RightBracket refl refl
    (plainly (made (λ s. step.All) (token (of k.Star))) (one (is k.Star)) (λ ts. read_made (λ s. step.All) (read_terminal (word k.Star) ts))
    (reads-made (λ s. step.All) (token (of k.Star)) (on (one (is k.Star))) (read_terminal (word k.Star)) (reads_terminal (word k.Star) (is k.Star) (seen_word k.Star))))

abbrev in_brackets_step : Counting Step
in_brackets_step n = either (all_rest n) (element_rest n)

abbrev factored_step : Counting Step
factored_step n = either (named_step n) (past (of k.LeftBracket) in_brackets_step n)

-- behind a token two alternatives are one
same_behind : {A : Type 0} (test : Symbol → Bool) (G H : Rule Symbol Fault A) → Same (either (preceded_by (token test) G) (preceded_by (token test) H)) (preceded_by (token test) (either G H))
same_behind test G H = same_factored (token test) (λ s. G) (λ s. H) (closed-terminal (λ s. if test s then takes s else refuses))

same_step : (n : ℕ) → Same (source_step n) (factored_step n)
same_step n =
    let N : Rule Symbol Fault (Step × ℕ) = named_step n in
    let E : Rule Symbol Fault (Step × ℕ) = element_step n in
    let A : Rule Symbol Fault (Step × ℕ) = all_step n in
    same_trans (either (either N E) A) (either N (either E A)) (factored_step n) (same_grouped N E A)
    (same-either N N (either E A) (past (of k.LeftBracket) in_brackets_step n) (same_refl N)
    (same_trans (either E A) (either A E) (past (of k.LeftBracket) in_brackets_step n) (same_swapped E A) (same_behind (of k.LeftBracket) (all_rest n) (element_rest n))))

abbrev bracket_first : Class → Bool
bracket_first c = is k.Star c || is k.WholeNumber c

reads-factored_step : Countable factored_step (one is_step) read_step
unfolding read_step same_class
reads-factored_step =
    one_or_other named_step (past (of k.LeftBracket) in_brackets_step) (one (is k.Dot)) (one (is k.LeftBracket)) (one is_step) read_named_step (read_counted_past (of k.LeftBracket) (λ m. read_either (of k.Star) (read_all_rest m) (read_element_rest m))) refl refl refl refl
    reads-named_step
    (behind (is k.LeftBracket) in_brackets_step (one bracket_first) (λ m. read_either (of k.Star) (read_all_rest m) (read_element_rest m))
    (one_or_other all_rest element_rest (one (is k.Star)) (one (is k.WholeNumber)) (one bracket_first) read_all_rest read_element_rest refl refl refl refl reads-all_rest reads-element_rest))

pub reads-step : Countable source_step (one is_step) read_step
reads-step n = reads-same (factored_step n) (source_step n) (same_sym (source_step n) (factored_step n) (same_step n)) (on (one is_step)) (read_step n) (reads-factored_step n)

over_step_all : list_all (λ c. agree (is_some (over_step c)) (is_step c)) all_classes ≡ true
over_step_all = refl

pub seen_over_step : (c : Class) → is_some (over_step c) ≡ is_step c
seen_over_step c = same_truth (is_some (over_step c)) (is_step c) (every (λ d. agree (is_some (over_step d)) (is_step d)) over_step_all c)

abbrev steps_sight : Sight Class
steps_sight = seen_or_nothing is_step is_step

reads-steps : (most : ℕ) → Countable (steps most) steps_sight (read_steps most)
unfolding read_steps
reads-steps most n =
    reads_by class all_classes every (many_sight (one is_step)) (steps most n) steps_sight (read_steps most n) refl
    (reads-made (λ p. (p.0, p.1.1)) (many_from (item (λ s. over_step (class s)) source_step) (most, n)) (on (many_sight (one is_step))) (read_many_from (begins is_step) (read_item (λ s. over_step (class s)) read_step) (most, n))
    (reads-many_from (item (λ s. over_step (class s)) source_step) (on (one is_step)) (read_item (λ s. over_step (class s)) read_step)
    (reads-item (λ s. over_step (class s)) source_step (on (one is_step)) read_step reads-step refl (λ s. seen_over_step (class s))) refl (λ x. refl) (most, n)))

-- ---- the path in FROM

abbrev own_steps : Counting Step → Counting (List Step)
own_steps G = after G (λ s. given (λ rest. s ∷ rest) (steps 63))

abbrev all_steps : Counting (List Step)
all_steps = after all_rest (λ s. steps 64)

abbrev bracket_steps : Counting (List Step)
bracket_steps n = either (all_steps n) (own_steps element_rest n)

abbrev factored_steps : Counting (List Step)
factored_steps n = either (either (own_steps named_step n) (past (of k.LeftBracket) bracket_steps n)) (nothing ([], n))

same_steps : (n : ℕ) → Same (source_steps n) (factored_steps n)
same_steps n =
    let K : Step × ℕ → Rule Symbol Fault (List Step × ℕ) = λ p. given (λ rest. p.0 ∷ rest) (steps 63) p.1 in
    let L : Step × ℕ → Rule Symbol Fault (List Step × ℕ) = λ p. steps 64 p.1 in
    let T : Rule Symbol Fault Symbol = token (of k.LeftBracket) in
    let N : Rule Symbol Fault (List Step × ℕ) = own_steps named_step n in
    let E : Rule Symbol Fault (List Step × ℕ) = own_steps element_step n in
    let A : Rule Symbol Fault (List Step × ℕ) = after all_step (λ s. steps 64) n in
    let E1 : Rule Symbol Fault (List Step × ℕ) = preceded_by T (own_steps element_rest n) in
    let A1 : Rule Symbol Fault (List Step × ℕ) = preceded_by T (all_steps n) in
    let O : Rule Symbol Fault (List Step × ℕ) = nothing ([], n) in
    let own : Rule Symbol Fault (List Step × ℕ) = own_steps own_step n in
    let B : Rule Symbol Fault (List Step × ℕ) = past (of k.LeftBracket) bracket_steps n in
    same_trans (source_steps n) (either A (either (either N E) O)) (factored_steps n)
    (same-either A A (either own O) (either (either N E) O) (same_refl A)
    (same-either own (either N E) O O (same_sym (either N E) own (same_shared (named_step n) (element_step n) K)) (same_refl O)))
    (same_trans (either A (either (either N E) O)) (either (either A (either N E)) O) (factored_steps n)
    (same_sym (either (either A (either N E)) O) (either A (either (either N E) O)) (same_grouped A (either N E) O))
    (same-either (either A (either N E)) (either N B) O O
    (same_trans (either A (either N E)) (either (either N E) A) (either N B) (same_swapped A (either N E))
    (same_trans (either (either N E) A) (either N (either E A)) (either N B) (same_grouped N E A)
    (same-either N N (either E A) B (same_refl N)
    (same_trans (either E A) (either A E) B (same_swapped E A)
    (same_trans (either A E) (either A1 E1) B
    (same-either A A1 E E1 (same_in_a_row T (λ s. all_rest n) L) (same_in_a_row T (λ s. element_rest n) K))
    (same_behind (of k.LeftBracket) (all_steps n) (own_steps element_rest n)))))))
    (same_refl O)))

reads-own_steps : (G : Counting Step) (test : Class → Bool) (next : Reader Step) → seen_in all_classes (sequence_sight (one test) steps_sight) (seen test is_step) ≡ true → Countable G (one test) next → Countable (own_steps G) (seen test is_step) (read_own_steps next)
unfolding read_own_steps
reads-own_steps G test next h g =
    in_turn G (λ s. given (λ rest. s ∷ rest) (steps 63)) (one test) steps_sight (seen test is_step) next (λ s. read_given (λ rest. s ∷ rest) (read_steps 63)) refl h g
    (λ s. as_given (λ rest. s ∷ rest) (steps 63) steps_sight (read_steps 63) (reads-steps 63))

reads-bracket_steps : Countable bracket_steps (seen bracket_first is_step) read_bracket_steps
unfolding read_bracket_steps same_class
reads-bracket_steps =
    one_or_other all_steps (own_steps element_rest) (seen (is k.Star) is_step) (seen (is k.WholeNumber) is_step) (seen bracket_first is_step) (read_after read_all_rest (λ s. read_steps 64)) (read_own_steps read_element_rest) refl refl refl refl
    (in_turn all_rest (λ s. steps 64) (one (is k.Star)) steps_sight (seen (is k.Star) is_step) read_all_rest (λ s. read_steps 64) refl refl reads-all_rest (λ s. reads-steps 64))
    (reads-own_steps element_rest (is k.WholeNumber) read_element_rest refl reads-element_rest)

reads-factored_steps : Countable factored_steps steps_sight read_source_steps
unfolding read_source_steps same_class
reads-factored_steps =
    one_or_other (λ n. either (own_steps named_step n) (past (of k.LeftBracket) bracket_steps n)) (λ n. nothing ([], n)) (seen is_step is_step) nothing_sight steps_sight (λ n. read_either (of k.Dot) (read_own_steps read_named_step n) (read_counted_past (of k.LeftBracket) read_bracket_steps n)) (λ n ts. found ([], n) ts) refl refl refl refl
    (one_or_other (own_steps named_step) (past (of k.LeftBracket) bracket_steps) (seen (is k.Dot) is_step) (seen (is k.LeftBracket) is_step) (seen is_step is_step) (read_own_steps read_named_step) (read_counted_past (of k.LeftBracket) read_bracket_steps) refl refl refl refl
    (reads-own_steps named_step (is k.Dot) read_named_step refl reads-named_step)
    (behind (is k.LeftBracket) bracket_steps (seen bracket_first is_step) read_bracket_steps reads-bracket_steps))
    (λ n. reads-nothing ([], n))

reads-source_steps : Countable source_steps steps_sight read_source_steps
reads-source_steps n = reads-same (factored_steps n) (source_steps n) (same_sym (source_steps n) (factored_steps n) (same_steps n)) (on steps_sight) (read_source_steps n) (reads-factored_steps n)

-- ---- the source

abbrev alias_sight : Sight Class
alias_sight = seen_or_nothing begins_alias begins_alias

reads-alias : Countable alias alias_sight read_alias
unfolding read_alias same_class
reads-alias =
    maybe_so (λ n. either (past (of k.As) (plain (terminal name)) n) (plain (terminal name) n)) (one begins_alias) alias_sight (λ n. read_either (of k.As) (read_counted_past (of k.As) read_name n) (read_name n)) refl refl
    (one_or_other (past (of k.As) (plain (terminal name))) (plain (terminal name)) (one (is k.As)) (one is_name) (one begins_alias) (read_counted_past (of k.As) read_name) read_name refl refl refl refl
    (behind (is k.As) (plain (terminal name)) (one is_name) read_name reads-name) reads-name)

abbrev source_rest : Class → Bool
source_rest c = is_step c || begins_alias c

abbrev source_sight : Sight Class
source_sight = seen is_source source_rest

reads-source : Countable source source_sight read_source
unfolding source read_source same_class
reads-source =
    behind is_source (both source_steps alias) (seen_or_nothing source_rest source_rest) (read_both read_source_steps read_alias)
    (in_pair source_steps alias steps_sight alias_sight (seen_or_nothing source_rest source_rest) read_source_steps read_alias refl refl reads-source_steps reads-alias)

-- ---- the filter and the end

abbrev where_more : Class → Bool
where_more c = is k.Where c || or_more c

abbrev where_sight : Sight Class
where_sight = seen_or_nothing (is k.Where) where_more

reads-filter : Countable filter where_sight read_filter
unfolding read_filter same_class
reads-filter =
    maybe_so (past (of k.Where) (expression 64)) (past_sight (is k.Where) or_sight) where_sight (read_counted_past (of k.Where) (read_expression 64)) refl refl
    (behind (is k.Where) (expression 64) or_sight (read_expression 64) (reads-expression 64))

abbrev limit_rule : Rule Symbol Fault (Option ℕ)
limit_rule = optional (preceded_by (token (of k.Limit)) (terminal digits))

abbrev limit_sight : Sight Class
limit_sight = seen_or_nothing (is k.Limit) (is k.Limit)

reads-limit : Readable limit_rule limit_sight read_limit
unfolding read_limit same_class
reads-limit =
    reads_by class all_classes every (optional_sight (one (is k.Limit))) limit_rule limit_sight read_limit refl
    (reads-optional (preceded_by (token (of k.Limit)) (terminal digits)) (on (one (is k.Limit))) (read_past (of k.Limit) (read_terminal digits))
    (reads-past (of k.Limit) (terminal digits) (on (one (is k.WholeNumber))) (read_terminal digits) (reads_terminal digits (is k.WholeNumber) (seen_digits 0 9223372036854775807))) refl)

abbrev mark_sight : Sight Class
mark_sight = seen_or_nothing (is k.Semicolon) (is k.Semicolon)

reads-mark : Readable (optional (token (of k.Semicolon))) mark_sight (read_optional (of k.Semicolon) (read_terminal (word k.Semicolon)))
unfolding same_class
reads-mark =
    reads_by class all_classes every (optional_sight (one (is k.Semicolon))) (optional (token (of k.Semicolon))) mark_sight (read_optional (of k.Semicolon) (read_terminal (word k.Semicolon))) refl
    (reads-optional (token (of k.Semicolon)) (on (one (is k.Semicolon))) (read_terminal (word k.Semicolon)) (reads_terminal (word k.Semicolon) (is k.Semicolon) (seen_word k.Semicolon)) refl)

abbrev end_first : Class → Bool
end_first c = is k.Limit c || is k.Semicolon c

abbrev end_sight : Sight Class
end_sight = seen_or_nothing end_first end_first

reads-ending : Readable ending end_sight read_ending
unfolding read_ending same_class
reads-ending =
    reads_by class all_classes every (sequence_sight limit_sight mark_sight) ending end_sight read_ending refl
    (reads-sequence limit_rule (λ limit. made (λ s. limit) (optional (token (of k.Semicolon)))) (on limit_sight) (on mark_sight) read_limit (λ limit left. read_made (λ s. limit) (read_optional (of k.Semicolon) (read_terminal (word k.Semicolon)) left))
    reads-limit (λ limit. reads-made (λ s. limit) (optional (token (of k.Semicolon))) (on mark_sight) (read_optional (of k.Semicolon) (read_terminal (word k.Semicolon))) reads-mark)
    (apart_by class all_classes every limit_sight mark_sight refl))

abbrev tail_first : Class → Bool
tail_first c = is k.Where c || end_first c

abbrev tail_goes : Class → Bool
tail_goes c = end_first c || where_more c

abbrev behind_more : Class → Bool
behind_more c = source_rest c || tail_goes c

abbrev pub behind_list : Counting ((List Step × Option Name) × (Option Expr × Option ℕ))
behind_list = past (of k.From) (both source (both filter (plain ending)))

abbrev pub behind_sight : Sight Class
behind_sight = seen (is k.From) behind_more

pub reads-behind_list : Countable behind_list behind_sight read_behind_list
unfolding read_behind_list same_class
reads-behind_list =
    behind (is k.From) (both source (both filter (plain ending))) (seen is_source behind_more) (read_both read_source (read_both read_filter (read_plain read_ending)))
    (in_pair source (both filter (plain ending)) source_sight (seen_or_nothing tail_first tail_goes) (seen is_source behind_more) read_source (read_both read_filter (read_plain read_ending)) refl refl reads-source
    (in_pair filter (plain ending) where_sight end_sight (seen_or_nothing tail_first tail_goes) read_filter (read_plain read_ending) refl refl reads-filter
    (plainly ending end_sight read_ending reads-ending)))
