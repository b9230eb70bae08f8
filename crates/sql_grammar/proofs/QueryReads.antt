-- A query is read, and the answer of its reader is what the grammar says of the tokens.
use Rattle.std.proofs.Common.{◌≡◌, ℕ, ◌||◌, List, Option, refl, subst}
use Rattle.sql_tokens.specs.declared.class.Class.{Class}
use Rattle.sql_tokens.specs.declared.class.Class.TheVariants as k
use Rattle.sql_tokens.specs.Classes.{same_class, all_classes}
use Rattle.sql_tokens.specs.Cutting.{Symbol}
use Rattle.sql_tokens.proofs.ClassLaws.{every}
use Rattle.sql_grammar.specs.declared.tree.Expr.{Expr}
use Rattle.grammar_rules.specs.Rules.{Rule, made}
use Rattle.grammar_rules.specs.Readers.{Outcome, read_made}
use Rattle.grammar_rules.specs.Counted.{given, both}
use Rattle.grammar_rules.specs.CountedReaders.{read_given, read_both}
use Rattle.grammar_rules.proofs.Clear.{Sight}
use Rattle.grammar_rules.proofs.Sequences.{sequence_sight}
use Rattle.grammar_rules.proofs.Reading.{reads-made, reads-past, reads-sequence}
use Rattle.grammar_rules.proofs.Classes.{apart_by, reads_by}
use Rattle.sql_grammar.proofs.Combining.{on, Readable, is, seen}
use Rattle.sql_grammar.specs.Marks.{Fault, class, of}
use Rattle.sql_grammar.specs.declared.tree.Name.{Name}
use Rattle.sql_grammar.specs.declared.tree.Step.{Step}
use Rattle.sql_grammar.specs.Queries.{Selected, selection_list, Written, written_of, whole_query, query}
use Rattle.sql_grammar.specs.QueryReaders.{read_list, read_behind_list, read_whole_query, read_query}
use Rattle.std.proofs.Common.{length}
use Rattle.grammar_rules.specs.Places.{Answer, AnswersNamed}
use Rattle.grammar_rules.specs.Readers.{answer_named}
use Rattle.grammar_rules.proofs.Right.{Right}
use Rattle.grammar_rules.proofs.Answering.{answers_named}
use Rattle.grammar_rules.proofs.OneAnswer.{one_named_answer}
use Rattle.sql_grammar.specs.Faults.{misplaced}
use Rattle.sql_grammar.proofs.ItemReads.{items_sight}
use Rattle.sql_grammar.proofs.NamedAll.{reads-list}
use Rattle.sql_grammar.proofs.SourceReads.{behind_list, behind_sight, reads-behind_list}

abbrev list_sight_of : Sight Class
list_sight_of = seen (λ c. is k.Star c || items_sight.first c) (λ c. is k.Star c || items_sight.more c)

abbrev pub query_sight : Sight Class
query_sight = seen (is k.Select) behind_sight.more

abbrev parts : Selected × ((List Step × Option Name) × (Option Expr × Option ℕ)) → Written
parts p = written_of p.0 p.1.0 p.1.1.0 p.1.1.1

-- what stands behind SELECT
abbrev behind_select : Rule Symbol Fault ((Selected × ((List Step × Option Name) × (Option Expr × Option ℕ))) × ℕ)
behind_select = both selection_list behind_list 4096

reads-behind_select : Readable behind_select (seen list_sight_of.first behind_sight.more) (read_both read_list read_behind_list 4096)
unfolding same_class
reads-behind_select =
    reads_by class all_classes every (sequence_sight list_sight_of behind_sight) behind_select (seen list_sight_of.first behind_sight.more) (read_both read_list read_behind_list 4096) refl
    (reads-sequence (selection_list 4096) (λ p. made (λ q. ((p.0, q.0), q.1)) (behind_list p.1)) (on list_sight_of) (on behind_sight) (read_list 4096) (λ p left. read_made (λ q. ((p.0, q.0), q.1)) (read_behind_list p.1 left))
    (reads-list 4096 (λ z. cc)) (λ p. reads-made (λ q. ((p.0, q.0), q.1)) (behind_list p.1) (on behind_sight) (read_behind_list p.1) (reads-behind_list p.1))
    (apart_by class all_classes every list_sight_of behind_sight refl))

pub reads-query : Readable query query_sight read_query
unfolding query read_query read_whole_query
reads-query =
    reads-made (λ p. p.0) (whole_query 4096) (on query_sight) (read_whole_query 4096)
    (reads-past (of k.Select) (given parts (both selection_list behind_list) 4096) (on (seen list_sight_of.first behind_sight.more)) (read_given parts (read_both read_list read_behind_list) 4096)
    (reads-made (λ p. (parts p.0, p.1)) behind_select (on (seen list_sight_of.first behind_sight.more)) (read_both read_list read_behind_list 4096) reads-behind_select))

-- ---- answers

abbrev pub Said : List Symbol → Answer Fault Written → Type 0
Said ts x = AnswersNamed misplaced query ts x

-- what the reader answers is what the grammar says
pub said : (ts : List Symbol) (o : Outcome Symbol Fault Written) → read_query ts ≡ o → Said ts (answer_named misplaced (length ts) o)
said ts o h = answers_named query reads-query.clear.fronts misplaced ts o (subst (λ q. Right query ts q) h (reads-query.right ts))

-- the grammar says one thing of the tokens
pub one_answer : (ts : List Symbol) (x y : Answer Fault Written) → Said ts x → Said ts y → x ≡ y
one_answer ts x y v w = one_named_answer query (on query_sight) reads-query.clear ts misplaced x y v w
