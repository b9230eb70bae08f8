-- The readers of types and paths, and what may follow an expression's parts.
use Rattle.std.proofs.Common.{◌≡◌, ℕ, ◌||◌, Bool, true, false, ◌∷◌, Option, refl}
use Rattle.sql_tokens.specs.declared.class.Class.{Class}
use Rattle.sql_tokens.specs.declared.class.Class.TheVariants as k
use Rattle.sql_tokens.specs.Classes.{same_class, all_classes}
use Rattle.sql_tokens.specs.Cutting.{Symbol}
use Rattle.sql_tokens.proofs.ClassLaws.{every}
use Rattle.sql_grammar.specs.declared.tree.Expr.TheVariants as e
use Rattle.sql_grammar.specs.declared.tree.PathStep.{PathStep}
use Rattle.sql_grammar.specs.declared.tree.PathStep.TheVariants as step
use Rattle.grammar_rules.specs.Rules.{Rule, terminal, token, nothing, made, begun, optional, preceded_by, followed_by}
use Rattle.grammar_rules.specs.Readers.{found, read_made, read_terminal, read_past, read_before, read_optional, read_begun}
use Rattle.grammar_rules.specs.Counted.{plain, one_more, past, before}
use Rattle.grammar_rules.specs.CountedReaders.{read_plain, read_counted_past, read_counted_before}
use Rattle.grammar_rules.proofs.Clear.{Sight}
use Rattle.grammar_rules.proofs.Terminals.{nothing_sight}
use Rattle.grammar_rules.proofs.Reading.{past_sight, before_sight, reads-nothing, reads-made, reads-past, reads-before}
use Rattle.grammar_rules.proofs.Choices.{either_sight, optional_sight, reads-either, reads-optional}
use Rattle.grammar_rules.proofs.Begun.{reads-begun}
use Rattle.grammar_rules.proofs.Classes.{distinct_in, seen_in, apart_by, distinct_by, reads_by}
use Rattle.sql_grammar.proofs.Combining.{on, Readable, Countable, is, one, seen, seen_or_nothing, seen_those, seen_word, seen_opening, seen_digits, reads_terminal, reads_counted, plainly, behind, closed, one_or_other, in_chain}
use Rattle.sql_grammar.specs.Marks.{Fault, too_many, class, of, is_name, is_path_name, is_decimal, name_of, name, digits, precision, scale, simple_type}
use Rattle.sql_grammar.specs.Expressions.{Counting, word, opening, decimal_target, decimal_digits, type_of, path_step, path_name, path, flag}
use Rattle.sql_grammar.specs.Readers.{begins, read_flag, read_decimal_digits, read_decimal, is_simple_type, read_type, is_step, read_path_step, read_path_name, read_path}

-- ---- flags

pub reads-flag : (c : Class) → seen_in all_classes (either_sight (one (is c)) nothing_sight) (seen_or_nothing (is c) (is c)) ≡ true → distinct_in all_classes (one (is c)) nothing_sight ≡ true → Countable (flag c) (seen_or_nothing (is c) (is c)) (read_flag c)
unfolding read_flag
reads-flag c e off n =
    reads_by class all_classes every (either_sight (one (is c)) nothing_sight) (flag c n) (seen_or_nothing (is c) (is c)) (read_flag c n) e
    (reads-either (made (λ s. (true, n)) (token (of c))) (nothing (false, n)) (on (one (is c))) nothing_sight
    (λ ts. read_made (λ s. (true, n)) (read_terminal (word c) ts)) (λ ts. found (false, n) ts)
    (reads-made (λ s. (true, n)) (token (of c)) (on (one (is c))) (read_terminal (word c)) (reads_terminal (word c) (is c) (seen_word c)))
    (reads-nothing (false, n)) (distinct_by class all_classes every (one (is c)) nothing_sight off) refl)

-- ---- types

abbrev comma_or_none : Sight Class
comma_or_none = seen_or_nothing (is k.Comma) (is k.Comma)

reads-scale : (p : ℕ) → Readable {A = ℕ × Option ℕ} (made (λ s. (p, s)) (optional (preceded_by (token (of k.Comma)) (terminal (scale p))))) comma_or_none (λ ts. read_made (λ s. (p, s)) (read_optional (of k.Comma) (read_past (of k.Comma) (read_terminal (scale p))) ts))
unfolding same_class
reads-scale p =
    reads-made (λ s. (p, s)) (optional (preceded_by (token (of k.Comma)) (terminal (scale p)))) (on comma_or_none) (read_optional (of k.Comma) (read_past (of k.Comma) (read_terminal (scale p))))
    (reads_by class all_classes every (optional_sight (one (is k.Comma))) (optional (preceded_by (token (of k.Comma)) (terminal (scale p)))) comma_or_none (read_optional (of k.Comma) (read_past (of k.Comma) (read_terminal (scale p)))) refl
    (reads-optional (preceded_by (token (of k.Comma)) (terminal (scale p))) (on (one (is k.Comma))) (read_past (of k.Comma) (read_terminal (scale p)))
    (reads-past (of k.Comma) (terminal (scale p)) (on (one (is k.WholeNumber))) (read_terminal (scale p)) (reads_terminal (scale p) (is k.WholeNumber) (seen_digits 0 p)))
    refl))

reads-decimal_digits : Readable decimal_digits (seen (is k.WholeNumber) (is k.Comma)) read_decimal_digits
unfolding read_decimal_digits same_class
reads-decimal_digits =
    reads-begun precision (λ p. made (λ s. (p, s)) (optional (preceded_by (token (of k.Comma)) (terminal (scale p))))) (λ p. on comma_or_none)
    (λ p ts. read_made (λ s. (p, s)) (read_optional (of k.Comma) (read_past (of k.Comma) (read_terminal (scale p))) ts)) (of k.WholeNumber)
    (seen_digits 1 38) reads-scale (of k.Comma) (λ p x f. f)

abbrev bracket_or_none : Sight Class
bracket_or_none = seen_or_nothing (is k.LeftParenthesis) (is k.LeftParenthesis)

abbrev in_decimal : Bool → Rule Symbol Fault (ℕ × Option ℕ)
in_decimal room = begun (opening room k.LeftParenthesis) (λ s. followed_by decimal_digits (token (of k.RightParenthesis)))

reads-in_decimal : (room : Bool) → Readable (in_decimal room) (one (is k.LeftParenthesis)) (read_begun (opening room k.LeftParenthesis) (λ s. read_before (of k.RightParenthesis) read_decimal_digits))
unfolding same_class
reads-in_decimal room =
    reads-begun (opening room k.LeftParenthesis) (λ s. followed_by decimal_digits (token (of k.RightParenthesis))) (λ s. on (before_sight (seen (is k.WholeNumber) (is k.Comma))))
    (λ s. read_before (of k.RightParenthesis) read_decimal_digits) (of k.LeftParenthesis) (seen_opening room k.LeftParenthesis)
    (λ s. reads-before decimal_digits (on (seen (is k.WholeNumber) (is k.Comma))) read_decimal_digits (of k.RightParenthesis) reads-decimal_digits refl
    (apart_by class all_classes every (seen (is k.WholeNumber) (is k.Comma)) (one (is k.RightParenthesis)) refl))
    (λ x. false) (λ s x f. f)

reads-decimal : (room : Bool) → Readable (made decimal_target (optional (in_decimal room))) bracket_or_none (read_decimal room)
unfolding read_decimal same_class
reads-decimal room =
    reads-made decimal_target (optional (in_decimal room)) (on bracket_or_none) (read_optional (of k.LeftParenthesis) (read_begun (opening room k.LeftParenthesis) (λ s. read_before (of k.RightParenthesis) read_decimal_digits)))
    (reads_by class all_classes every (optional_sight (one (is k.LeftParenthesis))) (optional (in_decimal room)) bracket_or_none (read_optional (of k.LeftParenthesis) (read_begun (opening room k.LeftParenthesis) (λ s. read_before (of k.RightParenthesis) read_decimal_digits))) refl
    (reads-optional (in_decimal room) (on (one (is k.LeftParenthesis))) (read_begun (opening room k.LeftParenthesis) (λ s. read_before (of k.RightParenthesis) read_decimal_digits)) (reads-in_decimal room) refl))

-- the tokens in the place of a type that have no fault there, or one
abbrev pub begins_type : Class → Bool
begins_type c = is_simple_type c || is_decimal c

abbrev pub type_sight : Sight Class
type_sight = seen begins_type (is k.LeftParenthesis)

pub reads-type : (room : Bool) → Readable (type_of room) type_sight (read_type room)
unfolding read_type same_class
reads-type room =
    reads_by class all_classes every (either_sight (one is_simple_type) (past_sight is_decimal bracket_or_none)) (type_of room) type_sight (read_type room) refl
    (reads-either (terminal (λ s. simple_type (class s))) (preceded_by (token (begins is_decimal)) (made decimal_target (optional (in_decimal room)))) (on (one is_simple_type)) (on (past_sight is_decimal bracket_or_none))
    (read_terminal (λ s. simple_type (class s))) (read_past (begins is_decimal) (read_decimal room))
    (reads_terminal (λ s. simple_type (class s)) is_simple_type (λ s. refl))
    (reads-past (begins is_decimal) (made decimal_target (optional (in_decimal room))) (on bracket_or_none) (read_decimal room) (reads-decimal room))
    (distinct_by class all_classes every (one is_simple_type) (past_sight is_decimal bracket_or_none) refl) refl)

-- ---- paths

abbrev pub member_step : Counting PathStep
member_step = past (of k.Dot) (plain (made step.Member (terminal name)))

abbrev pub element_step : Counting PathStep
element_step = past (of k.LeftBracket) (before (plain (made step.Element (terminal digits))) (of k.RightBracket))

reads-member : Countable member_step (one (is k.Dot)) (read_counted_past (of k.Dot) (read_plain (λ ts. read_made step.Member (read_terminal name ts))))
reads-member =
    behind (is k.Dot) (plain (made step.Member (terminal name))) (one is_name) (read_plain (λ ts. read_made step.Member (read_terminal name ts)))
    (plainly (made step.Member (terminal name)) (one is_name) (λ ts. read_made step.Member (read_terminal name ts))
    (reads-made step.Member (terminal name) (on (one is_name)) (read_terminal name) (reads_terminal name is_name (seen_those is_name name_of))))

reads-element : Countable element_step (one (is k.LeftBracket)) (read_counted_past (of k.LeftBracket) (read_counted_before (read_plain (λ ts. read_made step.Element (read_terminal digits ts))) (of k.RightBracket)))
unfolding same_class
reads-element =
    behind (is k.LeftBracket) (before (plain (made step.Element (terminal digits))) (of k.RightBracket)) (one (is k.WholeNumber)) (read_counted_before (read_plain (λ ts. read_made step.Element (read_terminal digits ts))) (of k.RightBracket))
    (closed (plain (made step.Element (terminal digits))) (one (is k.WholeNumber)) (read_plain (λ ts. read_made step.Element (read_terminal digits ts))) k.RightBracket refl refl
    (plainly (made step.Element (terminal digits)) (one (is k.WholeNumber)) (λ ts. read_made step.Element (read_terminal digits ts))
    (reads-made step.Element (terminal digits) (on (one (is k.WholeNumber))) (read_terminal digits) (reads_terminal digits (is k.WholeNumber) (seen_digits 0 9223372036854775807)))))

pub reads-path_step : Countable path_step (one is_step) read_path_step
unfolding read_path_step same_class
reads-path_step =
    one_or_other member_step element_step (one (is k.Dot)) (one (is k.LeftBracket)) (one is_step)
    (read_counted_past (of k.Dot) (read_plain (λ ts. read_made step.Member (read_terminal name ts))))
    (read_counted_past (of k.LeftBracket) (read_counted_before (read_plain (λ ts. read_made step.Element (read_terminal digits ts))) (of k.RightBracket)))
    refl refl refl refl reads-member reads-element

abbrev pub path_sight : Sight Class
path_sight = seen is_path_name is_step

pub reads-path : Countable path path_sight read_path
unfolding read_path read_path_name
reads-path =
    in_chain (λ first rest. e.Path (step.Member first ∷ rest)) (one_more too_many path_name) path_step (one is_path_name) (one is_step) path_sight read_path_name read_path_step
    refl refl refl refl (reads_counted path_name is_path_name (seen_those is_path_name name_of)) reads-path_step
