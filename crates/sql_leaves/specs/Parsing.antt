-- What the functions of the parser answer, seen as outcomes, and the readers of single tokens and of types that they follow.
use Rattle.std.specs.Prelude.{◌≡◌, ◌≢◌, ℕ, zero, suc, Bool, true, false, nat_le, ◌&&◌, List, drop, Option, Some, None, Result, Ok, Err}
use denote.Ref.{MutBor}
use Rattle.sql_tokens.specs.declared.class.Class.{Class}
use Rattle.sql_tokens.specs.declared.class.Class.TheVariants as k
use Rattle.sql_tokens.specs.Classes.{code}
use Rattle.sql_tokens.specs.Cutting.{Symbol, Remaining}
use Rattle.sql_tokens.specs.Payloads.{first_of, word_of, quoted_of, text_of, first_number, undoubled}
use Rattle.sql_decimal.specs.declared.number.Num.{Num}
use Rattle.sql_grammar.specs.declared.tree.Name.{Name}
use Rattle.sql_leaves.specs.declared.stop.Stop.{Stop}
use Rattle.sql_leaves.specs.declared.stop.Stop.TheVariants as stop
use Rattle.grammar_rules.specs.Readers.{Outcome, found, failed, and_then, starts, chosen, closed_by, read_made, read_terminal, read_past, read_optional, read_fault}
use Rattle.grammar_rules.specs.CountedReaders.{CountedReader, read_plain, read_one_more}
use Rattle.grammar_rules.specs.Rules.{Verdict, takes, faults, refuses}
use Rattle.sql_grammar.specs.declared.tree.CastTarget.{CastTarget}
use Rattle.sql_grammar.specs.declared.tree.CastTarget.TheVariants as target
use Rattle.sql_grammar.specs.Expressions.{word, opening, decimal_target}
use Rattle.sql_grammar.specs.declared.tree.Expr.{Expr}
use Rattle.sql_grammar.specs.Readers.{Reader, begins, read_expression}
use Rattle.sql_grammar.specs.Marks.{Fault, unknown_function, aggregate_mixed, unsupported_type, bad_escape, wrong_number, too_deep, too_many, of, name_by, or_nothing, number_or_zero, begins_expression, digits_within}

-- the fault that a stop tells
abbrev pub fault_of : Stop → Option Fault
fault_of stop.Refused = None
fault_of stop.UnknownFunction = Some unknown_function
fault_of stop.AggregateMixed = Some aggregate_mixed
fault_of stop.UnsupportedType = Some unsupported_type
fault_of stop.BadEscape = Some bad_escape
fault_of stop.WrongNumber = Some wrong_number
fault_of stop.TooDeep = Some too_deep
fault_of stop.TooMany = Some too_many
fault_of stop.Memory = None

-- the result is that outcome, with what is left, but for want of memory
abbrev pub Gives : {A : Type 0} → Outcome Symbol Fault A → Result A Stop → List Symbol → Type 0
Gives outcome (Ok a) left = outcome ≡ found a left
Gives outcome (Err e) left = e ≢ stop.Memory → outcome ≡ failed (fault_of e) left

-- the same with the count behind the value
abbrev pub GivesCounted : {S A : Type 0} → Outcome Symbol Fault (A × S) → Result A Stop → S → List Symbol → Type 0
GivesCounted outcome (Ok a) n left = outcome ≡ found (a, n) left
GivesCounted outcome (Err e) n left = e ≢ stop.Memory → outcome ≡ failed (fault_of e) left

-- a class that a token may have
abbrev pub is_token : Class → Bool
is_token k.NoToken = false
is_token _ = true

-- the class stands between these two, or is one of them
abbrev pub between : Class → Class → Class → Bool
between first last c = nat_le (code first) (code c) && nat_le (code c) (code last)

-- a token of the class was in front, and is passed; or none was, and nothing is passed
abbrev pub Expects : Class → List Symbol → Result (Unit {0}) Stop → List Symbol → Type 0
Expects c old (Ok u) new = (starts (of c) old ≡ true) × (new ≡ drop 1 old)
Expects c old (Err e) new = (starts (of c) old ≡ false) × (new ≡ old) × (e ≡ stop.Refused)

-- the name, the text and the number in front, where one stands there
abbrev pub name_at : List Symbol → Name
name_at ts = name_by (first_of quoted_of ts) (first_of word_of ts)

abbrev pub text_at : List Symbol → List ℕ
text_at ts = undoubled 39 (or_nothing (first_of text_of ts))

abbrev pub number_at : List Symbol → Num
number_at ts = number_or_zero (first_number ts)

-- a token of the class, which is counted
abbrev pub read_counted_token : Class → CountedReader ℕ Symbol Fault (Unit {0})
read_counted_token c n ts = read_made (λ p. (tt, p.1)) (read_one_more too_many (word c) n ts)

-- the expressions between brackets, of which so many may still be open in one another
unfoldable pub read_too_deep : Reader Expr
read_too_deep = read_plain (read_fault too_deep (begins begins_expression))

unfoldable pub read_inside : ℕ → Reader Expr
read_inside zero = read_too_deep
read_inside (suc depth) = read_expression depth

-- each call of the parser gives what the reader gives
pub record Reads (read : Reader Expr) (post : MutBor Remaining → MutBor ℕ → Result Expr Stop → MutBor Remaining → MutBor ℕ → Type 0) : Type 0 where
  pub gives : (tokens : MutBor Remaining) (primaries : MutBor ℕ) (result : Result Expr Stop) (left : MutBor Remaining) (count : MutBor ℕ) → post tokens primaries result left count → GivesCounted (read primaries.now tokens.now.symbols) result count.now left.now.symbols

-- ---- forms of readers that hand no bracket on

-- a bracket, where there is room for one
unfoldable pub read_open : Bool → List Symbol → Outcome Symbol Fault (Unit {0})
read_open room ts = read_made (λ s. tt) (read_terminal (opening room k.LeftParenthesis) ts)

-- the same for a bracket or CASE that is counted
unfoldable pub read_counted_open : Bool → Class → CountedReader ℕ Symbol Fault (Unit {0})
read_counted_open room c n ts = read_made (λ p. (tt, p.1)) (read_one_more too_many (opening room c) n ts)

-- ---- types

abbrev pub taken : {A : Type 0} → Verdict Fault A → Option A
taken (takes a) = Some a
taken (faults k) = None
taken refuses = None

abbrev pub is_faulty : {A : Type 0} → Verdict Fault A → Bool
is_faulty (takes a) = false
is_faulty (faults k) = true
is_faulty refuses = false

-- quoted names, the simple types and the decimals
abbrev pub may_be_type : Class → Bool
may_be_type k.BoolType = true
may_be_type k.BoolTypeCalled = true
may_be_type k.IntType = true
may_be_type k.IntTypeCalled = true
may_be_type k.StringType = true
may_be_type k.StringTypeCalled = true
may_be_type k.TimestampType = true
may_be_type k.TimestampTypeCalled = true
may_be_type k.DecimalType = true
may_be_type k.DecimalTypeCalled = true
may_be_type k.QuotedName = true
may_be_type k.QuotedNameCalled = true
may_be_type _ = false

abbrev pub read_scale : ℕ → List Symbol → Outcome Symbol Fault (Option ℕ)
read_scale p = read_optional (of k.Comma) (read_past (of k.Comma) (read_terminal (digits_within 0 p)))

-- behind DECIMAL or NUMERIC
unfoldable pub read_decimal_told : Bool → List Symbol → Outcome Symbol Fault CastTarget
read_decimal_told room ts =
    chosen (starts (of k.LeftParenthesis) ts)
    (and_then (read_open room ts) (λ u left. and_then (read_terminal (digits_within 1 38) left) (λ p more. and_then (read_scale p more) (λ s rest. closed_by (of k.RightParenthesis) (decimal_target (Some (p, s))) rest))))
    (found target.Decimal ts)

-- ---- functions

abbrev pub is_function : Class → Bool
is_function k.Cast = true
is_function k.CoalesceCalled = true
is_function k.NullifCalled = true
is_function k.CharLengthCalled = true
is_function k.LowerCalled = true
is_function k.UpperCalled = true
is_function k.SubstringCalled = true
is_function k.TrimCalled = true
is_function k.ExtractCalled = true
is_function k.DateAddCalled = true
is_function k.ToTimestampCalled = true
is_function _ = false

-- a token that isn't a name, a text or a number, with which an expression begins
abbrev pub opens_expression : Class → Bool
opens_expression k.Not = true
opens_expression k.Minus = true
opens_expression k.LeftParenthesis = true
opens_expression k.Case = true
opens_expression k.Cast = true
opens_expression k.True = true
opens_expression k.False = true
opens_expression k.Null = true
opens_expression k.Missing = true
opens_expression _ = false

-- ---- steps of the source

-- IS, or a word that NOT may stand before, or NOT
abbrev pub begins_word_tail : Class → Bool
begins_word_tail k.Is = true
begins_word_tail k.Not = true
begins_word_tail k.Between = true
begins_word_tail k.In = true
begins_word_tail k.Like = true
begins_word_tail _ = false
