-- The readers that the parser of expressions follows where it hands no bracket on.
use Rattle.std.specs.Prelude.{◌≡◌, ◌≢◌, ℕ, Bool, true, false, List, [], ◌∷◌, Option, Some, None}
use Rattle.sql_tokens.specs.declared.class.Class.{Class}
use Rattle.sql_tokens.specs.declared.class.Class.TheVariants as k
use Rattle.sql_tokens.specs.Classes.{same_class}
use Rattle.sql_tokens.specs.Cutting.{Symbol, first_class}
use Rattle.sql_leaves.specs.declared.stop.Stop.{Stop}
use Rattle.sql_leaves.specs.declared.stop.Stop.TheVariants as stop
use Rattle.grammar_rules.specs.Readers.{Outcome, found, failed, and_then, starts, chosen, read_made, read_terminal, read_past, read_before, read_either}
use Rattle.grammar_rules.specs.CountedReaders.{read_given, read_list_of}
use Rattle.sql_grammar.specs.declared.tree.Expr.TheVariants as e
use Rattle.sql_grammar.specs.Expressions.{Room, Tail, among, pred_node, is_what, over_class}
use Rattle.sql_grammar.specs.declared.tree.Expr.{Expr}
use Rattle.sql_grammar.specs.Readers.{Reader, read_literal, read_cast_rest, read_coalesce_rest, read_nullif_rest, read_substring_rest, read_trim_rest, read_extract_rest, read_date_add_rest}
use Rattle.sql_grammar.specs.Marks.{Fault, of, class, is_number, text_in, number_in, one_told, escape}
use Rattle.sql_leaves.specs.Parsing.{fault_of, read_counted_token, read_open, read_counted_open}

-- ---- forms of readers that hand no bracket on

-- what stands between brackets
unfoldable pub read_in_brackets : {A : Type 0} → Bool → Reader A → Reader A
read_in_brackets room read n ts = and_then (read_open room ts) (λ u left. read_before (of k.RightParenthesis) (read n) left)

-- a function's name, and what stands between its brackets
unfoldable pub read_function : Bool → Class → Reader Expr → Reader Expr
read_function room c arguments n ts = and_then (read_counted_token c n ts) (λ p left. read_in_brackets room arguments p.1 left)

-- an expression between brackets
unfoldable pub read_bracketed : Bool → Reader Expr → Reader Expr
read_bracketed room read n ts = and_then (read_counted_open room k.LeftParenthesis n ts) (λ p left. read_before (of k.RightParenthesis) (read p.1) left)

-- CASE and what follows it
unfoldable pub read_case_told : Bool → Reader Expr → Reader Expr
read_case_told room rest n ts = and_then (read_counted_open room k.Case n ts) (λ p left. rest p.1 left)

-- ---- functions

-- the call of a function of one argument
abbrev pub simple_node : Class → Expr → Expr
simple_node k.CharLengthCalled a = e.CharLength a
simple_node k.LowerCalled a = e.Lower a
simple_node k.UpperCalled a = e.Upper a
simple_node _ a = e.ToTimestamp a

-- what stands between the brackets of the function of this class
abbrev pub read_arguments : Room → Reader Expr → Class → Reader Expr
read_arguments room inner k.Cast = read_cast_rest room inner
read_arguments room inner k.CoalesceCalled = read_coalesce_rest room inner
read_arguments room inner k.NullifCalled = read_nullif_rest room inner
read_arguments room inner k.SubstringCalled = read_substring_rest room inner
read_arguments room inner k.TrimCalled = read_trim_rest room inner
read_arguments room inner k.ExtractCalled = read_extract_rest room inner
read_arguments room inner k.DateAddCalled = read_date_add_rest room inner
read_arguments room inner c = read_given (simple_node c) inner

-- ---- primaries of one token

abbrev pub is_constant : Class → Bool
is_constant k.True = true
is_constant k.False = true
is_constant k.Null = true
is_constant k.Missing = true
is_constant _ = false

-- the word that is an expression
abbrev pub constant_node : Class → Expr
constant_node k.True = e.Bool true
constant_node k.False = e.Bool false
constant_node k.Null = e.Null
constant_node _ = e.Missing

abbrev pub read_constant : Class → Reader Expr
read_constant c n ts = read_made (λ p. (constant_node c, p.1)) (read_counted_token c n ts)

-- a text, a number, or a word that is an expression
unfoldable pub read_simple : Reader Expr
read_simple n ts =
    chosen (starts (of k.Text) ts) (read_literal (same_class k.Text) (λ s. e.Text (text_in s.token)) n ts)
    (chosen (is_number (first_class ts)) (read_literal is_number (λ s. e.Number (number_in s.token)) n ts)
    (chosen (is_constant (first_class ts)) (read_constant (first_class ts) n ts) (failed None ts)))

-- ---- conditions

-- the stop tells this fault
abbrev pub IsOver : Option Fault → Stop → Type 0
IsOver fault s = (s ≢ stop.Memory) × (fault_of s ≡ fault)

-- what the tail makes of the value before it
abbrev pub tailed : Expr → Reader Tail → Reader Expr
tailed a read n ts = read_made (λ p. (pred_node a (Some p.0), p.1)) (read n ts)

-- IN and its members
unfoldable pub read_in_told : Room → Reader Expr → Bool → Reader Tail
read_in_told room inner negated n ts = read_past (of k.In) (λ left. read_made (λ p. (among negated p.0, p.1)) (read_in_brackets room.here (read_list_of 1000 (λ s. over_class room.deeper (class s)) (of k.Comma) inner) n left)) ts

-- NULL or MISSING behind IS
abbrev pub read_what : Expr → Bool → List Symbol → Outcome Symbol Fault Expr
read_what a negated ts = read_made (λ t. pred_node a (Some t)) (read_terminal (one_told (is_what negated)) ts)

-- the only one
abbrev pub only_one : List ℕ → Option ℕ
only_one [] = None
only_one (c ∷ []) = Some c
only_one (c ∷ d ∷ cs) = None

-- ESCAPE and its text, or nothing
abbrev pub read_escape_told : List ℕ → List Symbol → Outcome Symbol Fault (Option ℕ)
read_escape_told pattern = read_either (of k.Escape) (read_past (of k.Escape) (read_terminal (escape pattern))) (λ ts. found None ts)
