-- The readers of the grammar of expressions, which mirror its rules; where alternatives begin alike, they mirror the factored rule.
use Rattle.std.specs.Prelude.{ℕ, zero, suc, Bool, true, false, ◌||◌, List, ◌∷◌, Option, Some, None, is_some, if◌then◌else◌}
use Rattle.text_view.specs.declared.view.Side.{Side}
use Rattle.text_view.specs.declared.view.Side.TheVariants as side
use Rattle.sql_tokens.specs.declared.class.Class.{Class}
use Rattle.sql_tokens.specs.declared.class.Class.TheVariants as k
use Rattle.sql_tokens.specs.Classes.{same_class}
use Rattle.sql_tokens.specs.Cutting.{Symbol}
use Rattle.sql_grammar.specs.declared.tree.Expr.{Expr}
use Rattle.sql_grammar.specs.declared.tree.Expr.TheVariants as e
use Rattle.sql_grammar.specs.declared.tree.SumPart.{SumPart, roll-SumPart}
use Rattle.sql_grammar.specs.declared.tree.ProdPart.{ProdPart, roll-ProdPart}
use Rattle.sql_grammar.specs.declared.tree.Arm.{Arm, roll-Arm}
use Rattle.sql_grammar.specs.declared.tree.Name.{Name}
use Rattle.sql_grammar.specs.declared.tree.PathStep.{PathStep}
use Rattle.sql_grammar.specs.declared.tree.PathStep.TheVariants as step
use Rattle.sql_grammar.specs.declared.tree.CastTarget.{CastTarget}
use Rattle.grammar_rules.specs.Rules.{takes, refuses}
use Rattle.grammar_rules.specs.Readers.{Outcome, found, and_then, read_made, read_terminal, is_seen, read_fault, read_past, read_before, read_either, read_optional, read_begun}
use Rattle.grammar_rules.specs.CountedReaders.{CountedReader, read_plain, read_one_more, read_given, read_both, read_after, read_counted_past, read_counted_before, read_maybe, read_chain, read_list_of}
use Rattle.sql_grammar.specs.Forms.{read_one_of}
use Rattle.sql_grammar.specs.Marks.{Fault, unknown_function, unsupported_type, too_deep, too_many, class, of, is_unknown_call, is_number, is_decimal, is_for, begins_expression, text_in, number_in, name, text, digits, precision, scale, escape, one_told, compare_op, sum_op, prod_op, date_part, stamp_part, simple_type, Form, literal_text, literal_number, truth, untruth, null_form, missing_form, path_form, unknown_call, exponent_form, cast_form, group_form, case_form, coalesce_form, nullif_form, char_length_form, lower_form, upper_form, substring_form, trim_form, extract_form, date_add_form, to_timestamp_form, form_of}
use Rattle.sql_grammar.specs.Expressions.{Room, room_of, word, opening, decimal_target, path_name, or_node, and_node, sum_node, prod_node, Tail, comparing, lying, among, liking, pred_node, not_node, unary_node, is_what, over_class, trim_side, side_or_both}

-- a reader that counts primaries
abbrev pub Reader : Type 0 → Type 0
Reader A = CountedReader ℕ Symbol Fault A

-- ---- parts of rules

-- the first token's class passes the test
abbrev pub begins : (Class → Bool) → Symbol → Bool
begins test s = test (class s)

abbrev pub read_enclosed : {A : Type 0} → Bool → Reader A → Reader A
read_enclosed room read n = read_begun (opening room k.LeftParenthesis) (λ s. read_counted_before read (of k.RightParenthesis) n)

abbrev pub read_listed : {A : Type 0} → Reader A → Reader (List A)
read_listed read = read_chain (λ a rest. a ∷ rest) (of k.Comma) read (read_counted_past (of k.Comma) read)

-- the part and then what follows it, or nothing and then what follows that
abbrev pub read_perhaps : {A B : Type 0} → (Symbol → Bool) → Reader A → (Option A → Reader B) → Reader B
read_perhaps test read next n = read_either test (read_after read (λ a. next (Some a)) n) (next None n)

-- the part, and then a token of the class, where the part may be nothing
abbrev pub read_ended : {A : Type 0} → Reader A → Class → Reader A
read_ended read c n ts = and_then (read n ts) (λ p left. read_made (λ s. p) (read_terminal (word c) left))

-- whether the token stands there
unfoldable pub read_flag : Class → Reader Bool
read_flag c n = read_either (of c) (λ ts. read_made (λ s. (true, n)) (read_terminal (word c) ts)) (λ ts. found (false, n) ts)

-- ---- types

unfoldable pub read_decimal_digits : List Symbol → Outcome Symbol Fault (ℕ × Option ℕ)
read_decimal_digits = read_begun precision (λ p ts. read_made (λ s. (p, s)) (read_optional (of k.Comma) (read_past (of k.Comma) (read_terminal (scale p))) ts))

-- behind DECIMAL or NUMERIC
unfoldable pub read_decimal : Bool → List Symbol → Outcome Symbol Fault CastTarget
read_decimal room ts = read_made decimal_target (read_optional (of k.LeftParenthesis) (read_begun (opening room k.LeftParenthesis) (λ s. read_before (of k.RightParenthesis) read_decimal_digits)) ts)

abbrev pub is_simple_type : Class → Bool
is_simple_type c = is_seen (simple_type c)

unfoldable pub read_type : Bool → List Symbol → Outcome Symbol Fault CastTarget
read_type room = read_either (begins is_simple_type) (read_terminal (λ s. simple_type (class s))) (read_past (begins is_decimal) (read_decimal room))

-- ---- paths

abbrev pub is_step : Class → Bool
is_step k.Dot = true
is_step k.LeftBracket = true
is_step _ = false

unfoldable pub read_path_step : Reader PathStep
read_path_step n =
    read_either (of k.Dot) (read_counted_past (of k.Dot) (read_plain (λ ts. read_made step.Member (read_terminal name ts))) n)
    (read_counted_past (of k.LeftBracket) (read_counted_before (read_plain (λ ts. read_made step.Element (read_terminal digits ts))) (of k.RightBracket)) n)

unfoldable pub read_path_name : Reader Name
read_path_name = read_one_more too_many path_name

unfoldable pub read_path : Reader Expr
read_path = read_chain (λ first rest. e.Path (step.Member first ∷ rest)) (begins is_step) read_path_name read_path_step

-- ---- expressions, where this reads the expressions between brackets

abbrev pub is_prod_op : Class → Bool
is_prod_op c = is_some (prod_op c)

abbrev pub is_sum_op : Class → Bool
is_sum_op c = is_some (sum_op c)

abbrev pub is_compare_op : Class → Bool
is_compare_op c = is_some (compare_op c)

abbrev pub is_side : Class → Bool
is_side c = is_some (trim_side c)

-- the tails with NOT or without it
abbrev pub begins_negatable : Class → Bool
begins_negatable k.Not = true
begins_negatable k.Between = true
begins_negatable k.In = true
begins_negatable k.Like = true
begins_negatable _ = false

abbrev pub begins_tail : Class → Bool
begins_tail k.Is = true
begins_tail c = begins_negatable c || is_compare_op c

abbrev pub read_literal : (Class → Bool) → (Symbol → Expr) → Reader Expr
read_literal test spelled = read_one_more too_many (λ s. if test (class s) then takes (spelled s) else refuses)

module _ (room : Room) (inner : Reader Expr) where
  abbrev pub read_call : Class → Reader Expr → Reader Expr
  read_call c arguments = read_after (read_one_more too_many (word c)) (λ s. read_enclosed room.here arguments)

  unfoldable pub read_cast_rest : Reader Expr
  read_cast_rest = read_given (λ p. e.Cast p.0 p.1) (read_both inner (read_counted_past (of k.As) (read_plain (read_type room.deeper))))

  unfoldable pub read_group : Reader Expr
  read_group = read_after (read_one_more too_many (opening room.here k.LeftParenthesis)) (λ s. read_counted_before inner (of k.RightParenthesis))

  unfoldable pub read_arm : Reader Arm
  read_arm = read_counted_past (of k.When) (read_given (λ p. roll-Arm (record { when = p.0; then = p.1 })) (read_both inner (read_counted_past (of k.Then) inner)))

  unfoldable pub read_arms : Reader (List Arm)
  read_arms = read_chain (λ a rest. a ∷ rest) (of k.When) read_arm read_arm

  -- [ELSE or] END
  unfoldable pub read_otherwise : Reader (Option Expr)
  read_otherwise = read_ended (read_maybe (of k.Else) (read_counted_past (of k.Else) inner)) k.End

  unfoldable pub read_case_rest : Reader Expr
  read_case_rest = read_given (λ p. e.Case p.0 p.1.0 p.1.1) (read_both (read_maybe (begins begins_expression) inner) (read_both read_arms read_otherwise))

  unfoldable pub read_case : Reader Expr
  read_case = read_after (read_one_more too_many (opening room.here k.Case)) (λ s. read_case_rest)

  unfoldable pub read_coalesce_rest : Reader Expr
  read_coalesce_rest = read_given e.Coalesce (read_listed inner)

  unfoldable pub read_nullif_rest : Reader Expr
  read_nullif_rest = read_given (λ p. e.NullIf p.0 p.1) (read_both inner (read_counted_past (of k.Comma) inner))

  -- , or [, or]
  unfoldable pub read_substring_commas : Reader (Expr × Option Expr)
  read_substring_commas = read_counted_past (of k.Comma) (read_both inner (read_maybe (of k.Comma) (read_counted_past (of k.Comma) inner)))

  -- FROM or [FOR or]
  unfoldable pub read_substring_words : Reader (Expr × Option Expr)
  read_substring_words = read_counted_past (of k.From) (read_both inner (read_maybe (begins is_for) (read_counted_past (begins is_for) inner)))

  unfoldable pub read_substring_rest : Reader Expr
  read_substring_rest = read_given (λ p. e.Substring p.0 p.1.0 p.1.1) (read_both inner (λ n. read_either (of k.Comma) (read_substring_commas n) (read_substring_words n)))

  -- FROM or
  unfoldable pub read_trim_from : Option Side → Option Expr → Reader Expr
  read_trim_from s set = read_counted_past (of k.From) (read_given (λ a. e.Trim (side_or_both s) set a) inner)

  -- behind a side: [or] FROM or
  unfoldable pub read_trim_set : Side → Reader Expr
  read_trim_set s = read_perhaps (begins begins_expression) inner (λ set. read_trim_from (Some s) set)

  -- or, or FROM or
  unfoldable pub read_trim_plain : Reader Expr
  read_trim_plain = read_after inner (λ a n. read_either (of k.From) (read_trim_from None (Some a) n) (λ ts. found (e.Trim side.Both None a, n) ts))

  unfoldable pub read_trim_rest : Reader Expr
  read_trim_rest n =
      read_either (begins is_side) (read_after (read_plain (read_terminal (one_told trim_side))) read_trim_set n)
      (read_either (begins begins_expression) (read_trim_plain n) (read_trim_from None None n))

  unfoldable pub read_extract_rest : Reader Expr
  read_extract_rest = read_given (λ p. e.Extract p.0 p.1) (read_both (read_plain (read_terminal (one_told stamp_part))) (read_counted_past (of k.From) inner))

  unfoldable pub read_date_add_rest : Reader Expr
  read_date_add_rest = read_given (λ p. e.DateAdd p.0 p.1.0 p.1.1) (read_both (read_plain (read_terminal (one_told date_part))) (read_counted_past (of k.Comma) (read_both inner (read_counted_past (of k.Comma) inner))))

  unfoldable pub read_primary_of : Form → Reader Expr
  read_primary_of literal_text = read_literal (same_class k.Text) (λ s. e.Text (text_in s.token))
  read_primary_of literal_number = read_literal is_number (λ s. e.Number (number_in s.token))
  read_primary_of truth = read_literal (same_class k.True) (λ s. e.Bool true)
  read_primary_of untruth = read_literal (same_class k.False) (λ s. e.Bool false)
  read_primary_of null_form = read_literal (same_class k.Null) (λ s. e.Null)
  read_primary_of missing_form = read_literal (same_class k.Missing) (λ s. e.Missing)
  read_primary_of path_form = read_path
  read_primary_of unknown_call = read_plain (read_fault unknown_function (begins is_unknown_call))
  read_primary_of exponent_form = read_plain (read_fault unsupported_type (of k.ExponentNumber))
  read_primary_of cast_form = read_call k.Cast read_cast_rest
  read_primary_of group_form = read_group
  read_primary_of case_form = read_case
  read_primary_of coalesce_form = read_call k.CoalesceCalled read_coalesce_rest
  read_primary_of nullif_form = read_call k.NullifCalled read_nullif_rest
  read_primary_of char_length_form = read_call k.CharLengthCalled (read_given e.CharLength inner)
  read_primary_of lower_form = read_call k.LowerCalled (read_given e.Lower inner)
  read_primary_of upper_form = read_call k.UpperCalled (read_given e.Upper inner)
  read_primary_of substring_form = read_call k.SubstringCalled read_substring_rest
  read_primary_of trim_form = read_call k.TrimCalled read_trim_rest
  read_primary_of extract_form = read_call k.ExtractCalled read_extract_rest
  read_primary_of date_add_form = read_call k.DateAddCalled read_date_add_rest
  read_primary_of to_timestamp_form = read_call k.ToTimestampCalled (read_given e.ToTimestamp inner)

  unfoldable pub read_primary : Reader Expr
  read_primary n = read_one_of (λ s. form_of (class s)) (λ form. read_primary_of form n)

  unfoldable pub read_unary : Reader Expr
  read_unary = read_given (λ p. unary_node p.0 p.1) (read_both (read_flag k.Minus) read_primary)

  unfoldable pub read_prod_part : Reader ProdPart
  read_prod_part = read_given (λ p. roll-ProdPart (record { op = p.0; member = p.1 })) (read_both (read_plain (read_terminal (one_told prod_op))) read_unary)

  unfoldable pub read_prod : Reader Expr
  read_prod = read_chain prod_node (begins is_prod_op) read_unary read_prod_part

  unfoldable pub read_sum_part : Reader SumPart
  read_sum_part = read_given (λ p. roll-SumPart (record { op = p.0; member = p.1 })) (read_both (read_plain (read_terminal (one_told sum_op))) read_prod)

  unfoldable pub read_sum : Reader Expr
  read_sum = read_chain sum_node (begins is_sum_op) read_prod read_sum_part

  unfoldable pub read_comparison : Reader Tail
  read_comparison = read_given (λ p. comparing p.0 p.1) (read_both (read_plain (read_terminal (one_told compare_op))) read_sum)

  unfoldable pub read_between : Bool → Reader Tail
  read_between negated = read_counted_past (of k.Between) (read_given (λ p. lying negated p.0 p.1) (read_both read_sum (read_counted_past (of k.And) read_sum)))

  unfoldable pub read_members : Reader (List Expr)
  read_members = read_enclosed room.here (read_list_of 1000 (λ s. over_class room.deeper (class s)) (of k.Comma) inner)

  unfoldable pub read_in : Bool → Reader Tail
  read_in negated = read_counted_past (of k.In) (read_given (among negated) read_members)

  -- [ESCAPE text], behind a pattern
  unfoldable pub read_escape : List ℕ → List Symbol → Outcome Symbol Fault (Option ℕ)
  read_escape pattern = read_either (of k.Escape) (read_past (of k.Escape) (read_terminal (escape pattern))) (λ ts. found None ts)

  unfoldable pub read_like : Bool → Reader Tail
  read_like negated = read_counted_past (of k.Like) (read_plain (read_begun text (λ pattern ts. read_made (λ esc. liking negated pattern esc) (read_escape pattern ts))))

  -- BETWEEN, IN or LIKE, behind NOT or not
  unfoldable pub read_negatable : Bool → Reader Tail
  read_negatable negated n = read_either (of k.Between) (read_between negated n) (read_either (of k.In) (read_in negated n) (read_like negated n))

  unfoldable pub read_is : Reader Tail
  read_is = read_counted_past (of k.Is) (read_perhaps (of k.Not) (read_plain (read_terminal (word k.Not))) (λ negated. read_plain (read_terminal (one_told (is_what (is_some negated))))))

  unfoldable pub read_tail : Reader Tail
  read_tail n =
      read_either (begins is_compare_op) (read_comparison n)
      (read_either (begins begins_negatable) (read_either (of k.Not) (read_counted_past (of k.Not) (read_negatable true) n) (read_negatable false n)) (read_is n))

  unfoldable pub read_pred : Reader Expr
  read_pred = read_given (λ p. pred_node p.0 p.1) (read_both read_sum (read_maybe (begins begins_tail) read_tail))

  unfoldable pub read_negation : Reader Expr
  read_negation = read_given (λ p. not_node p.0 p.1) (read_both (read_flag k.Not) read_pred)

  unfoldable pub read_conjunction : Reader Expr
  read_conjunction = read_chain and_node (of k.And) read_negation (read_counted_past (of k.And) read_negation)

  unfoldable pub read_disjunction : Reader Expr
  read_disjunction = read_chain or_node (of k.Or) read_conjunction (read_counted_past (of k.Or) read_conjunction)

-- ---- depth

unfoldable pub read_expression : ℕ → Reader Expr
read_expression zero = read_disjunction (room_of 0) (read_plain (read_fault too_deep (begins begins_expression)))
read_expression (suc depth) = read_disjunction (room_of (suc depth)) (read_expression depth)
