-- The grammar of expressions. A rule stands below its line of the S3 Select reference's grammar; capitals are keywords, `[ ]` an
-- optional part, `{ }` a repeated one. Each rule counts the primaries that may still come; at most 64 brackets and CASE may be open in
-- one another.
use Rattle.std.specs.Prelude.{ℕ, zero, suc, Bool, true, false, nat_lt, List, [], ◌∷◌, Option, Some, None, is_some, if◌then◌else◌}
use Rattle.text_view.specs.declared.view.Side.{Side}
use Rattle.text_view.specs.declared.view.Side.TheVariants as side
use Rattle.sql_tokens.specs.declared.class.Class.{Class}
use Rattle.sql_tokens.specs.declared.class.Class.TheVariants as k
use Rattle.sql_tokens.specs.Classes.{same_class}
use Rattle.sql_tokens.specs.Cutting.{Symbol}
use Rattle.sql_grammar.specs.declared.tree.Expr.{Expr}
use Rattle.sql_grammar.specs.declared.tree.Expr.TheVariants as e
use Rattle.sql_grammar.specs.declared.tree.SumPart.{SumPart, roll-SumPart}
use Rattle.sql_grammar.specs.declared.tree.ProdPart.{ProdPart, roll-ProdPart}
use Rattle.sql_grammar.specs.declared.tree.Arm.{Arm, roll-Arm}
use Rattle.sql_grammar.specs.declared.tree.Name.{Name}
use Rattle.sql_grammar.specs.declared.tree.CompareOp.{CompareOp}
use Rattle.sql_grammar.specs.declared.tree.PathStep.{PathStep}
use Rattle.sql_grammar.specs.declared.tree.PathStep.TheVariants as step
use Rattle.sql_grammar.specs.declared.tree.CastTarget.{CastTarget}
use Rattle.sql_grammar.specs.declared.tree.CastTarget.TheVariants as target
use Rattle.grammar_rules.specs.Rules.{Rule, Verdict, takes, refuses, limited, terminal, token, fault, nothing, made, begun, alternatives, either, optional, preceded_by, followed_by}
use Rattle.grammar_rules.specs.Counted.{Counted, plain, one_more, given, both, after, past, before, maybe, chain, list_of}
use Rattle.sql_grammar.specs.Marks.{Fault, unknown_function, unsupported_type, too_deep, too_many, class, of, those, is_path_name, is_unknown_call, is_number, is_decimal, is_for, begins_expression, name_of, text_in, number_in, name, text, digits, precision, scale, escape, one_told, compare_op, sum_op, prod_op, date_part, stamp_part, simple_type, Form, literal_text, literal_number, truth, untruth, null_form, missing_form, path_form, unknown_call, exponent_form, cast_form, group_form, case_form, coalesce_form, nullif_form, char_length_form, lower_form, upper_form, substring_form, trim_form, extract_form, date_add_form, to_timestamp_form, form_of}

-- a rule that counts primaries
abbrev pub Counting : Type 0 → Type 1
Counting A = Counted ℕ Symbol Fault A

-- whether a bracket may be opened here, and whether another one may be opened in it
pub record Room : Type 0 where
  pub here : Bool
  pub deeper : Bool

-- ---- parts of rules

-- [G] H, where H is told what G is
abbrev pub perhaps : {A B : Type 0} → Counting A → (Option A → Counting B) → Counting B
perhaps G H n = either (after G (λ a. H (Some a)) n) (H None n)

-- a token of the class
abbrev pub word : Class → Symbol → Verdict Fault Symbol
word c s = if of c s then takes s else refuses

-- the same, where a bracket may be opened; else it is too deep
abbrev pub opening : Bool → Class → Symbol → Verdict Fault Symbol
opening room c s = limited too_deep room (word c s)

-- ( G )
abbrev pub enclosed : {A : Type 0} → Bool → Counting A → Counting A
enclosed room G n = begun (opening room k.LeftParenthesis) (λ s. before G (of k.RightParenthesis) n)

-- G {, G}
abbrev pub listed : {A : Type 0} → Counting A → Counting (List A)
listed G = chain (λ a rest. a ∷ rest) G (past (of k.Comma) G)

-- ---- types

-- what a decimal's digits and scale make: without digits any decimal, without a scale none behind the point
abbrev pub decimal_target : Option (ℕ × Option ℕ) → CastTarget
decimal_target None = target.Decimal
decimal_target (Some (p, None)) = target.DecimalOf p 0
decimal_target (Some (p, Some s)) = target.DecimalOf p s

-- digits [, digits]
abbrev pub decimal_digits : Rule Symbol Fault (ℕ × Option ℕ)
decimal_digits = begun precision (λ p. made (λ s. (p, s)) (optional (preceded_by (token (of k.Comma)) (terminal (scale p)))))

-- type = BOOL | BOOLEAN | INT | INTEGER | STRING | TIMESTAMP
--      | (DECIMAL | NUMERIC) [( digits [, digits] )]
abbrev pub type_of : Bool → Rule Symbol Fault CastTarget
type_of room =
    either (terminal (λ s. simple_type (class s)))
    (preceded_by (token (λ s. is_decimal (class s)))
    (made decimal_target (optional (begun (opening room k.LeftParenthesis) (λ s. followed_by decimal_digits (token (of k.RightParenthesis)))))))

-- ---- paths

-- name {. name | [ digits ]}
abbrev pub path_step : Counting PathStep
path_step n =
    either (past (of k.Dot) (plain (made step.Member (terminal name))) n)
    (past (of k.LeftBracket) (before (plain (made step.Element (terminal digits))) (of k.RightBracket)) n)

-- a name that isn't before `(`
abbrev pub path_name : Symbol → Verdict Fault Name
path_name = those is_path_name name_of

abbrev pub path : Counting Expr
path = chain (λ first rest. e.Path (step.Member first ∷ rest)) (one_more too_many path_name) path_step

-- ---- nodes

abbrev pub or_node : Expr → List Expr → Expr
or_node a [] = a
or_node a (b ∷ rest) = e.Or (a ∷ b ∷ rest)

abbrev pub and_node : Expr → List Expr → Expr
and_node a [] = a
and_node a (b ∷ rest) = e.And (a ∷ b ∷ rest)

abbrev pub sum_node : Expr → List SumPart → Expr
sum_node a [] = a
sum_node a (b ∷ rest) = e.Sum a (b ∷ rest)

abbrev pub prod_node : Expr → List ProdPart → Expr
prod_node a [] = a
prod_node a (b ∷ rest) = e.Prod a (b ∷ rest)

-- what a tail makes of the sum before it
pub data Tail : Type 0 where
  comparing : CompareOp → Expr → Tail
  lying : Bool → Expr → Expr → Tail
  among : Bool → List Expr → Tail
  liking : Bool → List ℕ → Option ℕ → Tail
  being_null : Bool → Tail
  being_missing : Bool → Tail

abbrev pub pred_node : Expr → Option Tail → Expr
pred_node a None = a
pred_node a (Some (comparing op b)) = e.Compare op a b
pred_node a (Some (lying negated low high)) = e.Between negated a low high
pred_node a (Some (among negated members)) = e.Among negated a members
pred_node a (Some (liking negated pattern escape)) = e.Like negated a pattern escape
pred_node a (Some (being_null negated)) = e.IsNull negated a
pred_node a (Some (being_missing negated)) = e.IsMissing negated a

abbrev pub not_node : Bool → Expr → Expr
not_node true a = e.Not a
not_node false a = a

abbrev pub unary_node : Bool → Expr → Expr
unary_node true a = e.Minus a
unary_node false a = a

-- NULL or MISSING, for what IS makes of it
abbrev pub is_what : Bool → Class → Option Tail
is_what negated k.Null = Some (being_null negated)
is_what negated k.Missing = Some (being_missing negated)
is_what negated _ = None

-- the token that would begin the 1,001st member of an IN: its own fault, else too deep, else too many
abbrev pub over_form : Bool → Option Form → Option Fault
over_form room None = None
over_form room (Some unknown_call) = Some unknown_function
over_form room (Some exponent_form) = Some unsupported_type
over_form room (Some group_form) = Some (if room then too_many else too_deep)
over_form room (Some case_form) = Some (if room then too_many else too_deep)
over_form room (Some _) = Some too_many

abbrev pub over_class : Bool → Class → Option Fault
over_class room k.Not = Some too_many
over_class room k.Minus = Some too_many
over_class room c = over_form room (form_of c)

-- LEADING, TRAILING or BOTH
abbrev pub trim_side : Class → Option Side
trim_side k.Leading = Some side.Leading
trim_side k.Trailing = Some side.Trailing
trim_side k.Both = Some side.Both
trim_side _ = None

abbrev pub side_or_both : Option Side → Side
side_or_both None = side.Both
side_or_both (Some s) = s

-- a token that is an expression
abbrev pub literal : (Class → Bool) → (Symbol → Expr) → Counting Expr
literal test spelled = one_more too_many (λ s. if test (class s) then takes (spelled s) else refuses)

-- whether the token stands there
abbrev pub flag : Class → Counting Bool
flag c n = either (made (λ s. (true, n)) (token (of c))) (nothing (false, n))

-- ---- expressions, where these are the expressions between brackets
module _ (room : Room) (inner : Counting Expr) where
  -- a function's name, and what stands between its brackets
  abbrev pub call : Class → Counting Expr → Counting Expr
  call c arguments = after (one_more too_many (word c)) (λ s. enclosed room.here arguments)

  -- CAST ( or AS type )
  abbrev pub cast : Counting Expr
  cast = call k.Cast (given (λ p. e.Cast p.0 p.1) (both inner (past (of k.As) (plain (type_of room.deeper)))))

  -- ( or )
  abbrev pub group : Counting Expr
  group = after (one_more too_many (opening room.here k.LeftParenthesis)) (λ s. before inner (of k.RightParenthesis))

  -- WHEN or THEN or
  abbrev pub arm : Counting Arm
  arm = past (of k.When) (given (λ p. roll-Arm (record { when = p.0; then = p.1 })) (both inner (past (of k.Then) inner)))

  -- [or] WHEN or THEN or {WHEN or THEN or} [ELSE or] END
  abbrev pub case_rest : Counting Expr
  case_rest = given (λ p. e.Case p.0 p.1.0 p.1.1) (both (maybe inner) (both (chain (λ a rest. a ∷ rest) arm arm) (before (maybe (past (of k.Else) inner)) (of k.End))))

  -- CASE [or] WHEN or THEN or {WHEN or THEN or} [ELSE or] END
  abbrev pub case : Counting Expr
  case = after (one_more too_many (opening room.here k.Case)) (λ s. case_rest)

  -- COALESCE ( or {, or} )
  abbrev pub coalesce : Counting Expr
  coalesce = call k.CoalesceCalled (given e.Coalesce (listed inner))

  -- NULLIF ( or , or )
  abbrev pub nullif : Counting Expr
  nullif = call k.NullifCalled (given (λ p. e.NullIf p.0 p.1) (both inner (past (of k.Comma) inner)))

  -- SUBSTRING ( or , or [, or] ) | SUBSTRING ( or FROM or [FOR or] )
  abbrev pub substring : Counting Expr
  substring n =
      either (call k.SubstringCalled (given (λ p. e.Substring p.0 p.1.0 p.1.1) (both inner (past (of k.Comma) (both inner (maybe (past (of k.Comma) inner)))))) n)
      (call k.SubstringCalled (given (λ p. e.Substring p.0 p.1.0 p.1.1) (both inner (past (of k.From) (both inner (maybe (past (λ s. is_for (class s)) inner)))))) n)

  -- [LEADING | TRAILING | BOTH] [or] FROM or
  abbrev pub trim_set : Counting Expr
  trim_set = perhaps (plain (terminal (one_told trim_side))) (λ s. perhaps inner (λ set. past (of k.From) (given (λ a. e.Trim (side_or_both s) set a) inner)))

  -- TRIM ( [[LEADING | TRAILING | BOTH] [or] FROM] or )
  abbrev pub trim : Counting Expr
  trim = call k.TrimCalled (λ n. either (trim_set n) (given (λ a. e.Trim side.Both None a) inner n))

  -- EXTRACT ( part FROM or )
  abbrev pub extract : Counting Expr
  extract = call k.ExtractCalled (given (λ p. e.Extract p.0 p.1) (both (plain (terminal (one_told stamp_part))) (past (of k.From) inner)))

  -- DATE_ADD ( part , or , or )
  abbrev pub date_add : Counting Expr
  date_add = call k.DateAddCalled (given (λ p. e.DateAdd p.0 p.1.0 p.1.1) (both (plain (terminal (one_told date_part))) (past (of k.Comma) (both inner (past (of k.Comma) inner)))))

  -- primary = text | number | TRUE | FALSE | NULL | MISSING | path | call
  --         | CAST ( or AS type ) | ( or )
  --         | CASE [or] WHEN or THEN or {WHEN or THEN or} [ELSE or] END
  -- A call of no known function and a number with an exponent are faults here.
  abbrev pub primary_of : Form → Counting Expr
  primary_of literal_text = literal (same_class k.Text) (λ s. e.Text (text_in s.token))
  primary_of literal_number = literal is_number (λ s. e.Number (number_in s.token))
  primary_of truth = literal (same_class k.True) (λ s. e.Bool true)
  primary_of untruth = literal (same_class k.False) (λ s. e.Bool false)
  primary_of null_form = literal (same_class k.Null) (λ s. e.Null)
  primary_of missing_form = literal (same_class k.Missing) (λ s. e.Missing)
  primary_of path_form = path
  primary_of unknown_call = plain (fault unknown_function (λ s. is_unknown_call (class s)))
  primary_of exponent_form = plain (fault unsupported_type (of k.ExponentNumber))
  primary_of cast_form = cast
  primary_of group_form = group
  primary_of case_form = case
  primary_of coalesce_form = coalesce
  primary_of nullif_form = nullif
  primary_of char_length_form = call k.CharLengthCalled (given e.CharLength inner)
  primary_of lower_form = call k.LowerCalled (given e.Lower inner)
  primary_of upper_form = call k.UpperCalled (given e.Upper inner)
  primary_of substring_form = substring
  primary_of trim_form = trim
  primary_of extract_form = extract
  primary_of date_add_form = date_add
  primary_of to_timestamp_form = call k.ToTimestampCalled (given e.ToTimestamp inner)

  unfoldable pub primary : Counting Expr
  primary n = alternatives (λ form. primary_of form n)

  -- unary = [-] primary
  unfoldable pub unary : Counting Expr
  unary = given (λ p. unary_node p.0 p.1) (both (flag k.Minus) primary)

  -- prod = unary {(* | / | %) unary}
  abbrev pub prod_part : Counting ProdPart
  prod_part = given (λ p. roll-ProdPart (record { op = p.0; member = p.1 })) (both (plain (terminal (one_told prod_op))) unary)

  unfoldable pub prod : Counting Expr
  prod = chain prod_node unary prod_part

  -- sum = prod {(+ | -) prod}
  abbrev pub sum_part : Counting SumPart
  sum_part = given (λ p. roll-SumPart (record { op = p.0; member = p.1 })) (both (plain (terminal (one_told sum_op))) prod)

  unfoldable pub sum : Counting Expr
  sum = chain sum_node prod sum_part

  -- tail = (= | <> | != | < | <= | > | >=) sum
  abbrev pub comparison : Counting Tail
  comparison = given (λ p. comparing p.0 p.1) (both (plain (terminal (one_told compare_op))) sum)

  -- BETWEEN sum AND sum
  abbrev pub between : Bool → Counting Tail
  between negated = past (of k.Between) (given (λ p. lying negated p.0 p.1) (both sum (past (of k.And) sum)))

  -- ( or {, or} ), of at most 1,000 members
  abbrev pub members : Counting (List Expr)
  members = enclosed room.here (list_of 1000 (λ s. over_class room.deeper (class s)) (of k.Comma) inner)

  -- IN ( or {, or} )
  abbrev pub in_members : Bool → Counting Tail
  in_members negated = past (of k.In) (given (among negated) members)

  -- LIKE text [ESCAPE text]
  abbrev pub like : Bool → Counting Tail
  like negated = past (of k.Like) (plain (begun text (λ pattern. made (λ esc. liking negated pattern esc) (either (preceded_by (token (of k.Escape)) (terminal (escape pattern))) (nothing None)))))

  -- IS [NOT] (NULL | MISSING)
  abbrev pub is_tail : Counting Tail
  is_tail = past (of k.Is) (perhaps (plain (token (of k.Not))) (λ negated. plain (terminal (one_told (is_what (is_some negated))))))

  -- [NOT] G
  abbrev pub negatable : (Bool → Counting Tail) → Counting Tail
  negatable G = perhaps (plain (token (of k.Not))) (λ negated. G (is_some negated))

  -- tail = (= | <> | != | < | <= | > | >=) sum
  --      | [NOT] BETWEEN sum AND sum
  --      | [NOT] IN ( or {, or} )
  --      | [NOT] LIKE text [ESCAPE text]
  --      | IS [NOT] (NULL | MISSING)
  unfoldable pub tail : Counting Tail
  tail n = either (comparison n) (either (either (negatable between n) (either (negatable in_members n) (negatable like n))) (is_tail n))

  -- pred = sum [tail]
  unfoldable pub pred : Counting Expr
  pred = given (λ p. pred_node p.0 p.1) (both sum (maybe tail))

  -- not = [NOT] pred
  unfoldable pub negation : Counting Expr
  negation = given (λ p. not_node p.0 p.1) (both (flag k.Not) pred)

  -- and = not {AND not}
  unfoldable pub conjunction : Counting Expr
  conjunction = chain and_node negation (past (of k.And) negation)

  -- or = and {OR and}
  unfoldable pub disjunction : Counting Expr
  disjunction = chain or_node conjunction (past (of k.Or) conjunction)

-- ---- depth

abbrev pub room_of : ℕ → Room
room_of depth = record { here = nat_lt 0 depth; deeper = nat_lt 1 depth }

-- the expressions in which so many brackets and CASE may be open in one another; where none may, the bracket is the fault, and what
-- would stand in it is too deep
unfoldable pub expression : ℕ → Counting Expr
expression zero = disjunction (room_of 0) (plain (fault too_deep (λ s. begins_expression (class s))))
expression (suc depth) = disjunction (room_of (suc depth)) (expression depth)
