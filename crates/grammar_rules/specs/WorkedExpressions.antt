-- A small grammar of sums, brackets and argument lists, as an example of a grammar in rules:
--
--   sum       = term { "+" term }
--   term      = number | call | "(" sum ")"
--   call      = name "(" sum { "," sum } ")"
--
-- and of its readers, which mirror the rules one by one.
use Rattle.std.specs.Prelude.{ℕ, zero, suc, Bool, true, false, List}
use Rattle.grammar_rules.specs.declared.worked.arithmetic.Token.{Token}
use Rattle.grammar_rules.specs.declared.worked.arithmetic.Token.TheVariants.{Number, Name, Plus, Comma, Open, Close}
use Rattle.grammar_rules.specs.declared.worked.arithmetic.Expression.{Expression}
use Rattle.grammar_rules.specs.declared.worked.arithmetic.Expression.TheVariants.{Literal, Sum, Call}
use Rattle.grammar_rules.specs.Rules.{Rule, Verdict, takes, refuses, terminal, token, fault, never, made, either, headed, many, followed_by, preceded_by, ◌&◌, alternatives}

-- the one limit: brackets that are nested too deep
pub data Limit : Type 0 where
  too_deep : Limit

abbrev pub is_plus : Token → Bool
is_plus Plus = true
is_plus _ = false

abbrev pub is_comma : Token → Bool
is_comma Comma = true
is_comma _ = false

abbrev pub is_open : Token → Bool
is_open Open = true
is_open _ = false

abbrev pub is_close : Token → Bool
is_close Close = true
is_close _ = false

-- the literal that a number is
abbrev pub number : Token → Verdict Limit Expression
number (Number n) = takes (Literal n)
number _ = refuses

-- the name
abbrev pub name : Token → Verdict Limit ℕ
name (Name n) = takes n
name _ = refuses

-- what stands with its brackets: a sum, and a list of arguments
pub record Brackets : Type 1 where
  pub group : Rule Token Limit Expression
  pub arguments : Rule Token Limit (List Expression)

-- call = name arguments
abbrev pub call : Rule Token Limit (List Expression) → Rule Token Limit Expression
call arguments = made (λ p. Call p.0 p.1) (terminal name & arguments)

-- term = number | call | group
abbrev pub term : Brackets → Rule Token Limit Expression
term b = either (terminal number) (either (call b.arguments) b.group)

-- sum = term { "+" term }
abbrev pub sum : Brackets → Rule Token Limit Expression
sum b = made Sum (headed (term b) (many (preceded_by (token is_plus) (term b))))

-- "(" G ")"
abbrev pub enclosed : {A : Type 0} → Rule Token Limit A → Rule Token Limit A
enclosed G = preceded_by (token is_open) (followed_by G (token is_close))

-- G { "," G }
abbrev pub list : {A : Type 0} → Rule Token Limit A → Rule Token Limit (List A)
list G = headed G (many (preceded_by (token is_comma) G))

-- group = "(" sum ")" and arguments = "(" sum { "," sum } ")", where so many brackets may be open in
-- one another; one more is too deep
unfoldable pub brackets : ℕ → Brackets
brackets zero = record { group = fault too_deep is_open; arguments = fault too_deep is_open }
brackets (suc depth) = record { group = enclosed (sum (brackets depth)); arguments = enclosed (list (sum (brackets depth))) }

-- the expressions with at most so many brackets open
unfoldable pub expression : ℕ → Rule Token Limit Expression
expression depth = sum (brackets depth)

-- the same without a fault for what is too deep
unfoldable pub some_brackets : ℕ → Brackets
some_brackets zero = record { group = never; arguments = never }
some_brackets (suc depth) = record { group = enclosed (sum (some_brackets depth)); arguments = enclosed (list (sum (some_brackets depth))) }

-- the expressions of any depth
unfoldable pub any_expression : Rule Token Limit Expression
any_expression = alternatives (λ depth. sum (some_brackets depth))
