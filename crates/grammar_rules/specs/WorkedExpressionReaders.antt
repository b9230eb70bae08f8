-- The readers of the small grammar of sums, which mirror its rules one by one.
use Rattle.std.specs.Prelude.{ℕ, zero, suc, List, drop, None}
use Rattle.grammar_rules.specs.declared.worked.arithmetic.Token.{Token}
use Rattle.grammar_rules.specs.declared.worked.arithmetic.Expression.{Expression}
use Rattle.grammar_rules.specs.declared.worked.arithmetic.Expression.TheVariants.{Sum, Call}
use Rattle.grammar_rules.specs.WorkedExpressions.{Limit, too_deep, is_plus, is_comma, is_open, is_close, number, name}
use Rattle.grammar_rules.specs.Readers.{Outcome, found, failed, read_made, read_terminal, is_seen, starts, chosen, read_fault, read_past, read_before, read_pair, read_headed, read_either, read_many}

-- the readers of what stands with its brackets
pub record BracketReaders : Type 0 where
  pub group : List Token → Outcome Token Limit Expression
  pub arguments : List Token → Outcome Token Limit (List Expression)

abbrev pub read_call : (List Token → Outcome Token Limit (List Expression)) → List Token → Outcome Token Limit Expression
read_call arguments ts = read_made (λ p. Call p.0 p.1) (read_pair (read_terminal name) arguments ts)

abbrev pub read_term : BracketReaders → List Token → Outcome Token Limit Expression
read_term b =
    read_either (λ t. is_seen (number t)) (read_terminal number)
    (read_either (λ t. is_seen (name t)) (read_call b.arguments) b.group)

abbrev pub read_sum : BracketReaders → List Token → Outcome Token Limit Expression
read_sum b ts = read_made Sum (read_headed (read_term b) (read_many is_plus (read_past is_plus (read_term b))) ts)

abbrev pub read_enclosed : {A : Type 0} → (List Token → Outcome Token Limit A) → List Token → Outcome Token Limit A
read_enclosed read = read_past is_open (read_before is_close read)

abbrev pub read_list : {A : Type 0} → (List Token → Outcome Token Limit A) → List Token → Outcome Token Limit (List A)
read_list read = read_headed read (read_many is_comma (read_past is_comma read))

unfoldable pub read_brackets : ℕ → BracketReaders
read_brackets zero = record { group = read_fault too_deep is_open; arguments = read_fault too_deep is_open }
read_brackets (suc depth) = record {
  group = read_enclosed (read_sum (read_brackets depth));
  arguments = read_enclosed (read_list (read_sum (read_brackets depth)));
}

-- an opening bracket is passed, where one more may be open: how many more still may
abbrev pub read_open : ℕ → List Token → Outcome Token Limit ℕ
read_open zero ts = read_fault too_deep is_open ts
read_open (suc depth) ts = chosen (starts is_open ts) (found depth (drop 1 ts)) (failed None ts)
