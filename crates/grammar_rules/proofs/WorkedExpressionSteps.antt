-- The steps of the small grammar's parser, as equations of its readers.
use Rattle.std.proofs.Common.{◌≡◌, ℕ, zero, suc, Bool, true, false, List, [], ◌∷◌, ◌++◌, drop, Option, Some, None, refl}
use Rattle.grammar_rules.specs.declared.worked.arithmetic.Token.{Token}
use Rattle.grammar_rules.specs.declared.worked.arithmetic.Expression.{Expression}
use Rattle.grammar_rules.specs.declared.worked.arithmetic.Expression.TheVariants.{Sum}
use Rattle.grammar_rules.specs.Rules.{token, preceded_by}
use Rattle.grammar_rules.specs.Readers.{Outcome, found, failed, and_then, read_made, starts, chosen, read_past, closed_by, read_many}
use Rattle.grammar_rules.specs.WorkedExpressions.{Limit, too_deep, is_plus, is_comma, is_open, is_close, term, sum, brackets}
use Rattle.grammar_rules.specs.WorkedExpressionReaders.{read_term, read_sum, read_list, read_brackets, read_open}
use Rattle.grammar_rules.proofs.Reading.{past_sight, reads-past}
use Rattle.grammar_rules.proofs.Many.{Shrinks, shrinks, many_step, many_stop, many_fail}
use Rattle.grammar_rules.proofs.WorkedExpressionProofs.{term_sight, sum_sight, reads-term, reads-expression, brackets_read}

-- what is behind an opening bracket, as the parser goes through it
behind_open : {A : Type 0} (depth : ℕ) (b : Bool) (ts : List Token) (next : ℕ → List Token → Outcome Token Limit A)
    → chosen b (next depth (drop 1 ts)) (failed None ts) ≡ and_then (chosen b (found depth (drop 1 ts)) (failed None ts)) next
behind_open depth true ts next = refl
behind_open depth false ts next = refl

too_deep_open : {A : Type 0} (b : Bool) (ts : List Token) (next : ℕ → List Token → Outcome Token Limit A)
    → chosen b (failed (Some too_deep) ts) (failed None ts) ≡ and_then (chosen b (failed (Some too_deep) ts) (failed None ts)) next
too_deep_open true ts next = refl
too_deep_open false ts next = refl

pub group_is : (depth : ℕ) (ts : List Token) → (read_brackets depth).group ts ≡ and_then (read_open depth ts) (λ d left. and_then (read_sum (read_brackets d) left) (closed_by is_close))
unfolding read_brackets
group_is zero ts = too_deep_open (starts is_open ts) ts (λ d left. and_then (read_sum (read_brackets d) left) (closed_by is_close))
group_is (suc depth) ts = behind_open depth (starts is_open ts) ts (λ d left. and_then (read_sum (read_brackets d) left) (closed_by is_close))

pub arguments_is : (depth : ℕ) (ts : List Token) → (read_brackets depth).arguments ts ≡ and_then (read_open depth ts) (λ d left. and_then (read_list (read_sum (read_brackets d)) left) (closed_by is_close))
unfolding read_brackets
arguments_is zero ts = too_deep_open (starts is_open ts) ts (λ d left. and_then (read_list (read_sum (read_brackets d)) left) (closed_by is_close))
arguments_is (suc depth) ts = behind_open depth (starts is_open ts) ts (λ d left. and_then (read_list (read_sum (read_brackets d)) left) (closed_by is_close))

-- more terms, behind those that were read
pub terms_left : ℕ → List Expression → List Token → Outcome Token Limit (List Expression)
terms_left depth so_far ts = read_made (λ rest. so_far ++ rest) (read_many is_plus (read_past is_plus (read_term (read_brackets depth))) ts)

-- more sums, behind those that were read
pub sums_left : ℕ → List Expression → List Token → Outcome Token Limit (List Expression)
sums_left depth so_far ts = read_made (λ rest. so_far ++ rest) (read_many is_comma (read_past is_comma (read_sum (read_brackets depth))) ts)

module _ (depth : ℕ) where
  less_term : Shrinks (read_past is_plus (read_term (read_brackets depth)))
  less_term =
      shrinks (preceded_by (token is_plus) (term (brackets depth))) (past_sight is_plus term_sight) (read_past is_plus (read_term (read_brackets depth)))
      (reads-past is_plus (term (brackets depth)) term_sight (read_term (read_brackets depth)) (reads-term (brackets depth) (read_brackets depth) (brackets_read depth))) refl

  less_sum : Shrinks (read_past is_comma (read_sum (read_brackets depth)))
  less_sum =
      shrinks (preceded_by (token is_comma) (sum (brackets depth))) (past_sight is_comma sum_sight) (read_past is_comma (read_sum (read_brackets depth)))
      (reads-past is_comma (sum (brackets depth)) sum_sight (read_sum (read_brackets depth)) (reads-expression depth)) refl

  pub terms_step : (so_far : List Expression) (ts : List Token) (a : Expression) (left : List Token) → starts is_plus ts ≡ true → read_term (read_brackets depth) (drop 1 ts) ≡ found a left → terms_left depth so_far ts ≡ terms_left depth (so_far ++ a ∷ []) left
  unfolding terms_left
  terms_step so_far ts a left e f = many_step is_plus (read_past is_plus (read_term (read_brackets depth))) less_term so_far ts a left e (rw e f)

  pub terms_stop : (so_far : List Expression) (ts : List Token) → starts is_plus ts ≡ false → terms_left depth so_far ts ≡ found so_far ts
  unfolding terms_left
  terms_stop so_far ts e = many_stop is_plus (read_past is_plus (read_term (read_brackets depth))) less_term so_far ts e

  pub terms_fail : (so_far : List Expression) (ts : List Token) (k : Option Limit) (left : List Token) → starts is_plus ts ≡ true → read_term (read_brackets depth) (drop 1 ts) ≡ failed k left → terms_left depth so_far ts ≡ failed k left
  unfolding terms_left
  terms_fail so_far ts k left e f = many_fail is_plus (read_past is_plus (read_term (read_brackets depth))) less_term so_far ts k left e (rw e f)

  pub sums_step : (so_far : List Expression) (ts : List Token) (a : Expression) (left : List Token) → starts is_comma ts ≡ true → read_sum (read_brackets depth) (drop 1 ts) ≡ found a left → sums_left depth so_far ts ≡ sums_left depth (so_far ++ a ∷ []) left
  unfolding sums_left
  sums_step so_far ts a left e f = many_step is_comma (read_past is_comma (read_sum (read_brackets depth))) less_sum so_far ts a left e (rw e f)

  pub sums_stop : (so_far : List Expression) (ts : List Token) → starts is_comma ts ≡ false → sums_left depth so_far ts ≡ found so_far ts
  unfolding sums_left
  sums_stop so_far ts e = many_stop is_comma (read_past is_comma (read_sum (read_brackets depth))) less_sum so_far ts e

  pub sums_fail : (so_far : List Expression) (ts : List Token) (k : Option Limit) (left : List Token) → starts is_comma ts ≡ true → read_sum (read_brackets depth) (drop 1 ts) ≡ failed k left → sums_left depth so_far ts ≡ failed k left
  unfolding sums_left
  sums_fail so_far ts k left e f = many_fail is_comma (read_past is_comma (read_sum (read_brackets depth))) less_sum so_far ts k left e (rw e f)

-- a sum begins with a term, and a list with a sum
pub sum_begins : (depth : ℕ) (ts : List Token) (a : Expression) (left : List Token) → read_term (read_brackets depth) ts ≡ found a left → read_sum (read_brackets depth) ts ≡ read_made Sum (terms_left depth (a ∷ []) left)
unfolding terms_left
sum_begins depth ts a left e = rw e

pub list_begins : (depth : ℕ) (ts : List Token) (a : Expression) (left : List Token) → read_sum (read_brackets depth) ts ≡ found a left → read_list (read_sum (read_brackets depth)) ts ≡ sums_left depth (a ∷ []) left
unfolding sums_left
list_begins depth ts a left e = rw e
