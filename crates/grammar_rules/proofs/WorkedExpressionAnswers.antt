-- What the parser's outcome says of the text, in the grammar's words.
use Rattle.std.proofs.Common.{◌≡◌, ◌≢◌, ℕ, ◌-◌, List, [], ◌∷◌, length, Option, Some, None, Result, Ok, Err, IfOk, IfSome, refl, subst, arith}
use Rattle.grammar_rules.specs.declared.worked.arithmetic.Token.{Token}
use Rattle.grammar_rules.specs.declared.worked.arithmetic.Expression.{Expression}
use Rattle.grammar_rules.specs.declared.worked.arithmetic.ParseError.{ParseError}
use Rattle.grammar_rules.specs.declared.worked.arithmetic.Failure.{Failure}
use Rattle.grammar_rules.specs.declared.worked.arithmetic.Failure.TheVariants.{Refused, Deep, Memory}
use Rattle.grammar_rules.specs.Readers.{Outcome, found, failed, answer}
use Rattle.grammar_rules.specs.Places.{RefusedThere, Answer, value, refusal, Answers}
use Rattle.grammar_rules.specs.WorkedExpressions.{Limit, too_deep, expression, any_expression, brackets, sum}
use Rattle.grammar_rules.specs.WorkedExpressionReaders.{read_sum, read_brackets}
use Rattle.grammar_rules.specs.WorkedParsing.{answer_of, error_of, fault_of}
use Rattle.grammar_rules.proofs.Answering.{answers}
use Rattle.grammar_rules.proofs.OneAnswer.{one_answer}
use Rattle.grammar_rules.specs.declared.worked.arithmetic.ParseError.TheVariants.{Syntax}
use Rattle.grammar_rules.proofs.WorkedExpressionLimits.{refused_at_any_depth, spelled_at_any_depth}
use Rattle.grammar_rules.proofs.WorkedExpressionProofs.{sum_sight, reads-expression}

module _ (depth : ℕ) (ts : List Token) where
  -- the outcome of the readers, as an answer, is what the grammar says
  pub said : Answers (expression depth) ts (answer (length ts) (read_sum (read_brackets depth) ts))
  unfolding expression
  said =
      let r = reads-expression depth in
      answers (sum (brackets depth)) r.clear.fronts ts (read_sum (read_brackets depth) ts) (r.right ts)

  said_of : (o : Outcome Token Limit Expression) → read_sum (read_brackets depth) ts ≡ o → Answers (expression depth) ts (answer (length ts) o)
  said_of o e = subst (λ q. Answers (expression depth) ts (answer (length ts) q)) e said

  pub at_end : (a : Expression) (left : List Token) → read_sum (read_brackets depth) ts ≡ found a left → length left ≡ 0 → Answers (expression depth) ts (value a)
  at_end a [] e l = said_of (found a []) e
  at_end a (t ∷ left) e l = absurd (omega arith)

  pub before_end : (a : Expression) (left : List Token) → read_sum (read_brackets depth) ts ≡ found a left → (length left ≡ 0 → ⊥) → Answers (expression depth) ts (refusal None (length ts - length left))
  before_end a [] e l = absurd (l refl)
  before_end a (t ∷ left) e l = said_of (found a (t ∷ left)) e

  pub at_failure : (k : Option Limit) (left : List Token) → read_sum (read_brackets depth) ts ≡ failed k left → Answers (expression depth) ts (refusal k (length ts - length left))
  at_failure k left e = said_of (failed k left) e

  -- an error that tells a failure is the answer, but for want of memory
  pub failed_said : (e : Failure) (left : List Token) → (e ≢ Memory → read_sum (read_brackets depth) ts ≡ failed (fault_of e) left) → IfSome (answer_of (Err (error_of e (length ts - length left)))) (λ y. Answers (expression depth) ts y)
  failed_said Refused left h = at_failure None left (h (λ q. cc))
  failed_said Deep left h = at_failure (Some too_deep) left (h (λ q. cc))
  failed_said Memory left h = tt

  -- the grammar says one thing of each text
  pub said_once : (x y : Answer Limit Expression) → Answers (expression depth) ts x → Answers (expression depth) ts y → x ≡ y
  unfolding expression
  said_once x y v w = one_answer (sum (brackets depth)) sum_sight (reads-expression depth).clear ts x y v w

  pub only_answer : (o : Option (Answer Limit Expression)) → IfSome o (λ y. Answers (expression depth) ts y) → (x : Answer Limit Expression) → Answers (expression depth) ts x → IfSome o (λ y. y ≡ x)
  only_answer None v x w = tt
  only_answer (Some y) v x w = said_once y x v w

  -- the limit on the depth takes nothing else away, and moves no place
  pub ok_at_any_depth : (r : Result Expression ParseError) → IfSome (answer_of r) (λ y. Answers (expression depth) ts y) → IfOk r (λ e. any_expression.Spells e ts)
  ok_at_any_depth (Ok e) s = spelled_at_any_depth depth ts e s
  ok_at_any_depth (Err e) s = tt

  pub syntax_at_any_depth : (r : Result Expression ParseError) → IfSome (answer_of r) (λ y. Answers (expression depth) ts y) → (at : ℕ) → r ≡ Err (Syntax at) → RefusedThere any_expression ts at
  syntax_at_any_depth r s at e = refused_at_any_depth depth ts at (subst (λ q. IfSome (answer_of q) (λ y. Answers (expression depth) ts y)) e s)
