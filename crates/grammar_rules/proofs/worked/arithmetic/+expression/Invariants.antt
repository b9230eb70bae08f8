-- What the loops over the terms and the arguments have read, and that the descent ends.
use Rattle.std.proofs.Common.{◌≡◌, ◌+◌, ◌*◌, ◌≤◌, length}
use Rattle.grammar_rules.specs.declared.worked.arithmetic.Expression.TheVariants.{Sum}
use Rattle.grammar_rules.specs.Readers.{read_made}
use Rattle.grammar_rules.specs.WorkedExpressionReaders.{read_sum, read_list, read_brackets}
use Rattle.grammar_rules.proofs.WorkedExpressionSteps.{terms_left, sums_left}
use Rattle.grammar_rules.proofs.worked.arithmetic.+expression.Given as goal

abbrev pub decreases-arguments : goal.decreases-arguments
decreases-arguments l = 4 * l.depth

abbrev pub decreases-group : goal.decreases-group
decreases-group l = 4 * l.depth

abbrev pub decreases-term : goal.decreases-term
decreases-term l = 4 * l.depth + 1

abbrev pub decreases-sum : goal.decreases-sum
decreases-sum l = 4 * l.depth + 2

abbrev pub decreases-list : goal.decreases-list
decreases-list l = 4 * l.depth + 3

abbrev pub invariant-sum-terms : goal.invariant-sum-terms
invariant-sum-terms l = record {
  reads : read_sum (read_brackets l.fn.depth) l.fn.tokens ≡ read_made Sum (terms_left l.fn.depth l.terms l.tokens);
  passes : length l.tokens ≤ length l.fn.tokens;
}

abbrev pub decreases-sum-terms : goal.decreases-sum-terms
decreases-sum-terms l = length l.tokens

abbrev pub invariant-list-sums : goal.invariant-list-sums
invariant-list-sums l = record {
  reads : read_list (read_sum (read_brackets l.fn.depth)) l.fn.tokens ≡ sums_left l.fn.depth l.sums l.tokens;
  passes : length l.tokens ≤ length l.fn.tokens;
}

abbrev pub decreases-list-sums : goal.decreases-list-sums
decreases-list-sums l = length l.tokens
