-- Each bracket leaves room for one less.
use Rattle.std.proofs.Common.{◌+◌, ◌*◌}
use Rattle.sql_expressions.proofs.brackets.+expression.Given as goal

abbrev pub decreases-between_brackets : goal.decreases-between_brackets
decreases-between_brackets l = 3 * l.depth

abbrev pub decreases-expression-closure : goal.decreases-expression-closure
decreases-expression-closure l = 3 * l.depth + 1

abbrev pub decreases-expression : goal.decreases-expression
decreases-expression l = 3 * l.depth + 2
