-- An expression is a disjunction, whose brackets have expressions of one level less.
use Rattle.std.proofs.Common.{◌∙◌}
use Rattle.sql_expressions.proofs.InsideSteps.{inside_none, inside_some, expression_is}
use Rattle.sql_expressions.proofs.brackets.+expression.Goals as goal

pub between_brackets-returns-then-depth-eq0 : goal.between_brackets-returns-then-depth-eq0
between_brackets-returns-then-depth-eq0 t c = λ m. inside_none c.args.depth c.args.primaries.now c.args.tokens.now.symbols c.if-depth-eq0.true ∙ c.too_deep.ensures c.args.primaries.now m

pub between_brackets-returns : goal.between_brackets-returns
between_brackets-returns t c = rw (inside_some c.args.depth c.args.primaries.now c.args.tokens.now.symbols c.if-depth-eq0.false) c.expression.ensures

pub expression-returns : goal.expression-returns
expression-returns t c = rw (expression_is c.args.depth c.args.primaries.now c.args.tokens.now.symbols) c.disjunction.ensures
