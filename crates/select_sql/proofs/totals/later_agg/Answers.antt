-- An aggregate, or why none begins there.
use Rattle.std.proofs.Common.{sym, refl, ◌∙◌}
use Rattle.sql_leaves.specs.Parsing.{fault_of}
use Rattle.select_sql.proofs.QuerySteps.{agg_failed, agg_is}
use Rattle.select_sql.proofs.totals.later_agg.Goals as goal

pub returns-then-not-is_agg : goal.returns-then-not-is_agg
returns-then-not-is_agg c = λ m. agg_failed c.args.primaries.now c.args.tokens.now.symbols (fault_of c.mixed.result) c.args.tokens.now.symbols (rw (← c.class-class.ensures) (sym c.is_agg.ensures ∙ c.if-not-is_agg.true)) (rw (← c.class-class.ensures) c.mixed.ensures.1) refl

pub returns : goal.returns
returns c = rw (agg_is c.args.primaries.now c.args.tokens.now.symbols (rw (← c.class-class.ensures) (sym c.is_agg.ensures ∙ c.if-not-is_agg.false))) c.any_agg.ensures
