-- Each aggregate by its name.
use Rattle.std.proofs.Common.{sym, ◌∙◌}
use Rattle.select_sql.proofs.QuerySteps.{any_count, any_sum, any_min, any_max, any_avg}
use Rattle.select_sql.proofs.totals.any_agg.Goals as goal

pub returns-then-sees : goal.returns-then-sees
returns-then-sees c = rw (any_count c.args.primaries.now c.args.tokens.now.symbols (sym c.sees.ensures ∙ c.if-sees.true)) c.count.ensures

pub returns-then-sees-2 : goal.returns-then-sees-2
returns-then-sees-2 c = rw (any_sum c.args.primaries.now c.args.tokens.now.symbols (sym c.sees-2.ensures ∙ c.if-sees-2.true)) c.aggregate.ensures

pub returns-then-sees-3 : goal.returns-then-sees-3
returns-then-sees-3 c = rw (any_min c.args.primaries.now c.args.tokens.now.symbols (sym c.sees-3.ensures ∙ c.if-sees-3.true)) c.aggregate-then-sees-3.ensures

pub returns-then-sees-4 : goal.returns-then-sees-4
returns-then-sees-4 c = rw (any_max c.args.primaries.now c.args.tokens.now.symbols (sym c.sees-4.ensures ∙ c.if-sees-4.true)) c.aggregate-then-sees-4.ensures

pub returns : goal.returns
returns c =
    rw (any_avg c.args.primaries.now c.args.tokens.now.symbols (sym c.sees.ensures ∙ c.if-sees.false) (sym c.sees-2.ensures ∙ c.if-sees-2.false) (sym c.sees-3.ensures ∙ c.if-sees-3.false) (sym c.sees-4.ensures ∙ c.if-sees-4.false))
    c.aggregate-2.ensures
