-- FROM, the source, WHERE and the end.
use Rattle.std.proofs.Common.{sym, ap, ◌∙◌}
use Rattle.std.proofs.lemmas.Result.{err_from_is_err_and}
use Rattle.sql_leaves.specs.Parsing.{fault_of}
use Rattle.select_sql.specs.Written.{listed}
use Rattle.select_sql.proofs.SelectSteps.{behind_none, behind_sourceless, behind_steps, behind_alias, behind_filter, behind_ending, behind_found}
use Rattle.select_sql.proofs.query.behind_list.Goals as goal

pub returns-in_err-expect : goal.returns-in_err-expect
returns-in_err-expect c =
    let p = err_from_is_err_and c.from_residual.result c.from_residual.ensures.1 in
    let h = c.in_err-expect.ensures in
    rw (p.1, p.2, h.2, h.1) (λ m. behind_none (listed c.args.list) c.args.primaries.now c.args.tokens.now.symbols h.0)

pub returns-then-not-is_source : goal.returns-then-not-is_source
returns-then-not-is_source c = λ m. behind_sourceless (listed c.args.list) c.args.primaries.now c.args.tokens.now.symbols c.in_ok-expect.ensures.0 c.expect.new.tokens.symbols c.in_ok-expect.ensures.1 (rw (← c.class.ensures) (sym c.is_source.ensures ∙ c.if-not-is_source.true))

pub returns-in_err-steps : goal.returns-in_err-steps
returns-in_err-steps c =
    let p = err_from_is_err_and c.from_residual-in_err-steps.result c.from_residual-in_err-steps.ensures.1 in
    let n = c.args.primaries.now in
    rw (p.1, p.2) (λ m. behind_steps (listed c.args.list) c.args.primaries.now c.args.tokens.now.symbols c.in_ok-expect.ensures.0 c.expect.new.tokens.symbols c.in_ok-expect.ensures.1 (rw (← c.class.ensures) (sym c.is_source.ensures ∙ c.if-not-is_source.false)) c.skip.new.self.symbols (ap (λ r. r.symbols) c.skip.ensures) (fault_of c.in_err-steps.field-0.0) c.source_steps.new.tokens.symbols (c.in_err-steps.ensures n m))

pub returns-in_err-alias : goal.returns-in_err-alias
returns-in_err-alias c =
    let p = err_from_is_err_and c.from_residual-in_err-alias.result c.from_residual-in_err-alias.ensures.1 in
    let n = c.args.primaries.now in
    rw (p.1, p.2) (λ m. behind_alias (listed c.args.list) c.args.primaries.now c.args.tokens.now.symbols c.in_ok-expect.ensures.0 c.expect.new.tokens.symbols c.in_ok-expect.ensures.1 (rw (← c.class.ensures) (sym c.is_source.ensures ∙ c.if-not-is_source.false)) c.skip.new.self.symbols (ap (λ r. r.symbols) c.skip.ensures) c.in_ok-steps.steps c.source_steps.new.tokens.symbols (c.in_ok-steps.ensures n) (fault_of c.in_err-alias.field-0.0) c.alias.new.tokens.symbols (c.in_err-alias.ensures n m))

pub returns-in_err-filter : goal.returns-in_err-filter
returns-in_err-filter c =
    let p = err_from_is_err_and c.from_residual-in_err-filter.result c.from_residual-in_err-filter.ensures.1 in
    let n = c.args.primaries.now in
    rw (p.1, p.2) (λ m. behind_filter (listed c.args.list) c.args.primaries.now c.args.tokens.now.symbols c.in_ok-expect.ensures.0 c.expect.new.tokens.symbols c.in_ok-expect.ensures.1 (rw (← c.class.ensures) (sym c.is_source.ensures ∙ c.if-not-is_source.false)) c.skip.new.self.symbols (ap (λ r. r.symbols) c.skip.ensures) c.in_ok-steps.steps c.source_steps.new.tokens.symbols (c.in_ok-steps.ensures n) c.in_ok-alias.alias c.alias.new.tokens.symbols (c.in_ok-alias.ensures n) (fault_of c.in_err-filter.field-0.0) c.filter.new.tokens.symbols (c.in_err-filter.ensures m))

pub returns-in_err-limit : goal.returns-in_err-limit
returns-in_err-limit c =
    let p = err_from_is_err_and c.from_residual-in_err-limit.result c.from_residual-in_err-limit.ensures.1 in
    let n = c.args.primaries.now in
    rw (p.1, p.2) (λ m. behind_ending (listed c.args.list) c.args.primaries.now c.args.tokens.now.symbols c.in_ok-expect.ensures.0 c.expect.new.tokens.symbols c.in_ok-expect.ensures.1 (rw (← c.class.ensures) (sym c.is_source.ensures ∙ c.if-not-is_source.false)) c.skip.new.self.symbols (ap (λ r. r.symbols) c.skip.ensures) c.in_ok-steps.steps c.source_steps.new.tokens.symbols (c.in_ok-steps.ensures n) c.in_ok-alias.alias c.alias.new.tokens.symbols (c.in_ok-alias.ensures n) c.in_ok-filter.filter c.filter.new.primaries c.filter.new.tokens.symbols c.in_ok-filter.ensures (fault_of c.in_err-limit.field-0.0) c.ending.new.tokens.symbols (c.in_err-limit.ensures m))

pub returns : goal.returns
returns c =
    let n = c.args.primaries.now in
    behind_found (listed c.args.list) c.args.primaries.now c.args.tokens.now.symbols c.in_ok-expect.ensures.0 c.expect.new.tokens.symbols c.in_ok-expect.ensures.1 (rw (← c.class.ensures) (sym c.is_source.ensures ∙ c.if-not-is_source.false)) c.skip.new.self.symbols (ap (λ r. r.symbols) c.skip.ensures) c.in_ok-steps.steps c.source_steps.new.tokens.symbols (c.in_ok-steps.ensures n) c.in_ok-alias.alias c.alias.new.tokens.symbols (c.in_ok-alias.ensures n) c.in_ok-filter.filter c.filter.new.primaries c.filter.new.tokens.symbols c.in_ok-filter.ensures c.in_ok-limit.limit c.ending.new.tokens.symbols c.in_ok-limit.ensures
