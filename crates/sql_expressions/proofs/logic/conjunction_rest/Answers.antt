-- The loop over the parts follows the reader.
use Rattle.std.proofs.Common.{sym, ◌∙◌}
use Rattle.std.proofs.lemmas.Result.{err_from_is_err_and}
use Rattle.sql_leaves.specs.Parsing.{fault_of}
use Rattle.sql_expressions.proofs.ChainSteps.{conjunction_start, conjunction_shorter, conjunction_on, conjunction_stop, conjunction_fail}
use Rattle.sql_expressions.proofs.logic.conjunction_rest.Goals as goal

pub parts-init : goal.parts-init
parts-init g c = conjunction_start c.args.nest.now.depth c.args.first c.new-rest.result c.args.primaries.now c.args.tokens.now.symbols c.new-rest.ensures

pub returns-in_err-part : goal.returns-in_err-part
returns-in_err-part g c =
    let p = err_from_is_err_and c.from_residual.result c.from_residual.ensures.1 in
    rw (p.1, p.2)
    (λ m. c.parts.invariant ∙ conjunction_fail c.args.nest.now.depth c.args.first c.parts.rest c.parts.primaries c.parts.tokens.symbols (fault_of c.in_err-part.field-0.0) c.and_part.new.tokens.symbols (sym c.sees.ensures ∙ c.parts-test.true) (c.in_err-part.ensures m))

pub parts-smaller : goal.parts-smaller
parts-smaller g c = conjunction_shorter c.args.nest.now.depth c.parts.primaries c.parts.tokens.symbols c.in_ok-part.part c.and_part.new.primaries c.and_part.new.tokens.symbols c.in_ok-part.ensures

pub parts-preserved : goal.parts-preserved
parts-preserved g c =
    rw (c.in_ok-push.ensures.ok, c.into_inner.ensures)
    (c.parts.invariant ∙ conjunction_on c.args.nest.now.depth c.args.first c.parts.rest c.parts.primaries c.parts.tokens.symbols c.in_ok-part.part c.and_part.new.primaries c.and_part.new.tokens.symbols (sym c.sees.ensures ∙ c.parts-test.true) c.in_ok-part.ensures)

pub returns : goal.returns
returns g c = rw c.in_ok-and_of.ensures (c.parts.invariant ∙ conjunction_stop c.args.nest.now.depth c.args.first c.parts.rest c.parts.primaries c.parts.tokens.symbols (sym c.sees.ensures ∙ c.parts-test.false))
