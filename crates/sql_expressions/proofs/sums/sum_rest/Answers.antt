-- The loop over the parts follows the reader.
use Rattle.std.proofs.Common.{sym, refl, ◌∙◌}
use Rattle.std.proofs.lemmas.Result.{err_from_is_err_and}
use Rattle.sql_grammar.specs.Readers.{is_sum_op}
use Rattle.sql_leaves.proofs.CountedSteps.{first_begins}
use Rattle.sql_leaves.specs.Parsing.{fault_of}
use Rattle.sql_expressions.proofs.ChainSteps.{sum_start, sum_shorter, sum_on, sum_stop, sum_fail}
use Rattle.sql_expressions.proofs.sums.sum_rest.Goals as goal

pub parts-init : goal.parts-init
parts-init g c = sum_start c.args.nest.now.depth c.args.first c.new-rest.result c.args.primaries.now c.args.tokens.now.symbols c.new-rest.ensures

pub returns-in_err-part : goal.returns-in_err-part
returns-in_err-part g c =
    let p = err_from_is_err_and c.from_residual.result c.from_residual.ensures.1 in
    rw (p.1, p.2)
    (λ m. c.parts.invariant ∙ sum_fail c.args.nest.now.depth c.args.first c.parts.rest c.parts.primaries c.parts.tokens.symbols (fault_of c.in_err-part.field-0.0) c.sum_part.new.tokens.symbols (sym (first_begins is_sum_op refl c.parts.tokens.symbols) ∙ rw (← c.class.ensures) (sym c.is_sum_op.ensures ∙ c.parts-test.true)) (c.in_err-part.ensures m))

pub parts-smaller : goal.parts-smaller
parts-smaller g c = sum_shorter c.args.nest.now.depth c.parts.primaries c.parts.tokens.symbols c.in_ok-part.part c.sum_part.new.primaries c.sum_part.new.tokens.symbols c.in_ok-part.ensures

pub parts-preserved : goal.parts-preserved
parts-preserved g c =
    rw (c.in_ok-push.ensures.ok)
    (c.parts.invariant ∙ sum_on c.args.nest.now.depth c.args.first c.parts.rest c.parts.primaries c.parts.tokens.symbols c.in_ok-part.part c.sum_part.new.primaries c.sum_part.new.tokens.symbols (sym (first_begins is_sum_op refl c.parts.tokens.symbols) ∙ rw (← c.class.ensures) (sym c.is_sum_op.ensures ∙ c.parts-test.true)) c.in_ok-part.ensures)

pub returns : goal.returns
returns g c = rw c.in_ok-sum_of.ensures (c.parts.invariant ∙ sum_stop c.args.nest.now.depth c.args.first c.parts.rest c.parts.primaries c.parts.tokens.symbols (sym (first_begins is_sum_op refl c.parts.tokens.symbols) ∙ rw (← c.class.ensures) (sym c.is_sum_op.ensures ∙ c.parts-test.false)))
