-- The loop over the names follows the reader of a path.
use Rattle.std.proofs.Common.{length, length-drop, sym, ap, ◌∙◌, arith}
use Rattle.std.proofs.lemmas.Result.{err_from_is_err_and}
use Rattle.grammar_rules.specs.WorkedSelecting.{fault_of}
use Rattle.grammar_rules.proofs.WorkedSelectionSteps.{names_begin, names_step, names_stop, names_fail}
use Rattle.grammar_rules.proofs.worked.selections.name_rest.Goals as goal

pub names-init : goal.names-init
names-init c = record { reads = rw c.new-names.ensures (names_begin c.args.first c.args.values.now c.args.words.now); passes = omega arith }

pub names-preserved : goal.names-preserved
names-preserved c = record {
  reads =
      let e = names_step c.args.first c.names.values c.names.names c.names.words c.in_ok-next.next c.name.new.values c.name.new.words (sym c.sees.ensures ∙ c.names-test.true) (rw (← c.skip.ensures) c.in_ok-next.ensures.gives) in
      rw c.in_ok-push.ensures.ok (c.names.invariant.reads ∙ e);
  passes =
      let d = length-drop 1 c.names.words in
      let l = ap length c.skip.ensures in
      omega (arith, c.in_ok-next.ensures.passes, c.names.invariant.passes);
}

pub returns-clause-gives : goal.returns-clause-gives
returns-clause-gives c = c.names.invariant.reads ∙ names_stop c.args.first c.names.values c.names.names c.names.words (sym c.sees.ensures ∙ c.names-test.false)

pub returns-in_err-next-clause-gives : goal.returns-in_err-next-clause-gives
returns-in_err-next-clause-gives c =
    let p = err_from_is_err_and c.from_residual.result c.from_residual.ensures.1 in
    rw (p.1, p.2)
    (λ n. c.names.invariant.reads ∙ names_fail c.args.first c.names.values c.names.names c.names.words (fault_of c.in_err-next.field-0.0) c.name.new.words (sym c.sees.ensures ∙ c.names-test.true) (rw (← c.skip.ensures) (c.in_err-next.ensures.gives n)))
