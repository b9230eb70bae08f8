-- The parser's functions follow their readers.
use Rattle.std.proofs.Common.{sym, ap, ◌∙◌, arith, rules, length, length-drop}
use Rattle.std.proofs.lemmas.Result.{err_from_is_err_and}
use Rattle.grammar_rules.specs.WorkedParsing.{fault_of}
use Rattle.grammar_rules.specs.declared.worked.arithmetic.Expression.TheVariants.{Sum}
use Rattle.grammar_rules.specs.Readers.{read_made}
use Rattle.grammar_rules.proofs.WorkedExpressionSteps.{group_is, arguments_is, terms_step, terms_stop, terms_fail, sums_step, sums_stop, sums_fail, sum_begins, list_begins}
use Rattle.grammar_rules.proofs.worked.arithmetic.+expression.Goals as goal

pub group-returns-in_err-left-clause-gives : goal.group-returns-in_err-left-clause-gives
group-returns-in_err-left-clause-gives t c = rw (group_is c.args.depth c.args.tokens.now) (search rules)

pub group-returns-in_err-inner-clause-gives : goal.group-returns-in_err-inner-clause-gives
group-returns-in_err-inner-clause-gives t c = rw (group_is c.args.depth c.args.tokens.now) (search rules)

pub group-returns-clause-gives : goal.group-returns-clause-gives
group-returns-clause-gives t c = rw (group_is c.args.depth c.args.tokens.now) (search rules)

pub arguments-returns-in_err-left-clause-gives : goal.arguments-returns-in_err-left-clause-gives
arguments-returns-in_err-left-clause-gives t c = rw (arguments_is c.args.depth c.args.tokens.now) (search rules)

pub arguments-returns-in_err-inner-clause-gives : goal.arguments-returns-in_err-inner-clause-gives
arguments-returns-in_err-inner-clause-gives t c = rw (arguments_is c.args.depth c.args.tokens.now) (search rules)

pub arguments-returns-clause-gives : goal.arguments-returns-clause-gives
arguments-returns-clause-gives t c = rw (arguments_is c.args.depth c.args.tokens.now) (search rules)

pub sum-terms-init : goal.sum-terms-init
sum-terms-init t c = record {
  reads = rw (c.in_ok-push.ensures.ok, c.new-terms.ensures) (sum_begins c.args.depth c.args.tokens.now c.in_ok-first.first c.term.new.tokens c.in_ok-first.ensures.gives);
  passes = c.in_ok-first.ensures.passes;
}

pub sum-terms-preserved : goal.sum-terms-preserved
sum-terms-preserved t c = record {
  reads =
      let e = terms_step c.args.depth c.terms.terms c.terms.tokens c.in_ok-next.next c.term-in-terms.new.tokens (sym c.is_at_plus.ensures ∙ c.terms-test.true) (rw (← c.skip.ensures) c.in_ok-next.ensures.gives) in
      rw c.in_ok-push-2.ensures.ok (c.terms.invariant.reads ∙ ap (read_made Sum) e);
  passes =
      let d = length-drop 1 c.terms.tokens in
      let l = ap length c.skip.ensures in
      omega (arith, c.in_ok-next.ensures.passes, c.terms.invariant.passes);
}

pub sum-returns-clause-gives : goal.sum-returns-clause-gives
sum-returns-clause-gives t c =
    rw (c.terms.invariant.reads, terms_stop c.args.depth c.terms.terms c.terms.tokens (sym c.is_at_plus.ensures ∙ c.terms-test.false))

pub sum-returns-in_err-next-clause-gives : goal.sum-returns-in_err-next-clause-gives
sum-returns-in_err-next-clause-gives t c =
    let p = err_from_is_err_and c.from_residual-in_err-next.result c.from_residual-in_err-next.ensures.1 in
    rw (c.terms.invariant.reads, p.1, p.2)
    (λ n. ap (read_made Sum) (terms_fail c.args.depth c.terms.terms c.terms.tokens (fault_of c.in_err-next.field-0.0) c.term-in-terms.new.tokens (sym c.is_at_plus.ensures ∙ c.terms-test.true) (rw (← c.skip.ensures) (c.in_err-next.ensures.gives n))))

pub list-sums-init : goal.list-sums-init
list-sums-init t c = record {
  reads = rw (c.in_ok-push.ensures.ok, c.new-sums.ensures) (list_begins c.args.depth c.args.tokens.now c.in_ok-first.first c.sum.new.tokens c.in_ok-first.ensures.gives);
  passes = c.in_ok-first.ensures.passes;
}

pub list-sums-preserved : goal.list-sums-preserved
list-sums-preserved t c = record {
  reads =
      let e = sums_step c.args.depth c.sums.sums c.sums.tokens c.in_ok-next.next c.sum-in-sums.new.tokens (sym c.is_at_comma.ensures ∙ c.sums-test.true) (rw (← c.skip.ensures) c.in_ok-next.ensures.gives) in
      rw c.in_ok-push-2.ensures.ok (c.sums.invariant.reads ∙ e);
  passes =
      let d = length-drop 1 c.sums.tokens in
      let l = ap length c.skip.ensures in
      omega (arith, c.in_ok-next.ensures.passes, c.sums.invariant.passes);
}

pub list-returns-clause-gives : goal.list-returns-clause-gives
list-returns-clause-gives t c =
    rw (c.sums.invariant.reads, sums_stop c.args.depth c.sums.sums c.sums.tokens (sym c.is_at_comma.ensures ∙ c.sums-test.false))

pub list-returns-in_err-next-clause-gives : goal.list-returns-in_err-next-clause-gives
list-returns-in_err-next-clause-gives t c =
    let p = err_from_is_err_and c.from_residual-in_err-next.result c.from_residual-in_err-next.ensures.1 in
    rw (c.sums.invariant.reads, p.1, p.2)
    (λ n. sums_fail c.args.depth c.sums.sums c.sums.tokens (fault_of c.in_err-next.field-0.0) c.sum-in-sums.new.tokens (sym c.is_at_comma.ensures ∙ c.sums-test.true) (rw (← c.skip.ensures) (c.in_err-next.ensures.gives n)))
