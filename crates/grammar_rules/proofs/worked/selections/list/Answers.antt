-- The loop over the items follows the reader of a list with a limit.
use Rattle.std.proofs.Common.{length, length-drop, sym, ap, ◌∙◌, arith}
use Rattle.std.proofs.lemmas.Result.{err_from_is_err_and}
use Rattle.grammar_rules.specs.WorkedSelecting.{fault_of}
use Rattle.grammar_rules.proofs.WorkedSelectionSteps.{items_begin, items_none, items_step, items_stop, items_fail}
use Rattle.grammar_rules.proofs.worked.selections.list.Goals as goal

pub returns-in_err-first : goal.returns-in_err-first
returns-in_err-first c =
    let p = err_from_is_err_and c.from_residual.result c.from_residual.ensures.1 in
    rw (p.1, p.2)
    (record {
      gives = λ n. items_none 3 4 c.args.words.now (fault_of c.in_err-first.field-0.0) c.listed.new.words (c.in_err-first.ensures.gives n);
      passes = c.in_err-first.ensures.passes;
    })

pub items-init : goal.items-init
items-init c = record {
  reads = rw (c.in_ok-push.ensures.ok, c.new-found.ensures) (items_begin 3 4 c.args.words.now c.in_ok-first.first c.listed.new.left c.listed.new.values c.listed.new.words c.in_ok-first.ensures.gives);
  passes = c.in_ok-first.ensures.passes;
}

pub items-preserved : goal.items-preserved
items-preserved c = record {
  reads =
      let e = items_step c.items.left c.items.values c.items.found c.items.words c.in_ok-next.next c.listed-in-items.new.left c.listed-in-items.new.values c.listed-in-items.new.words (sym c.sees.ensures ∙ c.items-test.true) (rw (← c.skip.ensures) c.in_ok-next.ensures.gives) in
      rw c.in_ok-push-2.ensures.ok (c.items.invariant.reads ∙ e);
  passes =
      let d = length-drop 1 c.items.words in
      let l = ap length c.skip.ensures in
      omega (arith, c.in_ok-next.ensures.passes, c.items.invariant.passes);
}

pub returns : goal.returns
returns c = record {
  gives = c.items.invariant.reads ∙ items_stop c.items.left c.items.values c.items.found c.items.words (sym c.sees.ensures ∙ c.items-test.false);
  passes = c.items.invariant.passes;
}

pub returns-in_err-next : goal.returns-in_err-next
returns-in_err-next c =
    let p = err_from_is_err_and c.from_residual-in_err-next.result c.from_residual-in_err-next.ensures.1 in
    let d = length-drop 1 c.items.words in
    let l = ap length c.skip.ensures in
    rw (p.1, p.2)
    (record {
      gives = λ n. c.items.invariant.reads ∙ items_fail c.items.left c.items.values c.items.found c.items.words (fault_of c.in_err-next.field-0.0) c.listed-in-items.new.words (sym c.sees.ensures ∙ c.items-test.true) (rw (← c.skip.ensures) (c.in_err-next.ensures.gives n));
      passes = omega (arith, c.in_err-next.ensures.passes, c.items.invariant.passes);
    })
