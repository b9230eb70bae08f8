-- An item is what its first number or name tells.
use Rattle.std.proofs.Common.{inl, inr}
use Rattle.std.proofs.lemmas.Result.{err_from_is_err_and}
use Rattle.grammar_rules.specs.WorkedSelecting.{fault_of}
use Rattle.grammar_rules.proofs.WorkedSelectionSteps.{item_goes_on, item_failed}
use Rattle.grammar_rules.proofs.worked.selections.one_item.Goals as goal

pub returns-in_err-first-clause-gives : goal.returns-in_err-first-clause-gives
returns-in_err-first-clause-gives c =
    let p = err_from_is_err_and c.from_residual.result c.from_residual.ensures.1 in
    rw (p.1, p.2) (λ n. item_failed c.args.values.now c.args.words.now (fault_of c.in_err-first.field-0.0) c.next_head.new.words (c.in_err-first.ensures.gives n))

pub returns-in-Numeral-clause-gives : goal.returns-in-Numeral-clause-gives
returns-in-Numeral-clause-gives c =
    let h = rw c.in-Numeral.is at c.in_ok-first.ensures.gives in
    rw (item_goes_on c.args.values.now c.args.words.now (inl c.in-Numeral.first) c.next_head.new.values c.next_head.new.words h) c.number_rest.ensures.gives

pub returns-in-Naming-clause-gives : goal.returns-in-Naming-clause-gives
returns-in-Naming-clause-gives c =
    let h = rw c.in-Naming.is at c.in_ok-first.ensures.gives in
    rw (item_goes_on c.args.values.now c.args.words.now (inr c.in-Naming.first) c.next_head.new.values c.next_head.new.words h) c.name_rest.ensures.gives
