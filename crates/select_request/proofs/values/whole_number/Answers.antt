use Rattle.std.specs.Prelude.{◌≡◌, true, false, refl}
use Rattle.std.proofs.Common.{sym, ◌∙◌}
use Rattle.select_request.proofs.WholeNumber.{plus_is_none, read_ok_plain, read_err_plain}
use Rattle.select_request.proofs.values.whole_number.Goals as goal

differ : false ≡ true → ⊥
differ e = cc

pub returns-then-begins_with_plus : goal.returns-then-begins_with_plus
returns-then-begins_with_plus c = sym (plus_is_none c.args.text.now (c.if-begins_with_plus.ensures.0 refl))

pub returns-in-Ok : goal.returns-in-Ok
returns-in-Ok c =
    c.within.ensures ∙ sym (read_ok_plain c.args.text.now c.in-Ok.number c.in-Ok.ensures.value.0 (λ plus. differ (c.if-begins_with_plus.ensures.1 plus)))

pub returns-in-Err : goal.returns-in-Err
returns-in-Err c =
    sym (read_err_plain c.args.text.now c.in-Err.ensures.value.0 (λ plus. differ (c.if-begins_with_plus.ensures.1 plus)))
