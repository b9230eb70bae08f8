use Rattle.std.proofs.Common.{◌≡◌, ◌∙◌, ap, sym, arith, ◌+◌, Some, None, get_or}
use Rattle.json_text.specs.Machine.{class, number_next}
use Rattle.json_text.specs.declared.machine.Mode.TheVariants.{InNumber}
use Rattle.json_text.proofs.Reading.{takes_same, number_on, number_ended, number_past}
use Rattle.json_text.proofs.tokens.number_of.Goals as goal

pub each-init : goal.each-init
each-init c = record {
  same = λ t x. takes_same t c.args.bytes.now (InNumber c.args.digits) (InNumber c.args.digits) c.args.from c.past_digits-at.result c.past_digits-at.ensures.value x;
  after = c.past_digits-at.ensures.after;
  within = c.past_digits-at.ensures.within;
}

pub each-preserved : goal.each-preserved
each-preserved c =
    let next : number_next c.each.read (class (get_or c.args.bytes.now c.each.at 0)) ≡ Some c.in-Some.next = ap (number_next c.each.read) (sym c.class_of.ensures) ∙ sym c.next_digits.ensures ∙ c.in-Some.is in
    record {
      same = λ t x.
          c.each.invariant.same t
          (number_on c.args.bytes.now c.each.read c.each.at c.each-test.true c.in-Some.next t next
          (takes_same t c.args.bytes.now (InNumber c.in-Some.next) (InNumber c.in-Some.next) (c.each.at + 1) c.past_digits-at-in-Some.result c.past_digits-at-in-Some.ensures.value x));
      after = omega (arith, c.past_digits-at-in-Some.ensures.after);
      within = c.past_digits-at-in-Some.ensures.within;
    }

pub returns-in-None-clause-value : goal.returns-in-None-clause-value
returns-in-None-clause-value c =
    let none : number_next c.each.read (class (get_or c.args.bytes.now c.each.at 0)) ≡ None = ap (number_next c.each.read) (sym c.class_of.ensures) ∙ sym c.next_digits.ensures ∙ c.in-None.is in
    c.each.invariant.same c.ended.result (number_ended c.args.bytes.now c.each.read c.each.at c.ended.result c.ended.ensures c.each-test.true none)

pub returns-clause-value : goal.returns-clause-value
returns-clause-value c =
    c.each.invariant.same c.ended-2.result (number_past c.args.bytes.now c.each.read c.each.at c.ended-2.result c.ended-2.ensures (omega arith))
