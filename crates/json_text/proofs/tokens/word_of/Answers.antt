use Rattle.std.proofs.Common.{arith, ◌+◌, refl}
use Rattle.json_text.specs.declared.machine.Due.TheVariants.{Rest}
use Rattle.json_text.specs.declared.machine.Mode.TheVariants.{InWord}
use Rattle.json_text.specs.declared.tokens.Taken.TheVariants.{Next, Refused}
use Rattle.json_text.proofs.Reading.{word_on, word_whole, word_wrong, takes_past}
use Rattle.json_text.proofs.tokens.word_of.Goals as goal

pub each-preserved : goal.each-preserved
each-preserved c = record {
  same = λ t x. c.each.invariant.same t (word_on c.args.bytes.now c.each.left c.each.at c.each-test.true t c.in-More.next c.in-More.ensures x);
  after = omega arith;
  within = omega arith;
}

pub returns-in-Whole-clause-value : goal.returns-in-Whole-clause-value
returns-in-Whole-clause-value c =
    c.each.invariant.same (Next Rest (c.each.at + 1)) (word_whole c.args.bytes.now c.each.left c.each.at c.each-test.true c.in-Whole.ensures)

pub returns-in-Wrong-clause-value : goal.returns-in-Wrong-clause-value
returns-in-Wrong-clause-value c =
    c.each.invariant.same (Refused c.each.at) (word_wrong c.args.bytes.now c.each.left c.each.at c.each-test.true c.in-Wrong.ensures)

pub returns-clause-value : goal.returns-clause-value
returns-clause-value c =
    c.each.invariant.same (Refused c.each.at) (takes_past c.args.bytes.now (InWord c.each.left) c.each.at (omega arith) refl)
