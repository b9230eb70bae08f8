use Rattle.std.proofs.Common.{◌∙◌, sym, arith, ◌+◌}
use Rattle.json_text.specs.declared.tokens.StringEnd.TheVariants.{Closed, Broken}
use Rattle.json_text.proofs.Reading.{closes_here, closes_on, closes_wrong, closes_past}
use Rattle.json_text.proofs.tokens.string_of.Goals as goal

pub returns-then-closed_by-clause-value : goal.returns-then-closed_by-clause-value
returns-then-closed_by-clause-value c =
    c.each.invariant.same (Closed (c.each.at + 1)) (closes_here c.args.bytes.now c.each.read c.each.at c.each-test.true (sym c.closed_by.ensures ∙ c.if-closed_by.true))

pub each-preserved : goal.each-preserved
each-preserved c = record {
  same = λ e x.
      c.each.invariant.same e
      (closes_on c.args.bytes.now c.each.read c.each.at c.in-Some.next e c.each-test.true (sym c.closed_by.ensures ∙ c.if-closed_by.false) (sym c.next_part.ensures ∙ c.in-Some.is)
      (c.past_plain-at-in-Some.ensures.value e x));
  after = omega (arith, c.past_plain-at-in-Some.ensures.after);
  within = c.past_plain-at-in-Some.ensures.within;
}

pub returns-in-None-clause-value : goal.returns-in-None-clause-value
returns-in-None-clause-value c =
    c.each.invariant.same (Broken c.each.at)
    (closes_wrong c.args.bytes.now c.each.read c.each.at c.each-test.true (sym c.closed_by.ensures ∙ c.if-closed_by.false) (sym c.next_part.ensures ∙ c.in-None.is))

pub returns-clause-value : goal.returns-clause-value
returns-clause-value c =
    c.each.invariant.same (Broken c.each.at) (closes_past c.args.bytes.now c.each.read c.each.at (omega arith))
