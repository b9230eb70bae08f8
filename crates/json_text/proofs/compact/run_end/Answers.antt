use Rattle.std.proofs.Common.{◌∙◌, sym, arith}
use Rattle.json_text.proofs.Squeezing.{passed_none, passed_byte, passed_string, passed_range}
use Rattle.json_text.proofs.compact.run_end.Goals as goal

pub each-init : goal.each-init
each-init c = record { same = passed_none c.args.bytes.now c.args.from; after = omega arith; within = c.requires }

pub each-preserved-then-byte-eq34 : goal.each-preserved-then-byte-eq34
each-preserved-then-byte-eq34 c = record {
  same = passed_string c.args.bytes.now c.args.from c.each.at c.string_end-at.result c.each-test.true c.if-byte-eq34.true c.string_end-at.ensures.value c.each.invariant.same;
  after = omega (arith, c.string_end-at.ensures.after);
  within = c.string_end-at.ensures.within;
}

pub each-preserved : goal.each-preserved
each-preserved c = record {
  same = passed_byte c.args.bytes.now c.args.from c.each.at c.each-test.true c.if-byte-eq34.false (sym c.is_blank_byte.ensures ∙ c.if-is_blank_byte.false) c.each.invariant.same;
  after = omega arith;
  within = omega arith;
}

pub returns-then-is_blank_byte-clause-value : goal.returns-then-is_blank_byte-clause-value
returns-then-is_blank_byte-clause-value c = passed_range c.args.bytes.now c.args.from c.each.at c.each.invariant.after c.each.invariant.within c.each.invariant.same

pub returns-clause-value : goal.returns-clause-value
returns-clause-value c = passed_range c.args.bytes.now c.args.from c.each.at c.each.invariant.after c.each.invariant.within c.each.invariant.same
