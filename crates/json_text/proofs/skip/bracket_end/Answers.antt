use Rattle.std.proofs.Common.{arith}
use Rattle.json_text.proofs.Skips.{quote_passed}
use Rattle.json_text.proofs.skip.bracket_end.Goals as goal

pub each-preserved-then-byte-eq34 : goal.each-preserved-then-byte-eq34
each-preserved-then-byte-eq34 c = record {
  same = quote_passed c.args.bytes.now _ c.each.others c.each.at c.string_end-at.result c.each-test.true c.if-byte-eq34.true c.string_end-at.ensures.value c.each.invariant.same;
  after = omega (arith, c.string_end-at.ensures.after);
  within = c.string_end-at.ensures.within;
  few = omega (arith, c.string_end-at.ensures.after);
}
