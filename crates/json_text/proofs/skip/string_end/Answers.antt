use Rattle.std.proofs.Common.{◌∙◌, arith}
use Rattle.json_text.proofs.Skips.{string_run}
use Rattle.json_text.proofs.skip.string_end.Goals as goal

pub each-init : goal.each-init
each-init c = record {
  same = string_run c.args.bytes.now c.args.from c.plain_end-at.result c.plain_end-at.ensures.value;
  after = omega (arith, c.plain_end-at.ensures.value);
  within = c.plain_end-at.ensures.within;
}

pub each-preserved : goal.each-preserved
each-preserved c = record {
  same = string_run c.args.bytes.now c.past_mark.result c.plain_end-at-in-each.result c.plain_end-at-in-each.ensures.value ∙ c.past_mark.ensures.value ∙ c.each.invariant.same;
  after = omega (arith, c.plain_end-at-in-each.ensures.value, c.past_mark.ensures.after);
  within = c.plain_end-at-in-each.ensures.within;
}
