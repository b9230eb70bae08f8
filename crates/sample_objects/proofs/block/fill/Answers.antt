use Rattle.std.proofs.Common.{arith}
use Rattle.sample_objects.proofs.Fronts.{one_more}
use Rattle.sample_objects.proofs.block.fill.Goals as goal

pub loop-next-preserved : goal.loop-next-preserved
loop-next-preserved c = record {
  lines = one_more c.args.kind c.args.first c.loop-next.next c.loop-next.block.bytes c.put_line.new.block.bytes c.loop-next.invariant.lines
      c.put_line.ensures.bytes;
  some = λ same. absurd (omega (arith, same, c.loop-next.invariant.from));
  from = omega (arith, c.loop-next.invariant.from);
  within = omega (arith, c.loop-next-test.true);
}
