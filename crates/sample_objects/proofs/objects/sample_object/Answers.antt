use Rattle.std.proofs.Common.{arith, sym, ap, ◌∙◌, ◌++◌}
use Rattle.sample_objects.proofs.Fronts.{head_alone, whole_sample}
use Rattle.sample_objects.proofs.objects.sample_object.Goals as goal

pub loop-next-init : goal.loop-next-init
loop-next-init c = record {
  bytes = c.in_ok-extend_from_slice.ensures.items ∙ ap (λ l. l ++ c.as_bytes.result.now) c.new-object.ensures.items ∙ c.as_bytes.ensures.value
      ∙ c.head.ensures.bytes ∙ sym (head_alone c.args.kind);
  empty = c.new-block.ensures;
  within = omega arith;
}

pub returns : goal.returns
returns c =
    c.loop-next.invariant.bytes
    ∙ whole_sample c.args.kind c.loop-next.next c.args.count (omega (arith, c.loop-next-test.false, c.loop-next.invariant.within))
