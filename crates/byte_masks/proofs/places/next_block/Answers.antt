use Rattle.std.proofs.Common.{◌∙◌, arith}
use Rattle.byte_masks.proofs.Looking.{Looked-past, Looked-block, Looked-nothing, Looked-along}
use Rattle.byte_masks.proofs.places.next_block.Goals as goal

pub returns-then-bytes-from : goal.returns-then-bytes-from
returns-then-bytes-from c = Looked-past c.args.byte c.args.bytes.now c.args.from c.if-bytes-from.true

pub returns-then-mask-ne0 : goal.returns-then-mask-ne0
returns-then-mask-ne0 c =
    Looked-block c.args.byte c.args.bytes.now c.args.from c.loop-i.i c.equal-mask.result (omega arith) (omega arith) (omega arith) c.if-mask-ne0.true
    c.equal-mask.ensures c.loop-i.invariant.1

pub loop-i-preserved : goal.loop-i-preserved
loop-i-preserved c = (
  omega arith,
  Looked-nothing c.args.byte c.args.bytes.now c.loop-i.i c.equal-mask.result (omega arith) c.if-mask-ne0.false c.equal-mask.ensures
      ∙ c.loop-i.invariant.1,
)

pub returns : goal.returns
returns c = Looked-along c.args.byte c.args.bytes.now c.args.from c.loop-i.i c.last_block.result c.loop-i.invariant.0 c.loop-i.invariant.1 c.last_block.ensures
