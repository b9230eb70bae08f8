use Rattle.event_frame.proofs.RegisterLaws.{absorbed_blocks-step, absorbed_blocks-end}
use Rattle.event_frame.proofs.crc.absorb_blocks.Goals as goal

pub loop-block-preserved : goal.loop-block-preserved
loop-block-preserved c =
    absorbed_blocks-step c.loop-block.register c.loop-block.block-index _ _ c.args.blocks.now c.loop-block-test.true
    c.loop-block.invariant c.absorb_block-register.ensures

pub returns : goal.returns
returns c =
    absorbed_blocks-end c.loop-block.register c.loop-block.block-index _ c.args.blocks.now c.loop-block-test.false c.loop-block.invariant
