use Rattle.std.proofs.Common.{◌≡◌, drop}
use Rattle.event_frame.specs.Register.{absorbed_blocks}
use Rattle.event_frame.proofs.crc.absorb_blocks.Given as goal

-- the register, and then the blocks that are left, are all the blocks
abbrev pub invariant-loop-block : goal.invariant-loop-block
invariant-loop-block l = absorbed_blocks l.register (drop l.block-index l.blocks) ≡ absorbed_blocks l.start l.blocks
