use Rattle.event_frame.proofs.RegisterLaws.{absorbed-step, absorbed-end, byte-step}
use Rattle.event_frame.proofs.crc.absorb_bytes.Goals as goal

pub loop-byte-preserved : goal.loop-byte-preserved
loop-byte-preserved c =
    absorbed-step c.loop-byte.register c.loop-byte.byte-index _ _ c.args.bytes.now c.loop-byte-test.true c.loop-byte.invariant
    (byte-step c.loop-byte.register _ c.product.result c.to_le_bytes.result (c.type_inv.bytes c.loop-byte.byte-index).fits
    c.to_le_bytes.ensures c.product.ensures)

pub returns : goal.returns
returns c =
    absorbed-end c.loop-byte.register c.loop-byte.byte-index _ c.args.bytes.now c.loop-byte-test.false c.loop-byte.invariant
