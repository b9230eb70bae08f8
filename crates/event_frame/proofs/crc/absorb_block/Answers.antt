use Rattle.event_frame.proofs.Blocks.{block-looked_up}
use Rattle.event_frame.proofs.crc.absorb_block.Goals as goal

pub returns : goal.returns
returns c =
    block-looked_up c.args.register c.to_le_bytes.result c.args.block.now _ _ _ _ _ _ _ _ _ _ _ _ _ _ _ _
    c.to_le_bytes.ensures c.told-block c.ranges.register.fits c.fits-block
    c.product.ensures c.product-2.ensures c.product-3.ensures c.product-4.ensures c.product-5.ensures c.product-6.ensures c.product-7.ensures c.product-8.ensures c.product-9.ensures c.product-10.ensures c.product-11.ensures c.product-12.ensures c.product-13.ensures c.product-14.ensures c.product-15.ensures c.product-16.ensures
