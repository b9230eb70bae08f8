use Rattle.event_frame.proofs.Entries.{products-entry}
use Rattle.event_frame.proofs.crc.product.Goals as goal

pub returns : goal.returns
returns c = products-entry c.args.k c.args.byte c.requires c.ranges.byte.fits
