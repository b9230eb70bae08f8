use Rattle.std.proofs.Common.{arith}
use Rattle.byte_masks.proofs.Looking.{Looked-tail}
use Rattle.byte_masks.proofs.places.last_block.Goals as goal

pub returns : goal.returns
returns c =
    Looked-tail c.args.byte c.args.bytes.now _ c.args.from c.see-mask.result.fields (omega arith) c.requires.within c.requires.near
    c.split_at.ensures.back c.see-mask.ensures.fields
