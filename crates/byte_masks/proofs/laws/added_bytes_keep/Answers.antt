use Rattle.byte_masks.proofs.Growing.{added_bytes_keep}
use Rattle.byte_masks.proofs.laws.added_bytes_keep.Goals as goal

pub returns : goal.returns
returns c = added_bytes_keep
