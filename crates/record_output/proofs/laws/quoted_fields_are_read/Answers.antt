use Rattle.record_output.proofs.ReadBack.{quoted_read}
use Rattle.record_output.proofs.laws.quoted_fields_are_read.Goals as goal

pub returns : goal.returns
returns c = quoted_read
