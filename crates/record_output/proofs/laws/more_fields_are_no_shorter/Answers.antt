use Rattle.record_output.proofs.Whole.{record_longer}
use Rattle.record_output.proofs.laws.more_fields_are_no_shorter.Goals as goal

pub returns : goal.returns
returns c = record_longer
