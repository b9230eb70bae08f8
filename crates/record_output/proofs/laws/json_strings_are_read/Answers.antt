use Rattle.record_output.proofs.Respelled.{string_read}
use Rattle.record_output.proofs.laws.json_strings_are_read.Goals as goal

pub returns : goal.returns
returns c = string_read
