use Rattle.record_yields.proofs.Wholes.{whole_told}
use Rattle.record_yields.proofs.laws.whole_records_are_their_trees.Goals as goal

pub returns : goal.returns
returns c = whole_told
