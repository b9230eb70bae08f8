use Rattle.csv_cutter.proofs.Characters.{apart, delimits}
use Rattle.csv_cutter.proofs.Stopping.{cut_so}
use Rattle.csv_cutter.proofs.laws.object_is_cut_by_a_function.Goals as goal

pub returns : goal.returns
returns c = λ d valid object. cut_so d (apart d valid) (delimits d valid) object
