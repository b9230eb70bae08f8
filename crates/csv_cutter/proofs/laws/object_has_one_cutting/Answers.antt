use Rattle.csv_cutter.proofs.Characters.{apart, delimits}
use Rattle.csv_cutter.proofs.Stopping.{has_records, records_alone}
use Rattle.csv_cutter.proofs.laws.object_has_one_cutting.Goals as goal

pub returns-clause-some : goal.returns-clause-some
returns-clause-some c = λ d valid object. let h = has_records d (apart d valid) (delimits d valid) object 0 in (h.cuts, h.are)

pub returns-clause-one : goal.returns-clause-one
returns-clause-one c = λ d valid object. records_alone d (apart d valid) (delimits d valid) object 0
