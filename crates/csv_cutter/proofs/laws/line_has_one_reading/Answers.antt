use Rattle.csv_cutter.proofs.Characters.{apart}
use Rattle.csv_cutter.proofs.Lines.{has_fields, fields_alone}
use Rattle.csv_cutter.proofs.laws.line_has_one_reading.Goals as goal

pub returns-clause-some : goal.returns-clause-some
returns-clause-some c = λ d valid line. let h = has_fields d line in (h.texts, h.spelled)

pub returns-clause-one : goal.returns-clause-one
returns-clause-one c = λ d valid. fields_alone d (apart d valid)
