use Rattle.csv_cutter.proofs.Characters.{apart}
use Rattle.csv_cutter.proofs.Functions.{read_so}
use Rattle.csv_cutter.proofs.laws.line_is_read_by_a_function.Goals as goal

pub returns : goal.returns
returns c = λ d valid line. read_so d (apart d valid) line
