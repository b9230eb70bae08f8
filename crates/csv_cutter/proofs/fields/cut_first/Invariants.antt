use Rattle.csv_cutter.proofs.Firsts.{Fronting}
use Rattle.csv_cutter.proofs.fields.cut_first.Given as goal

abbrev pub invariant-loop-count : goal.invariant-loop-count
invariant-loop-count l = Fronting l.dialect l.line l.spans l.start l.count
