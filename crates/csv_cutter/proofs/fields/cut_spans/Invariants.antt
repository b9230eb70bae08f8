use Rattle.csv_cutter.proofs.Cuts.{Cutting}
use Rattle.csv_cutter.proofs.fields.cut_spans.Given as goal

abbrev pub invariant-loop-count : goal.invariant-loop-count
invariant-loop-count l = Cutting l.dialect l.line l.spans l.start l.count
