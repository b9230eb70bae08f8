use Rattle.select_ports.specs.Stored.{IsOpen}
use Rattle.csv_cutter.specs.Cutter.{IsReady}
use Rattle.part_examples.proofs.csv.answers.Given as goal

abbrev pub invariant-loop : goal.invariant-loop
invariant-loop g l = IsOpen (g.S.Store.current l.store) l.window.size × IsReady l.cutter l.window
