-- The walk from here ends as the walk over the whole line does.
use Rattle.std.specs.Prelude.{◌≡◌, drop}
use Rattle.planned_lines.specs.declared.respelled.Place.TheVariants.{Start}
use Rattle.planned_lines.specs.Copying.{comes_out}
use Rattle.planned_lines.proofs.respelled.comes_out.Given as goal

abbrev pub invariant-loop-byte : goal.invariant-loop-byte
invariant-loop-byte l = comes_out l.dialect l.csv l.place (drop l.byte-index l.line) ≡ comes_out l.dialect l.csv Start l.line
