-- What was added, then the rest with its escapes, is the whole text with its escapes.
use Rattle.std.specs.Prelude.{length}
use Rattle.record_output.specs.Appending.{Adds}
use Rattle.record_output.specs.CsvFields.{escaped_text}
use Rattle.record_output.proofs.csv.push_escaped.Given as goal

abbrev pub invariant-parts : goal.invariant-parts
invariant-parts l = Adds l.fn.out l.out (escaped_text l.csv l.fn.text) (escaped_text l.csv l.rest)

abbrev pub decreases-parts : goal.decreases-parts
decreases-parts l = length l.rest
