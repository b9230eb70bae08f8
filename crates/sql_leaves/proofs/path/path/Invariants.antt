-- What the loop over the steps has read.
use Rattle.std.proofs.Common.{◌≡◌, length}
use Rattle.sql_grammar.specs.Readers.{read_path}
use Rattle.sql_leaves.proofs.PathSteps.{path_left}
use Rattle.sql_leaves.proofs.path.path.Given as goal

abbrev pub invariant-steps : goal.invariant-steps
invariant-steps l = read_path l.fn.primaries l.fn.tokens.symbols ≡ path_left l.steps l.primaries l.tokens.symbols

abbrev pub decreases-steps : goal.decreases-steps
decreases-steps l = length l.tokens.symbols
