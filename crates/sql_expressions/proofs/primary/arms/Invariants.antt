-- What the loop over the members has read.
use Rattle.std.proofs.Common.{◌≡◌, length}
use Rattle.sql_tokens.specs.declared.class.Class.TheVariants as k
use Rattle.sql_grammar.specs.Marks.{of}
use Rattle.sql_grammar.specs.Expressions.{room_of}
use Rattle.sql_grammar.specs.Readers.{read_arm, read_arms}
use Rattle.sql_leaves.specs.Parsing.{read_inside}
use Rattle.sql_expressions.proofs.ListSteps.{list_left}
use Rattle.sql_expressions.proofs.primary.arms.Given as goal

abbrev pub invariant-arms : goal.invariant-arms
invariant-arms g l = read_arms (room_of l.fn.nest.depth) (read_inside l.fn.nest.depth) l.fn.primaries l.fn.tokens.symbols ≡ list_left (of k.When) (read_arm (room_of l.fn.nest.depth) (read_inside l.fn.nest.depth)) l.all l.primaries l.tokens.symbols

abbrev pub decreases-arms : goal.decreases-arms
decreases-arms g l = length l.tokens.symbols
