-- What the loop over the members has read.
use Rattle.std.proofs.Common.{◌≡◌, length}
use Rattle.sql_tokens.specs.declared.class.Class.TheVariants as k
use Rattle.sql_grammar.specs.Marks.{of}
use Rattle.grammar_rules.specs.CountedReaders.{read_counted_past}
use Rattle.sql_grammar.specs.Readers.{read_listed}
use Rattle.sql_leaves.specs.Parsing.{read_inside}
use Rattle.sql_expressions.proofs.ListSteps.{list_left}
use Rattle.sql_expressions.proofs.functions.listed.Given as goal

abbrev pub invariant-members : goal.invariant-members
invariant-members g l = read_listed (read_inside l.fn.nest.depth) l.fn.primaries l.fn.tokens.symbols ≡ list_left (of k.Comma) (read_counted_past (of k.Comma) (read_inside l.fn.nest.depth)) l.all l.primaries l.tokens.symbols

abbrev pub decreases-members : goal.decreases-members
decreases-members g l = length l.tokens.symbols
