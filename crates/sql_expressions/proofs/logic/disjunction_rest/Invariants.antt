-- What the loop over the parts has read.
use Rattle.std.proofs.Common.{◌≡◌, [], length}
use Rattle.sql_tokens.specs.declared.class.Class.TheVariants as k
use Rattle.grammar_rules.specs.CountedReaders.{read_counted_past, read_links}
use Rattle.sql_grammar.specs.Marks.{of}
use Rattle.sql_grammar.specs.Expressions.{room_of, or_node}
use Rattle.sql_grammar.specs.Readers.{read_conjunction}
use Rattle.sql_leaves.specs.Parsing.{read_inside}
use Rattle.sql_expressions.proofs.ChainSteps.{disjunction_left}
use Rattle.sql_expressions.proofs.logic.disjunction_rest.Given as goal

abbrev pub invariant-parts : goal.invariant-parts
invariant-parts g l = read_links (or_node l.fn.first) (of k.Or) (read_counted_past (of k.Or) (read_conjunction (room_of l.fn.nest.depth) (read_inside l.fn.nest.depth))) [] l.fn.primaries l.fn.tokens.symbols ≡ disjunction_left l.fn.nest.depth l.fn.first l.rest l.primaries l.tokens.symbols

abbrev pub decreases-parts : goal.decreases-parts
decreases-parts g l = length l.tokens.symbols
