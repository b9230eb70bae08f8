-- What the loop over the parts has read.
use Rattle.std.proofs.Common.{◌≡◌, [], length}
use Rattle.grammar_rules.specs.CountedReaders.{read_links}
use Rattle.sql_grammar.specs.Expressions.{room_of, prod_node}
use Rattle.sql_grammar.specs.Readers.{begins, is_prod_op, read_prod_part}
use Rattle.sql_leaves.specs.Parsing.{read_inside}
use Rattle.sql_expressions.proofs.ChainSteps.{prod_left}
use Rattle.sql_expressions.proofs.sums.prod_rest.Given as goal

abbrev pub invariant-parts : goal.invariant-parts
invariant-parts g l = read_links (prod_node l.fn.first) (begins is_prod_op) (read_prod_part (room_of l.fn.nest.depth) (read_inside l.fn.nest.depth)) [] l.fn.primaries l.fn.tokens.symbols ≡ prod_left l.fn.nest.depth l.fn.first l.rest l.primaries l.tokens.symbols

abbrev pub decreases-parts : goal.decreases-parts
decreases-parts g l = length l.tokens.symbols
