-- What the loop over the members has read.
use Rattle.std.proofs.Common.{◌≡◌, length}
use Rattle.sql_tokens.specs.declared.class.Class.TheVariants as k
use Rattle.sql_grammar.specs.Marks.{of, class}
use Rattle.sql_grammar.specs.Expressions.{room_of, over_class}
use Rattle.grammar_rules.specs.CountedReaders.{read_counted_past, read_item, read_list_of}
use Rattle.sql_leaves.specs.Parsing.{read_inside}
use Rattle.sql_expressions.proofs.ListSteps.{limited_left}
use Rattle.sql_expressions.proofs.predicates.members.Given as goal

abbrev pub invariant-members : goal.invariant-members
invariant-members g l = read_list_of 1000 (λ s. over_class (room_of l.fn.nest.depth).deeper (class s)) (of k.Comma) (read_inside l.fn.nest.depth) l.fn.primaries l.fn.tokens.symbols ≡ limited_left (of k.Comma) (read_counted_past (of k.Comma) (read_item (λ s. over_class (room_of l.fn.nest.depth).deeper (class s)) (read_inside l.fn.nest.depth))) l.all l.left l.primaries l.tokens.symbols

abbrev pub decreases-members : goal.decreases-members
decreases-members g l = length l.tokens.symbols
