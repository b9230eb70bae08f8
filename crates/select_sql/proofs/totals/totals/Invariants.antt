-- What the loop over the aggregates has read.
use Rattle.std.proofs.Common.{◌≡◌, length}
use Rattle.sql_tokens.specs.declared.class.Class.TheVariants as k
use Rattle.sql_grammar.specs.Marks.{of}
use Rattle.grammar_rules.specs.CountedReaders.{read_counted_past}
use Rattle.sql_grammar.specs.QueryReaders.{read_totals, read_later_total}
use Rattle.sql_expressions.proofs.ListSteps.{limited_left}
use Rattle.select_sql.proofs.totals.totals.Given as goal

abbrev pub invariant-members : goal.invariant-members
invariant-members l = read_totals l.fn.primaries l.fn.tokens.symbols ≡ limited_left (of k.Comma) (read_counted_past (of k.Comma) read_later_total) l.all l.left l.primaries l.tokens.symbols

abbrev pub decreases-members : goal.decreases-members
decreases-members l = length l.tokens.symbols
