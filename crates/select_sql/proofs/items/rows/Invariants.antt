-- What the loop over the members has read.
use Rattle.std.proofs.Common.{◌≡◌, length, true}
use Rattle.sql_tokens.specs.declared.class.Class.TheVariants as k
use Rattle.sql_grammar.specs.Marks.{of, class}
use Rattle.sql_grammar.specs.Expressions.{over_class}
use Rattle.grammar_rules.specs.CountedReaders.{read_counted_past, read_item}
use Rattle.sql_grammar.specs.QueryReaders.{read_row, read_rows, read_totals, read_first_total, read_later_total}
use Rattle.select_sql.proofs.QuerySteps.{row_less, total_less}
use Rattle.sql_expressions.proofs.ListSteps.{limited_left}
use Rattle.select_sql.proofs.items.rows.Given as goal

abbrev pub invariant-members : goal.invariant-members
invariant-members l = read_rows l.fn.primaries l.fn.tokens.symbols ≡ limited_left (of k.Comma) (read_counted_past (of k.Comma) (read_item (λ s. over_class true (class s)) read_row)) l.all l.left l.primaries l.tokens.symbols

abbrev pub decreases-members : goal.decreases-members
decreases-members l = length l.tokens.symbols
