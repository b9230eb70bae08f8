-- The readers that the parser of queries follows where it hands no bracket on.
use Rattle.std.specs.Prelude.{true}
use Rattle.sql_tokens.specs.declared.class.Class.{Class}
use Rattle.sql_tokens.specs.declared.class.Class.TheVariants as k
use Rattle.sql_grammar.specs.declared.tree.Agg.{Agg}
use Rattle.sql_grammar.specs.declared.tree.Agg.TheVariants as agg
use Rattle.sql_grammar.specs.declared.tree.Step.{Step}
use Rattle.sql_grammar.specs.QueryReaders.{read_counted, read_all_rest, read_element_rest}
use Rattle.grammar_rules.specs.Readers.{read_past, read_either}
use Rattle.grammar_rules.specs.CountedReaders.{read_given}
use Rattle.sql_grammar.specs.declared.tree.Expr.{Expr}
use Rattle.sql_grammar.specs.Readers.{Reader, read_expression}
use Rattle.sql_grammar.specs.Marks.{of}
use Rattle.sql_expressions.specs.Parsing.{read_in_brackets}

-- ---- aggregates

-- the aggregate of a value
abbrev pub agg_node : Class → Expr → Agg
agg_node k.CountCalled a = agg.Count a
agg_node k.SumCalled a = agg.Sum a
agg_node k.MinCalled a = agg.Min a
agg_node k.MaxCalled a = agg.Max a
agg_node _ a = agg.Avg a

-- an aggregate of an expression
unfoldable pub read_aggregate_told : Class → Reader Agg
read_aggregate_told c n ts = read_past (of c) (λ left. read_in_brackets true (read_given (agg_node c) (read_expression 63)) n left) ts

-- COUNT and what is counted
unfoldable pub read_count_told : Reader Agg
read_count_told n ts = read_past (of k.CountCalled) (λ left. read_in_brackets true read_counted n left) ts

-- ---- steps of the source

-- `* ]` or `digits ]`
abbrev pub read_bracket_step : Reader Step
read_bracket_step n = read_either (of k.Star) (read_all_rest n) (read_element_rest n)
