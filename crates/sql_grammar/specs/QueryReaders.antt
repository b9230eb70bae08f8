-- The readers of the grammar of queries, which mirror its rules; where alternatives begin alike, they mirror the factored rule.
use Rattle.std.specs.Prelude.{ℕ, Bool, true, List, [], ◌∷◌, Option, is_some}
use Rattle.sql_tokens.specs.declared.class.Class.{Class}
use Rattle.sql_tokens.specs.declared.class.Class.TheVariants as k
use Rattle.sql_tokens.specs.Cutting.{Symbol}
use Rattle.sql_grammar.specs.declared.tree.Expr.{Expr}
use Rattle.sql_grammar.specs.declared.tree.Name.{Name}
use Rattle.sql_grammar.specs.declared.tree.Agg.{Agg}
use Rattle.sql_grammar.specs.declared.tree.Agg.TheVariants as agg
use Rattle.sql_grammar.specs.declared.tree.Item.{Item}
use Rattle.sql_grammar.specs.declared.tree.Total.{Total}
use Rattle.sql_grammar.specs.declared.tree.Selection.{Selection}
use Rattle.sql_grammar.specs.declared.tree.Selection.TheVariants as selection
use Rattle.sql_grammar.specs.declared.tree.Step.{Step}
use Rattle.sql_grammar.specs.declared.tree.Step.TheVariants as step
use Rattle.grammar_rules.specs.Rules.{told}
use Rattle.grammar_rules.specs.Readers.{Outcome, found, and_then, read_made, read_terminal, read_past, read_either, read_optional, read_begun, read_ahead}
use Rattle.grammar_rules.specs.CountedReaders.{CountedReader, read_plain, read_given, read_both, read_after, read_counted_past, read_counted_before, read_maybe, read_many_from, read_chain, read_item, read_list_of}
use Rattle.sql_grammar.specs.Forms.{read_one_of}
use Rattle.sql_grammar.specs.Marks.{Fault, class, of, is_name, name, digits, is_source, begins_expression}
use Rattle.sql_grammar.specs.Expressions.{word, over_class, path_name}
use Rattle.sql_grammar.specs.Queries.{AggForm, count_form, sum_form, min_form, max_form, avg_form, agg_form, mixed_class, over_first, over_total, Selected, everything, everything_of, selected, over_step, Written, written_of}
use Rattle.sql_grammar.specs.Readers.{Reader, begins, read_enclosed, is_step, read_expression}

-- ---- items of a record

-- a name
unfoldable pub read_name : Reader Name
read_name = read_plain (read_terminal name)

unfoldable pub read_as_name : Reader (Option Name)
read_as_name = read_maybe (of k.As) (read_counted_past (of k.As) read_name)

unfoldable pub read_row : Reader Item
read_row = read_given (λ p. record { expr = p.0; name = p.1 }) (read_both (read_expression 64) read_as_name)

unfoldable pub read_rows : Reader (List Item)
read_rows = read_list_of 256 (λ s. over_class true (class s)) (of k.Comma) read_row

-- ---- aggregates

abbrev pub is_agg : Class → Bool
is_agg c = is_some (agg_form c)

unfoldable pub read_aggregate : Class → (Expr → Agg) → Reader Agg
read_aggregate c node = read_counted_past (of c) (read_enclosed true (read_given node (read_expression 63)))

-- what is counted: all, or an expression
unfoldable pub read_counted : Reader Agg
read_counted n = read_either (of k.Star) (read_plain (λ ts. read_made (λ s. agg.CountAll) (read_terminal (word k.Star) ts)) n) (read_given agg.Count (read_expression 63) n)

unfoldable pub read_count : Reader Agg
read_count = read_counted_past (of k.CountCalled) (read_enclosed true read_counted)

abbrev pub read_agg_of : AggForm → Reader Agg
read_agg_of count_form = read_count
read_agg_of sum_form = read_aggregate k.SumCalled agg.Sum
read_agg_of min_form = read_aggregate k.MinCalled agg.Min
read_agg_of max_form = read_aggregate k.MaxCalled agg.Max
read_agg_of avg_form = read_aggregate k.AvgCalled agg.Avg

unfoldable pub read_any_agg : Reader Agg
read_any_agg n = read_one_of (λ s. agg_form (class s)) (λ form. read_agg_of form n)

unfoldable pub read_later_agg : Reader Agg
read_later_agg n = read_either (begins is_agg) (read_any_agg n) (read_plain (read_terminal (λ s. told (mixed_class (class s)))) n)

abbrev pub read_total : Reader Agg → Reader Total
read_total read = read_given (λ p. record { agg = p.0; name = p.1 }) (read_both read read_as_name)

unfoldable pub read_first_total : CountedReader (ℕ × ℕ) Symbol Fault Total
read_first_total = read_item (λ s. over_first (agg_form (class s))) (read_total read_any_agg)

unfoldable pub read_later_total : CountedReader (ℕ × ℕ) Symbol Fault Total
read_later_total = read_item (λ s. over_total (class s)) (read_total read_later_agg)

unfoldable pub read_totals : Reader (List Total)
read_totals n ts = read_made (λ p. (p.0, p.1.1)) (read_chain (λ a rest. a ∷ rest) (of k.Comma) read_first_total (read_counted_past (of k.Comma) read_later_total) (256, n) ts)

-- ---- what is selected

unfoldable pub read_items : Reader Selection
read_items n = read_either (begins begins_expression) (read_given selection.Rows read_rows n) (read_given selection.Totals read_totals n)

unfoldable pub read_all_of_name : List Symbol → Outcome Symbol Fault Name
read_all_of_name = read_begun path_name (λ a. read_past (of k.Dot) (read_past (of k.Star) (λ ts. found a ts)))

unfoldable pub read_list : Reader Selected
read_list n =
    read_either (of k.Star) (read_plain (λ ts. read_made (λ s. everything) (read_terminal (word k.Star) ts)) n)
    (read_ahead (read_given selected read_items n) (read_plain (λ ts. read_made everything_of (read_all_of_name ts)) n))

-- ---- the source

unfoldable pub read_named_step : Reader Step
read_named_step = read_counted_past (of k.Dot) (read_plain (λ ts. read_made step.Member (read_terminal name ts)))

-- digits ]
unfoldable pub read_element_rest : Reader Step
read_element_rest = read_counted_before (read_plain (λ ts. read_made step.Element (read_terminal digits ts))) (of k.RightBracket)

-- * ]
unfoldable pub read_all_rest : Reader Step
read_all_rest = read_counted_before (read_plain (λ ts. read_made (λ s. step.All) (read_terminal (word k.Star) ts))) (of k.RightBracket)

unfoldable pub read_step : Reader Step
read_step n = read_either (of k.Dot) (read_named_step n) (read_counted_past (of k.LeftBracket) (λ m. read_either (of k.Star) (read_all_rest m) (read_element_rest m)) n)

unfoldable pub read_steps : ℕ → Reader (List Step)
read_steps most n ts = read_made (λ p. (p.0, p.1.1)) (read_many_from (begins is_step) (read_item (λ s. over_step (class s)) read_step) (most, n) ts)

-- a step, and at most 63 others
unfoldable pub read_own_steps : Reader Step → Reader (List Step)
read_own_steps read = read_after read (λ s. read_given (λ rest. s ∷ rest) (read_steps 63))

-- behind S3Object and `[`
unfoldable pub read_bracket_steps : Reader (List Step)
read_bracket_steps n = read_either (of k.Star) (read_after read_all_rest (λ s. read_steps 64) n) (read_own_steps read_element_rest n)

unfoldable pub read_source_steps : Reader (List Step)
read_source_steps n =
    read_either (begins is_step) (read_either (of k.Dot) (read_own_steps read_named_step n) (read_counted_past (of k.LeftBracket) read_bracket_steps n))
    (λ ts. found ([], n) ts)

abbrev pub begins_alias : Class → Bool
begins_alias k.As = true
begins_alias c = is_name c

unfoldable pub read_alias : Reader (Option Name)
read_alias = read_maybe (begins begins_alias) (λ n. read_either (of k.As) (read_counted_past (of k.As) read_name n) (read_name n))

unfoldable pub read_source : Reader (List Step × Option Name)
read_source = read_counted_past (begins is_source) (read_both read_source_steps read_alias)

-- ---- queries

unfoldable pub read_filter : Reader (Option Expr)
read_filter = read_maybe (of k.Where) (read_counted_past (of k.Where) (read_expression 64))

unfoldable pub read_limit : List Symbol → Outcome Symbol Fault (Option ℕ)
read_limit = read_optional (of k.Limit) (read_past (of k.Limit) (read_terminal digits))

unfoldable pub read_ending : List Symbol → Outcome Symbol Fault (Option ℕ)
read_ending ts = and_then (read_limit ts) (λ limit left. read_made (λ s. limit) (read_optional (of k.Semicolon) (read_terminal (word k.Semicolon)) left))

-- behind what is selected
unfoldable pub read_behind_list : Reader ((List Step × Option Name) × (Option Expr × Option ℕ))
read_behind_list = read_counted_past (of k.From) (read_both read_source (read_both read_filter (read_plain read_ending)))

unfoldable pub read_whole_query : Reader Written
read_whole_query = read_counted_past (of k.Select) (read_given (λ p. written_of p.0 p.1.0 p.1.1.0 p.1.1.1) (read_both read_list read_behind_list))

unfoldable pub read_query : List Symbol → Outcome Symbol Fault Written
read_query ts = read_made (λ p. p.0) (read_whole_query 4096 ts)
