-- The grammar of queries. A rule stands below its line of the S3 Select reference's grammar, as for expressions.
use Rattle.std.specs.Prelude.{ℕ, true, List, [], ◌∷◌, Option, Some, None}
use Rattle.sql_tokens.specs.declared.class.Class.{Class}
use Rattle.sql_tokens.specs.declared.class.Class.TheVariants as k
use Rattle.sql_tokens.specs.Cutting.{Symbol}
use Rattle.sql_grammar.specs.declared.tree.Expr.{Expr}
use Rattle.sql_grammar.specs.declared.tree.Name.{Name}
use Rattle.sql_grammar.specs.declared.tree.Agg.{Agg}
use Rattle.sql_grammar.specs.declared.tree.Agg.TheVariants as agg
use Rattle.sql_grammar.specs.declared.tree.Item.{Item}
use Rattle.sql_grammar.specs.declared.tree.Total.{Total}
use Rattle.sql_grammar.specs.declared.tree.Selection.{Selection}
use Rattle.sql_grammar.specs.declared.tree.Selection.TheVariants as selection
use Rattle.sql_grammar.specs.declared.tree.Step.{Step}
use Rattle.sql_grammar.specs.declared.tree.Step.TheVariants as step
use Rattle.grammar_rules.specs.Rules.{Rule, told, terminal, token, nothing, made, begun, sequence, alternatives, either, optional, preceded_by}
use Rattle.grammar_rules.specs.Counted.{Counted, plain, given, both, after, past, before, maybe, many_from, chain, item as one_of_list, list_of}
use Rattle.sql_grammar.specs.Marks.{Fault, unknown_function, aggregate_mixed, unsupported_type, too_many, class, of, name, digits, is_source, Form, unknown_call, exponent_form, form_of}
use Rattle.sql_grammar.specs.Expressions.{Counting, enclosed, over_class, path_name, expression}

-- ---- names

-- [AS name]
abbrev pub as_name : Counting (Option Name)
as_name = maybe (past (of k.As) (plain (terminal name)))

-- ---- items of a record

-- or [AS name]
abbrev pub row : Counting Item
row = given (λ p. record { expr = p.0; name = p.1 }) (both (expression 64) as_name)

-- at most 256 items
abbrev pub rows : Counting (List Item)
rows = list_of 256 (λ s. over_class true (class s)) (of k.Comma) row

-- ---- aggregates

-- the forms of an aggregate, by the class of its first token
pub data AggForm : Type 0 where
  count_form : AggForm
  sum_form : AggForm
  min_form : AggForm
  max_form : AggForm
  avg_form : AggForm

abbrev pub agg_form : Class → Option AggForm
agg_form k.CountCalled = Some count_form
agg_form k.SumCalled = Some sum_form
agg_form k.MinCalled = Some min_form
agg_form k.MaxCalled = Some max_form
agg_form k.AvgCalled = Some avg_form
agg_form _ = None

-- G ( or )
abbrev pub aggregate : Class → (Expr → Agg) → Counting Agg
aggregate c node = past (of c) (enclosed true (given node (expression 63)))

-- COUNT ( * )
abbrev pub count_all : Counting Agg
count_all = past (of k.CountCalled) (enclosed true (plain (made (λ s. agg.CountAll) (token (of k.Star)))))

-- agg = COUNT ( * ) | (COUNT|SUM|MIN|MAX|AVG) ( or )
abbrev pub agg_of : AggForm → Counting Agg
agg_of count_form n = either (count_all n) (aggregate k.CountCalled agg.Count n)
agg_of sum_form n = aggregate k.SumCalled agg.Sum n
agg_of min_form n = aggregate k.MinCalled agg.Min n
agg_of max_form n = aggregate k.MaxCalled agg.Max n
agg_of avg_form n = aggregate k.AvgCalled agg.Avg n

unfoldable pub any_agg : Counting Agg
any_agg n = alternatives (λ form. agg_of form n)

-- the token that begins an item of the other kind than an aggregate: its own fault, else that it is mixed
abbrev pub mixed_form : Option Form → Option Fault
mixed_form None = None
mixed_form (Some unknown_call) = Some unknown_function
mixed_form (Some exponent_form) = Some unsupported_type
mixed_form (Some _) = Some aggregate_mixed

abbrev pub mixed_class : Class → Option Fault
mixed_class k.Not = Some aggregate_mixed
mixed_class k.Minus = Some aggregate_mixed
mixed_class c = mixed_form (form_of c)

-- the token that would begin the 257th aggregate
abbrev pub over_agg : Option AggForm → Class → Option Fault
over_agg (Some form) c = Some too_many
over_agg None c = mixed_class c

-- no first one is too many
abbrev pub over_first : Option AggForm → Option Fault
over_first None = None
over_first (Some form) = Some too_many

abbrev pub over_total : Class → Option Fault
over_total c = over_agg (agg_form c) c

-- agg [AS name]
abbrev pub total : Counting Agg → Counting Total
total G = given (λ p. record { agg = p.0; name = p.1 }) (both G as_name)

-- an aggregate behind another one, where another item is mixed
abbrev pub later_agg : Counting Agg
later_agg n = either (any_agg n) (plain (terminal (λ s. told (mixed_class (class s)))) n)

-- the first aggregate, and those behind a comma
abbrev pub first_total : Counted (ℕ × ℕ) Symbol Fault Total
first_total = one_of_list (λ s. over_first (agg_form (class s))) (total any_agg)

abbrev pub later_total : Counted (ℕ × ℕ) Symbol Fault Total
later_total = one_of_list (λ s. over_total (class s)) (total later_agg)

-- at most 256 aggregates
abbrev pub totals : Counting (List Total)
totals n = made (λ p. (p.0, p.1.1)) (chain (λ a rest. a ∷ rest) first_total (past (of k.Comma) later_total) (256, n))

-- ---- what is selected

pub data Selected : Type 0 where
  everything : Selected
  -- the source's name, as it stands before `.*`
  everything_of : Name → Selected
  selected : Selection → Selected

-- item = (agg | or) [AS name]
-- item {, item}
abbrev pub items : Counting Selection
items n = either (given selection.Rows rows n) (given selection.Totals totals n)

-- name . *, of a name that isn't before `(`, since it is before `.`
abbrev pub all_of_name : Rule Symbol Fault Name
all_of_name = begun path_name (λ a. preceded_by (token (of k.Dot)) (preceded_by (token (of k.Star)) (nothing a)))

-- list = * | name . * | item {, item}
unfoldable pub selection_list : Counting Selected
selection_list n =
    either (plain (made (λ s. everything) (token (of k.Star))) n)
    (either (given selected items n) (plain (made everything_of all_of_name) n))

-- ---- the source

-- . name
abbrev pub named_step : Counting Step
named_step = past (of k.Dot) (plain (made step.Member (terminal name)))

-- [ digits ]
abbrev pub element_step : Counting Step
element_step = past (of k.LeftBracket) (before (plain (made step.Element (terminal digits))) (of k.RightBracket))

-- [ * ]
abbrev pub all_step : Counting Step
all_step = past (of k.LeftBracket) (before (plain (made (λ s. step.All) (token (of k.Star)))) (of k.RightBracket))

-- . name | [ digits ]
abbrev pub own_step : Counting Step
own_step n = either (named_step n) (element_step n)

-- . name | [ digits ] | [ * ]
abbrev pub source_step : Counting Step
source_step n = either (own_step n) (all_step n)

abbrev pub over_step : Class → Option Fault
over_step k.Dot = Some too_many
over_step k.LeftBracket = Some too_many
over_step _ = None

-- {. name | [ digits ] | [ * ]}, at most so many
abbrev pub steps : ℕ → Counting (List Step)
steps most n = made (λ p. (p.0, p.1.1)) (many_from (one_of_list (λ s. over_step (class s)) source_step) (most, n))

-- [ [ * ] ] {. name | [ digits ] | [ * ]}, at most 64 steps. A `[*]` in front is the optional text and no step
abbrev pub source_steps : Counting (List Step)
source_steps n =
    either (after all_step (λ s. steps 64) n)
    (either (after own_step (λ s. given (λ rest. s ∷ rest) (steps 63)) n) (nothing ([], n)))

-- [[AS] name]
abbrev pub alias : Counting (Option Name)
alias = maybe (λ n. either (past (of k.As) (plain (terminal name)) n) (plain (terminal name) n))

-- source = S3Object [ [ * ] ] {. name | [ digits ] | [ * ]} [[AS] name]
unfoldable pub source : Counting (List Step × Option Name)
source = past (λ s. is_source (class s)) (both source_steps alias)

-- ---- queries

-- [WHERE or]
abbrev pub filter : Counting (Option Expr)
filter = maybe (past (of k.Where) (expression 64))

-- [LIMIT digits] [;]
abbrev pub ending : Rule Symbol Fault (Option ℕ)
ending =
    sequence (optional (preceded_by (token (of k.Limit)) (terminal digits)))
    (λ limit. made (λ s. limit) (optional (token (of k.Semicolon))))

-- a query as it is written: the name before `.*` isn't looked at yet
pub record Written : Type 0 where
  pub list : Selected
  pub steps : List Step
  pub alias : Option Name
  pub filter : Option Expr
  pub limit : Option ℕ

abbrev pub written_of : Selected → List Step × Option Name → Option Expr → Option ℕ → Written
written_of list from filter limit = record { list = list; steps = from.0; alias = from.1; filter = filter; limit = limit }

-- query = SELECT list FROM source [WHERE or] [LIMIT digits] [;]
abbrev pub whole_query : Counting Written
whole_query = past (of k.Select) (given (λ p. written_of p.0 p.1.0 p.1.1.0 p.1.1.1) (both selection_list (past (of k.From) (both source (both filter (plain ending))))))

-- of at most 4,096 primaries
unfoldable pub query : Rule Symbol Fault Written
query = made (λ p. p.0) (whole_query 4096)
