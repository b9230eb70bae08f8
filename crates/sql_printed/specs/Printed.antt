-- The text of a query: one blank between words, none at brackets and before commas, keywords in capitals.
use Rattle.std.specs.Prelude.{ℕ, List, [], ◌∷◌, ◌++◌, map, Option, Some, None, codes, decimal}
use Rattle.grammar_rules.specs.Spelled.{print_all}
use Rattle.sql_grammar.specs.declared.tree.Expr.{Expr}
use Rattle.sql_grammar.specs.declared.tree.Name.{Name}
use Rattle.sql_grammar.specs.declared.tree.Agg.{Agg}
use Rattle.sql_grammar.specs.declared.tree.Agg.TheVariants as agg
use Rattle.sql_grammar.specs.declared.tree.Item.{Item}
use Rattle.sql_grammar.specs.declared.tree.Total.{Total}
use Rattle.sql_grammar.specs.declared.tree.Selection.{Selection}
use Rattle.sql_grammar.specs.declared.tree.Selection.TheVariants as selection
use Rattle.sql_grammar.specs.declared.tree.Step.{Step}
use Rattle.sql_grammar.specs.declared.tree.Step.TheVariants as step
use Rattle.sql_grammar.specs.declared.tree.Query.{Query}
use Rattle.sql_printed.specs.Shown.{shown, name_text, joined}

-- an expression that stands alone, between brackets or between keywords
abbrev pub whole_text : Expr → List ℕ
whole_text e = (shown e).text

-- [AS name]
abbrev pub as_text : Option Name → List ℕ
as_text None = []
as_text (Some name) = codes " AS " ++ name_text name

abbrev pub item_text : Item → List ℕ
item_text i = whole_text i.expr ++ as_text i.name

abbrev pub call_text : List ℕ → Expr → List ℕ
call_text front e = front ++ (whole_text e ++ codes ")")

abbrev pub agg_text : Agg → List ℕ
agg_text agg.CountAll = codes "COUNT(*)"
agg_text (agg.Count e) = call_text (codes "COUNT(") e
agg_text (agg.Sum e) = call_text (codes "SUM(") e
agg_text (agg.Min e) = call_text (codes "MIN(") e
agg_text (agg.Max e) = call_text (codes "MAX(") e
agg_text (agg.Avg e) = call_text (codes "AVG(") e

abbrev pub total_text : Total → List ℕ
total_text t = agg_text t.agg ++ as_text t.name

abbrev pub selection_text : Selection → List ℕ
selection_text selection.All = codes "*"
selection_text (selection.Rows items) = joined (codes ", ") (map item_text items)
selection_text (selection.Totals totals) = joined (codes ", ") (map total_text totals)

abbrev pub step_text : Step → List ℕ
step_text (step.Member name) = codes "." ++ name_text name
step_text (step.Element place) = codes "[" ++ (decimal place ++ codes "]")
step_text step.All = codes "[*]"

-- a first step `[*]` stands behind another `[*]`, since alone it would be none
abbrev pub steps_front : List Step → List ℕ
steps_front [] = []
steps_front (step.Member name ∷ steps) = []
steps_front (step.Element place ∷ steps) = []
steps_front (step.All ∷ steps) = codes "[*]"

abbrev pub alias_text : Option Name → List ℕ
alias_text None = []
alias_text (Some name) = codes " " ++ name_text name

abbrev pub source_text : List Step → Option Name → List ℕ
source_text steps alias = codes "S3Object" ++ (steps_front steps ++ (print_all step_text steps ++ alias_text alias))

abbrev pub filter_text : Option Expr → List ℕ
filter_text None = []
filter_text (Some e) = codes " WHERE " ++ whole_text e

abbrev pub limit_text : Option ℕ → List ℕ
limit_text None = []
limit_text (Some n) = codes " LIMIT " ++ decimal n

-- the text of a query
unfoldable pub printed : Query → List ℕ
printed q = codes "SELECT " ++ (selection_text q.items ++ (codes " FROM " ++ (source_text q.source q.alias ++ (filter_text q.filter ++ limit_text q.limit))))
