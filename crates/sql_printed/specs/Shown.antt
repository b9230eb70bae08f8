-- The text of an expression. Parentheses stand exactly where a part is of a form that the grammar doesn't read in its place.
use Rattle.std.specs.Prelude.{ℕ, ◌==◌, Bool, true, false, nat_le, List, [], ◌∷◌, ◌++◌, map, Option, Some, None, codes, decimal, if◌then◌else◌}
use Rattle.std.specs.Char.{encode_utf8}
use Rattle.sql_decimal.specs.declared.number.Num.{Num}
use Rattle.sql_decimal.specs.declared.number.Num.TheVariants.{Int, Dec}
use Rattle.sql_decimal.specs.Decimal.{decimal_of}
use Rattle.sql_decimal.specs.Printing.{printed}
use Rattle.text_view.specs.declared.view.Side.{Side}
use Rattle.text_view.specs.declared.view.Side.TheVariants as side
use Rattle.grammar_rules.specs.Spelled.{print_all}
use Rattle.sql_grammar.specs.declared.tree.Expr.{Expr}
use Rattle.sql_grammar.specs.declared.tree.Expr.TheOpen.{Expr-F, SumPart-F, ProdPart-F, Arm-F}
use Rattle.sql_grammar.specs.declared.tree.Expr.TheFolds.{fold-Expr, fold-SumPart, fold-ProdPart, fold-Arm}
use Rattle.sql_grammar.specs.declared.tree.SumPart.{SumPart}
use Rattle.sql_grammar.specs.declared.tree.ProdPart.{ProdPart}
use Rattle.sql_grammar.specs.declared.tree.Arm.{Arm}
use Rattle.sql_grammar.specs.declared.tree.Name.{Name}
use Rattle.sql_grammar.specs.declared.tree.CompareOp.{CompareOp}
use Rattle.sql_grammar.specs.declared.tree.CompareOp.TheVariants as compares
use Rattle.sql_grammar.specs.declared.tree.SumOp.{SumOp}
use Rattle.sql_grammar.specs.declared.tree.SumOp.TheVariants as adds
use Rattle.sql_grammar.specs.declared.tree.ProdOp.{ProdOp}
use Rattle.sql_grammar.specs.declared.tree.ProdOp.TheVariants as multiplies
use Rattle.sql_grammar.specs.declared.tree.DatePart.{DatePart}
use Rattle.sql_grammar.specs.declared.tree.DatePart.TheVariants as part
use Rattle.sql_grammar.specs.declared.tree.CastTarget.{CastTarget}
use Rattle.sql_grammar.specs.declared.tree.CastTarget.TheVariants as target
use Rattle.sql_grammar.specs.declared.tree.PathStep.{PathStep}
use Rattle.sql_grammar.specs.declared.tree.PathStep.TheVariants as step

-- ---- names, texts and numbers

-- each of these quotes twice
abbrev pub doubled : ℕ → List ℕ → List ℕ
doubled quote [] = []
doubled quote (b ∷ bs) = if b == quote then quote ∷ quote ∷ doubled quote bs else b ∷ doubled quote bs

abbrev pub within_quotes : ℕ → List ℕ → List ℕ
within_quotes quote bs = quote ∷ doubled quote bs ++ (quote ∷ [])

-- a name, in quotes where it is a quoted one
abbrev pub name_text : Name → List ℕ
name_text n = if n.quoted then within_quotes 34 n.text else n.text

-- a text, in apostrophes
abbrev pub literal_text : List ℕ → List ℕ
literal_text bs = within_quotes 39 bs

abbrev pub number_text : Num → List ℕ
number_text (Int z) = printed (decimal_of z 0)
number_text (Dec d) = printed d

-- ---- operators, parts and types

abbrev pub compare_text : CompareOp → List ℕ
compare_text compares.Equal = codes " = "
compare_text compares.NotEqual = codes " <> "
compare_text compares.Less = codes " < "
compare_text compares.AtMost = codes " <= "
compare_text compares.Greater = codes " > "
compare_text compares.AtLeast = codes " >= "

abbrev pub sum_text : SumOp → List ℕ
sum_text adds.Add = codes " + "
sum_text adds.Sub = codes " - "

abbrev pub prod_text : ProdOp → List ℕ
prod_text multiplies.Mul = codes " * "
prod_text multiplies.Div = codes " / "
prod_text multiplies.Rem = codes " % "

abbrev pub part_text : DatePart → List ℕ
part_text part.Year = codes "YEAR"
part_text part.Month = codes "MONTH"
part_text part.Day = codes "DAY"
part_text part.Hour = codes "HOUR"
part_text part.Minute = codes "MINUTE"
part_text part.Second = codes "SECOND"
part_text part.TimezoneHour = codes "TIMEZONE_HOUR"
part_text part.TimezoneMinute = codes "TIMEZONE_MINUTE"

abbrev pub target_text : CastTarget → List ℕ
target_text target.Bool = codes "BOOL"
target_text target.Int = codes "INT"
target_text target.Decimal = codes "DECIMAL"
target_text (target.DecimalOf digits scale) = codes "DECIMAL(" ++ (decimal digits ++ (codes ", " ++ (decimal scale ++ codes ")")))
target_text target.Text = codes "STRING"
target_text target.Timestamp = codes "TIMESTAMP"

abbrev pub side_text : Side → List ℕ
side_text side.Leading = codes "LEADING"
side_text side.Trailing = codes "TRAILING"
side_text side.Both = codes "BOTH"

abbrev pub truth_text : Bool → List ℕ
truth_text true = codes "TRUE"
truth_text false = codes "FALSE"

-- NOT, where it is negated
abbrev pub not_text : Bool → List ℕ
not_text true = codes " NOT"
not_text false = []

-- [ESCAPE text]
abbrev pub escape_text : Option ℕ → List ℕ
escape_text None = []
escape_text (Some c) = codes " ESCAPE " ++ literal_text (encode_utf8 c)

-- ---- paths

abbrev pub path_step_text : PathStep → List ℕ
path_step_text (step.Member name) = codes "." ++ name_text name
path_step_text (step.Element place) = codes "[" ++ (decimal place ++ codes "]")

-- a path begins with a name
abbrev pub path_text : List PathStep → List ℕ
path_text [] = []
path_text (step.Member name ∷ steps) = name_text name ++ print_all path_step_text steps
path_text (step.Element place ∷ steps) = path_step_text (step.Element place) ++ print_all path_step_text steps

-- ---- expressions

-- an expression's text, and the height of the rule that reads its form: 0 for a primary, 1 for a minus, 2 for a product, 3 for a sum,
-- 4 for a comparison and the like, 5 for NOT, 6 for AND, 7 for OR
pub record Shown : Type 0 where
  pub height : ℕ
  pub text : List ℕ

abbrev pub form : ℕ → List ℕ → Shown
form height text = record { height = height; text = text }

-- a text in parentheses
abbrev pub enclosed_text : List ℕ → List ℕ
enclosed_text text = codes "(" ++ (text ++ codes ")")

-- in the place of a rule of this height
abbrev pub at : ℕ → Shown → List ℕ
at height s = if nat_le s.height height then s.text else enclosed_text s.text

-- texts, with `front` before the first and a separator before each other one
abbrev pub joined_from : List ℕ → List ℕ → List (List ℕ) → List ℕ
joined_from front separator [] = []
joined_from front separator (t ∷ ts) = front ++ (t ++ joined_from separator separator ts)

-- texts with a separator between them
abbrev pub joined : List ℕ → List (List ℕ) → List ℕ
joined separator ts = joined_from [] separator ts

-- the longer names of functions, with their bracket
unfoldable pub char_length_front : List ℕ
char_length_front = codes "CHAR_LENGTH("

unfoldable pub substring_front : List ℕ
substring_front = codes "SUBSTRING("

unfoldable pub to_timestamp_front : List ℕ
to_timestamp_front = codes "TO_TIMESTAMP("

-- a part behind this text, where there is one
abbrev pub behind : List ℕ → Option Shown → List ℕ
behind front None = []
behind front (Some s) = front ++ s.text

-- [[LEADING | TRAILING | BOTH] [or] FROM]
abbrev pub trim_text : Side → Option Shown → List ℕ
trim_text side (Some set) = side_text side ++ (codes " " ++ (set.text ++ codes " FROM "))
trim_text side.Leading None = codes "LEADING FROM "
trim_text side.Trailing None = codes "TRAILING FROM "
trim_text side.Both None = []

abbrev pub shown_step : Expr-F Shown (List ℕ) (List ℕ) (List ℕ) → Shown
shown_step (Expr-F.Or members) = form 7 (joined (codes " OR ") (map (at 6) members))
shown_step (Expr-F.And members) = form 6 (joined (codes " AND ") (map (at 5) members))
shown_step (Expr-F.Not a) = form 5 (codes "NOT " ++ at 4 a)
shown_step (Expr-F.Compare op left right) = form 4 (at 3 left ++ (compare_text op ++ at 3 right))
shown_step (Expr-F.Between negated value low high) = form 4 (at 3 value ++ (not_text negated ++ (codes " BETWEEN " ++ (at 3 low ++ (codes " AND " ++ at 3 high)))))
shown_step (Expr-F.Among negated value members) = form 4 (at 3 value ++ (not_text negated ++ (codes " IN (" ++ (joined (codes ", ") (map (at 7) members) ++ codes ")"))))
shown_step (Expr-F.Like negated value pattern escape) = form 4 (at 3 value ++ (not_text negated ++ (codes " LIKE " ++ (literal_text pattern ++ escape_text escape))))
shown_step (Expr-F.IsNull negated value) = form 4 (at 3 value ++ (codes " IS" ++ (not_text negated ++ codes " NULL")))
shown_step (Expr-F.IsMissing negated value) = form 4 (at 3 value ++ (codes " IS" ++ (not_text negated ++ codes " MISSING")))
shown_step (Expr-F.Sum first rest) = form 3 (at 2 first ++ print_all (λ t. t) rest)
shown_step (Expr-F.Prod first rest) = form 2 (at 1 first ++ print_all (λ t. t) rest)
shown_step (Expr-F.Minus a) = form 1 (codes "-" ++ at 0 a)
shown_step (Expr-F.Text text) = form 0 (literal_text text)
shown_step (Expr-F.Number number) = form 0 (number_text number)
shown_step (Expr-F.Bool truth) = form 0 (truth_text truth)
shown_step Expr-F.Null = form 0 (codes "NULL")
shown_step Expr-F.Missing = form 0 (codes "MISSING")
shown_step (Expr-F.Path steps) = form 0 (path_text steps)
shown_step (Expr-F.Cast value target) = form 0 (codes "CAST(" ++ (value.text ++ (codes " AS " ++ (target_text target ++ codes ")"))))
shown_step (Expr-F.Case operand arms otherwise) = form 0 (codes "CASE" ++ (behind (codes " ") operand ++ (print_all (λ t. t) arms ++ (behind (codes " ELSE ") otherwise ++ codes " END"))))
shown_step (Expr-F.Coalesce members) = form 0 (codes "COALESCE(" ++ (joined (codes ", ") (map (at 7) members) ++ codes ")"))
shown_step (Expr-F.NullIf a b) = form 0 (codes "NULLIF(" ++ (a.text ++ (codes ", " ++ (b.text ++ codes ")"))))
shown_step (Expr-F.CharLength a) = form 0 (char_length_front ++ (a.text ++ codes ")"))
shown_step (Expr-F.Lower a) = form 0 (codes "LOWER(" ++ (a.text ++ codes ")"))
shown_step (Expr-F.Upper a) = form 0 (codes "UPPER(" ++ (a.text ++ codes ")"))
shown_step (Expr-F.Substring text start count) = form 0 (substring_front ++ (text.text ++ (codes ", " ++ (start.text ++ (behind (codes ", ") count ++ codes ")")))))
shown_step (Expr-F.Trim side set text) = form 0 (codes "TRIM(" ++ (trim_text side set ++ (text.text ++ codes ")")))
shown_step (Expr-F.Extract part value) = form 0 (codes "EXTRACT(" ++ (part_text part ++ (codes " FROM " ++ (value.text ++ codes ")"))))
shown_step (Expr-F.DateAdd part count value) = form 0 (codes "DATE_ADD(" ++ (part_text part ++ (codes ", " ++ (count.text ++ (codes ", " ++ (value.text ++ codes ")"))))))
shown_step (Expr-F.ToTimestamp a) = form 0 (to_timestamp_front ++ (a.text ++ codes ")"))

abbrev pub sum_part_step : SumPart-F Shown (List ℕ) (List ℕ) (List ℕ) → List ℕ
sum_part_step p = sum_text p.op ++ at 2 p.member

abbrev pub prod_part_step : ProdPart-F Shown (List ℕ) (List ℕ) (List ℕ) → List ℕ
prod_part_step p = prod_text p.op ++ at 1 p.member

abbrev pub arm_step : Arm-F Shown (List ℕ) (List ℕ) (List ℕ) → List ℕ
arm_step a = codes " WHEN " ++ (a.when.text ++ (codes " THEN " ++ a.then.text))

-- an expression's text and height
abbrev pub shown : Expr → Shown
shown = fold-Expr Shown (List ℕ) (List ℕ) (List ℕ) shown_step arm_step prod_part_step sum_part_step

-- the texts of parts
abbrev pub shown_sum_part : SumPart → List ℕ
shown_sum_part = fold-SumPart Shown (List ℕ) (List ℕ) (List ℕ) shown_step arm_step prod_part_step sum_part_step

abbrev pub shown_prod_part : ProdPart → List ℕ
shown_prod_part = fold-ProdPart Shown (List ℕ) (List ℕ) (List ℕ) shown_step arm_step prod_part_step sum_part_step

abbrev pub shown_arm : Arm → List ℕ
shown_arm = fold-Arm Shown (List ℕ) (List ℕ) (List ℕ) shown_step arm_step prod_part_step sum_part_step
