-- Each form is lawful where its parts are.
use Rattle.std.proofs.Common.{◌≡◌, ℕ, Bool, true, false, ◌&&◌, List, [], ◌∷◌, map, Option, Some, None, refl, sym, ap, ◌∙◌}
use Rattle.grammar_rules.specs.Spelled.{All}
use Rattle.text_view.specs.declared.view.Side.{Side}
use Rattle.sql_decimal.specs.declared.number.Num.{Num}
use Rattle.sql_grammar.specs.declared.tree.Expr.{Expr}
use Rattle.sql_grammar.specs.declared.tree.Expr.TheVariants as e
use Rattle.sql_grammar.specs.declared.tree.Expr.TheOpen.{Expr-F}
use Rattle.sql_grammar.specs.declared.tree.Expr.TheFolds.{fold-roll-Expr, fold_out-SumPart, fold_out-ProdPart, fold_out-Arm}
use Rattle.sql_grammar.specs.declared.tree.SumPart.{SumPart, out-SumPart}
use Rattle.sql_grammar.specs.declared.tree.ProdPart.{ProdPart, out-ProdPart}
use Rattle.sql_grammar.specs.declared.tree.Arm.{Arm, out-Arm}
use Rattle.sql_grammar.specs.declared.tree.CompareOp.{CompareOp}
use Rattle.sql_grammar.specs.declared.tree.CastTarget.{CastTarget}
use Rattle.sql_grammar.specs.declared.tree.DatePart.{DatePart}
use Rattle.sql_grammar.specs.declared.tree.PathStep.{PathStep}
use Rattle.sql_lawful.specs.Lawful.{fits_escape, is_lawful_target, can_be_moved, each, lawful_step, lawful_arm_step, lawful_prod_part_step, lawful_sum_part_step, is_lawful_expression, is_lawful_arm, is_lawful_prod_part, is_lawful_sum_part}
use Rattle.sql_lawful.proofs.Always.{IfThere}
use Rattle.sql_lawful.proofs.Closed.{Closed}

abbrev pub Fit : Expr → Type 0
Fit a = is_lawful_expression a ≡ true

pub and_both : (s t : Bool) → s ≡ true → t ≡ true → (s && t) ≡ true
and_both true t e f = f
and_both false t e f = cc

-- ---- lists

each_all : {A : Type 0} (f : A → Bool) (xs : List A) → All (λ a. f a ≡ true) xs → each (map f xs) ≡ true
each_all f [] g = refl
each_all f (x ∷ xs) g = and_both (f x) (each (map f xs)) g.0 (each_all f xs g.1)

sum_parts : (xs : List SumPart) → All (λ p. Fit (out-SumPart p).member) xs → each (map is_lawful_sum_part xs) ≡ true
sum_parts [] g = refl
sum_parts (x ∷ xs) g = and_both (is_lawful_sum_part x) (each (map is_lawful_sum_part xs)) (fold_out-SumPart Bool Bool Bool Bool lawful_step lawful_arm_step lawful_prod_part_step lawful_sum_part_step x ∙ g.0) (sum_parts xs g.1)

prod_parts : (xs : List ProdPart) → All (λ p. Fit (out-ProdPart p).member) xs → each (map is_lawful_prod_part xs) ≡ true
prod_parts [] g = refl
prod_parts (x ∷ xs) g = and_both (is_lawful_prod_part x) (each (map is_lawful_prod_part xs)) (fold_out-ProdPart Bool Bool Bool Bool lawful_step lawful_arm_step lawful_prod_part_step lawful_sum_part_step x ∙ g.0) (prod_parts xs g.1)

arms_all : (xs : List Arm) → All (λ a. Fit (out-Arm a).when × Fit (out-Arm a).then) xs → each (map is_lawful_arm xs) ≡ true
arms_all [] g = refl
arms_all (x ∷ xs) g =
    and_both (is_lawful_arm x) (each (map is_lawful_arm xs))
    (fold_out-Arm Bool Bool Bool Bool lawful_step lawful_arm_step lawful_prod_part_step lawful_sum_part_step x ∙ and_both (is_lawful_expression (out-Arm x).when) (is_lawful_expression (out-Arm x).then) g.0.0 g.0.1) (arms_all xs g.1)

-- ---- expressions

fit_or : (xs : List Expr) → All (Fit) xs → Fit (e.Or xs)
fit_or xs f_xs = ap is_lawful_expression (sym (e.rolls-Or xs)) ∙ fold-roll-Expr Bool Bool Bool Bool lawful_step lawful_arm_step lawful_prod_part_step lawful_sum_part_step (Expr-F.Or xs) ∙ (each_all is_lawful_expression xs f_xs)

fit_and : (xs : List Expr) → All (Fit) xs → Fit (e.And xs)
fit_and xs f_xs = ap is_lawful_expression (sym (e.rolls-And xs)) ∙ fold-roll-Expr Bool Bool Bool Bool lawful_step lawful_arm_step lawful_prod_part_step lawful_sum_part_step (Expr-F.And xs) ∙ (each_all is_lawful_expression xs f_xs)

fit_not : (a : Expr) → Fit a → Fit (e.Not a)
fit_not a f_a = ap is_lawful_expression (sym (e.rolls-Not a)) ∙ fold-roll-Expr Bool Bool Bool Bool lawful_step lawful_arm_step lawful_prod_part_step lawful_sum_part_step (Expr-F.Not a) ∙ f_a

fit_compare : (op : CompareOp) (a : Expr) (b : Expr) → Fit a → Fit b → Fit (e.Compare op a b)
fit_compare op a b f_a f_b = ap is_lawful_expression (sym (e.rolls-Compare op a b)) ∙ fold-roll-Expr Bool Bool Bool Bool lawful_step lawful_arm_step lawful_prod_part_step lawful_sum_part_step (Expr-F.Compare op a b) ∙ (and_both (is_lawful_expression a) (is_lawful_expression b) f_a f_b)

fit_between : (t : Bool) (a : Expr) (b : Expr) (c : Expr) → Fit a → Fit b → Fit c → Fit (e.Between t a b c)
fit_between t a b c f_a f_b f_c = ap is_lawful_expression (sym (e.rolls-Between t a b c)) ∙ fold-roll-Expr Bool Bool Bool Bool lawful_step lawful_arm_step lawful_prod_part_step lawful_sum_part_step (Expr-F.Between t a b c) ∙ (and_both (is_lawful_expression a) ((is_lawful_expression b) && (is_lawful_expression c)) f_a (and_both (is_lawful_expression b) (is_lawful_expression c) f_b f_c))

fit_among : (t : Bool) (a : Expr) (xs : List Expr) → Fit a → All (Fit) xs → Fit (e.Among t a xs)
fit_among t a xs f_a f_xs = ap is_lawful_expression (sym (e.rolls-Among t a xs)) ∙ fold-roll-Expr Bool Bool Bool Bool lawful_step lawful_arm_step lawful_prod_part_step lawful_sum_part_step (Expr-F.Among t a xs) ∙ (and_both (is_lawful_expression a) (each (map is_lawful_expression xs)) f_a (each_all is_lawful_expression xs f_xs))

fit_like : (t : Bool) (a : Expr) (pattern : List ℕ) (esc : Option ℕ) → Fit a → fits_escape pattern esc ≡ true → Fit (e.Like t a pattern esc)
fit_like t a pattern esc f_a fits = ap is_lawful_expression (sym (e.rolls-Like t a pattern esc)) ∙ fold-roll-Expr Bool Bool Bool Bool lawful_step lawful_arm_step lawful_prod_part_step lawful_sum_part_step (Expr-F.Like t a pattern esc) ∙ (and_both (is_lawful_expression a) (fits_escape pattern esc) f_a fits)

fit_is_null : (t : Bool) (a : Expr) → Fit a → Fit (e.IsNull t a)
fit_is_null t a f_a = ap is_lawful_expression (sym (e.rolls-IsNull t a)) ∙ fold-roll-Expr Bool Bool Bool Bool lawful_step lawful_arm_step lawful_prod_part_step lawful_sum_part_step (Expr-F.IsNull t a) ∙ f_a

fit_is_missing : (t : Bool) (a : Expr) → Fit a → Fit (e.IsMissing t a)
fit_is_missing t a f_a = ap is_lawful_expression (sym (e.rolls-IsMissing t a)) ∙ fold-roll-Expr Bool Bool Bool Bool lawful_step lawful_arm_step lawful_prod_part_step lawful_sum_part_step (Expr-F.IsMissing t a) ∙ f_a

fit_sum : (a : Expr) (xs : List SumPart) → Fit a → All (λ p. Fit (out-SumPart p).member) xs → Fit (e.Sum a xs)
fit_sum a xs f_a f_xs = ap is_lawful_expression (sym (e.rolls-Sum a xs)) ∙ fold-roll-Expr Bool Bool Bool Bool lawful_step lawful_arm_step lawful_prod_part_step lawful_sum_part_step (Expr-F.Sum a xs) ∙ (and_both (is_lawful_expression a) (each (map is_lawful_sum_part xs)) f_a (sum_parts xs f_xs))

fit_prod : (a : Expr) (xs : List ProdPart) → Fit a → All (λ p. Fit (out-ProdPart p).member) xs → Fit (e.Prod a xs)
fit_prod a xs f_a f_xs = ap is_lawful_expression (sym (e.rolls-Prod a xs)) ∙ fold-roll-Expr Bool Bool Bool Bool lawful_step lawful_arm_step lawful_prod_part_step lawful_sum_part_step (Expr-F.Prod a xs) ∙ (and_both (is_lawful_expression a) (each (map is_lawful_prod_part xs)) f_a (prod_parts xs f_xs))

fit_minus : (a : Expr) → Fit a → Fit (e.Minus a)
fit_minus a f_a = ap is_lawful_expression (sym (e.rolls-Minus a)) ∙ fold-roll-Expr Bool Bool Bool Bool lawful_step lawful_arm_step lawful_prod_part_step lawful_sum_part_step (Expr-F.Minus a) ∙ f_a

fit_text : (bytes : List ℕ) → Fit (e.Text bytes)
fit_text bytes = ap is_lawful_expression (sym (e.rolls-Text bytes)) ∙ fold-roll-Expr Bool Bool Bool Bool lawful_step lawful_arm_step lawful_prod_part_step lawful_sum_part_step (Expr-F.Text bytes)

fit_number : (n : Num) → Fit (e.Number n)
fit_number n = ap is_lawful_expression (sym (e.rolls-Number n)) ∙ fold-roll-Expr Bool Bool Bool Bool lawful_step lawful_arm_step lawful_prod_part_step lawful_sum_part_step (Expr-F.Number n)

fit_bool : (t : Bool) → Fit (e.Bool t)
fit_bool t = ap is_lawful_expression (sym (e.rolls-Bool t)) ∙ fold-roll-Expr Bool Bool Bool Bool lawful_step lawful_arm_step lawful_prod_part_step lawful_sum_part_step (Expr-F.Bool t)

fit_null : Fit e.Null
fit_null = ap is_lawful_expression (sym (e.rolls-Null)) ∙ fold-roll-Expr Bool Bool Bool Bool lawful_step lawful_arm_step lawful_prod_part_step lawful_sum_part_step Expr-F.Null

fit_missing : Fit e.Missing
fit_missing = ap is_lawful_expression (sym (e.rolls-Missing)) ∙ fold-roll-Expr Bool Bool Bool Bool lawful_step lawful_arm_step lawful_prod_part_step lawful_sum_part_step Expr-F.Missing

fit_path : (steps : List PathStep) → Fit (e.Path steps)
fit_path steps = ap is_lawful_expression (sym (e.rolls-Path steps)) ∙ fold-roll-Expr Bool Bool Bool Bool lawful_step lawful_arm_step lawful_prod_part_step lawful_sum_part_step (Expr-F.Path steps)

fit_cast : (a : Expr) (target : CastTarget) → Fit a → is_lawful_target target ≡ true → Fit (e.Cast a target)
fit_cast a target f_a fits = ap is_lawful_expression (sym (e.rolls-Cast a target)) ∙ fold-roll-Expr Bool Bool Bool Bool lawful_step lawful_arm_step lawful_prod_part_step lawful_sum_part_step (Expr-F.Cast a target) ∙ (and_both (is_lawful_expression a) (is_lawful_target target) f_a fits)

fit_case : (operand : Option Expr) (arms : List Arm) (otherwise : Option Expr) → IfThere (Fit) operand → All (λ a. Fit (out-Arm a).when × Fit (out-Arm a).then) arms → IfThere (Fit) otherwise → Fit (e.Case operand arms otherwise)
fit_case None arms None f_operand f_arms f_otherwise = ap is_lawful_expression (sym (e.rolls-Case None arms None)) ∙ fold-roll-Expr Bool Bool Bool Bool lawful_step lawful_arm_step lawful_prod_part_step lawful_sum_part_step (Expr-F.Case None arms None) ∙ (and_both true ((each (map is_lawful_arm arms)) && true) refl (and_both (each (map is_lawful_arm arms)) true (arms_all arms f_arms) refl))
fit_case None arms (Some x_otherwise) f_operand f_arms f_otherwise = ap is_lawful_expression (sym (e.rolls-Case None arms (Some x_otherwise))) ∙ fold-roll-Expr Bool Bool Bool Bool lawful_step lawful_arm_step lawful_prod_part_step lawful_sum_part_step (Expr-F.Case None arms (Some x_otherwise)) ∙ (and_both true ((each (map is_lawful_arm arms)) && (is_lawful_expression x_otherwise)) refl (and_both (each (map is_lawful_arm arms)) (is_lawful_expression x_otherwise) (arms_all arms f_arms) f_otherwise))
fit_case (Some x_operand) arms None f_operand f_arms f_otherwise = ap is_lawful_expression (sym (e.rolls-Case (Some x_operand) arms None)) ∙ fold-roll-Expr Bool Bool Bool Bool lawful_step lawful_arm_step lawful_prod_part_step lawful_sum_part_step (Expr-F.Case (Some x_operand) arms None) ∙ (and_both (is_lawful_expression x_operand) ((each (map is_lawful_arm arms)) && true) f_operand (and_both (each (map is_lawful_arm arms)) true (arms_all arms f_arms) refl))
fit_case (Some x_operand) arms (Some x_otherwise) f_operand f_arms f_otherwise = ap is_lawful_expression (sym (e.rolls-Case (Some x_operand) arms (Some x_otherwise))) ∙ fold-roll-Expr Bool Bool Bool Bool lawful_step lawful_arm_step lawful_prod_part_step lawful_sum_part_step (Expr-F.Case (Some x_operand) arms (Some x_otherwise)) ∙ (and_both (is_lawful_expression x_operand) ((each (map is_lawful_arm arms)) && (is_lawful_expression x_otherwise)) f_operand (and_both (each (map is_lawful_arm arms)) (is_lawful_expression x_otherwise) (arms_all arms f_arms) f_otherwise))

fit_coalesce : (xs : List Expr) → All (Fit) xs → Fit (e.Coalesce xs)
fit_coalesce xs f_xs = ap is_lawful_expression (sym (e.rolls-Coalesce xs)) ∙ fold-roll-Expr Bool Bool Bool Bool lawful_step lawful_arm_step lawful_prod_part_step lawful_sum_part_step (Expr-F.Coalesce xs) ∙ (each_all is_lawful_expression xs f_xs)

fit_nullif : (a : Expr) (b : Expr) → Fit a → Fit b → Fit (e.NullIf a b)
fit_nullif a b f_a f_b = ap is_lawful_expression (sym (e.rolls-NullIf a b)) ∙ fold-roll-Expr Bool Bool Bool Bool lawful_step lawful_arm_step lawful_prod_part_step lawful_sum_part_step (Expr-F.NullIf a b) ∙ (and_both (is_lawful_expression a) (is_lawful_expression b) f_a f_b)

fit_char_length : (a : Expr) → Fit a → Fit (e.CharLength a)
fit_char_length a f_a = ap is_lawful_expression (sym (e.rolls-CharLength a)) ∙ fold-roll-Expr Bool Bool Bool Bool lawful_step lawful_arm_step lawful_prod_part_step lawful_sum_part_step (Expr-F.CharLength a) ∙ f_a

fit_lower : (a : Expr) → Fit a → Fit (e.Lower a)
fit_lower a f_a = ap is_lawful_expression (sym (e.rolls-Lower a)) ∙ fold-roll-Expr Bool Bool Bool Bool lawful_step lawful_arm_step lawful_prod_part_step lawful_sum_part_step (Expr-F.Lower a) ∙ f_a

fit_upper : (a : Expr) → Fit a → Fit (e.Upper a)
fit_upper a f_a = ap is_lawful_expression (sym (e.rolls-Upper a)) ∙ fold-roll-Expr Bool Bool Bool Bool lawful_step lawful_arm_step lawful_prod_part_step lawful_sum_part_step (Expr-F.Upper a) ∙ f_a

fit_substring : (a : Expr) (b : Expr) (count : Option Expr) → Fit a → Fit b → IfThere (Fit) count → Fit (e.Substring a b count)
fit_substring a b None f_a f_b f_count = ap is_lawful_expression (sym (e.rolls-Substring a b None)) ∙ fold-roll-Expr Bool Bool Bool Bool lawful_step lawful_arm_step lawful_prod_part_step lawful_sum_part_step (Expr-F.Substring a b None) ∙ (and_both (is_lawful_expression a) ((is_lawful_expression b) && true) f_a (and_both (is_lawful_expression b) true f_b refl))
fit_substring a b (Some x_count) f_a f_b f_count = ap is_lawful_expression (sym (e.rolls-Substring a b (Some x_count))) ∙ fold-roll-Expr Bool Bool Bool Bool lawful_step lawful_arm_step lawful_prod_part_step lawful_sum_part_step (Expr-F.Substring a b (Some x_count)) ∙ (and_both (is_lawful_expression a) ((is_lawful_expression b) && (is_lawful_expression x_count)) f_a (and_both (is_lawful_expression b) (is_lawful_expression x_count) f_b f_count))

fit_trim : (side : Side) (set : Option Expr) (a : Expr) → IfThere (Fit) set → Fit a → Fit (e.Trim side set a)
fit_trim side None a f_set f_a = ap is_lawful_expression (sym (e.rolls-Trim side None a)) ∙ fold-roll-Expr Bool Bool Bool Bool lawful_step lawful_arm_step lawful_prod_part_step lawful_sum_part_step (Expr-F.Trim side None a) ∙ (and_both true (is_lawful_expression a) refl f_a)
fit_trim side (Some x_set) a f_set f_a = ap is_lawful_expression (sym (e.rolls-Trim side (Some x_set) a)) ∙ fold-roll-Expr Bool Bool Bool Bool lawful_step lawful_arm_step lawful_prod_part_step lawful_sum_part_step (Expr-F.Trim side (Some x_set) a) ∙ (and_both (is_lawful_expression x_set) (is_lawful_expression a) f_set f_a)

fit_extract : (part : DatePart) (a : Expr) → Fit a → Fit (e.Extract part a)
fit_extract part a f_a = ap is_lawful_expression (sym (e.rolls-Extract part a)) ∙ fold-roll-Expr Bool Bool Bool Bool lawful_step lawful_arm_step lawful_prod_part_step lawful_sum_part_step (Expr-F.Extract part a) ∙ f_a

fit_date_add : (part : DatePart) (a : Expr) (b : Expr) → Fit a → Fit b → can_be_moved part ≡ true → Fit (e.DateAdd part a b)
fit_date_add part a b f_a f_b fits = ap is_lawful_expression (sym (e.rolls-DateAdd part a b)) ∙ fold-roll-Expr Bool Bool Bool Bool lawful_step lawful_arm_step lawful_prod_part_step lawful_sum_part_step (Expr-F.DateAdd part a b) ∙ (and_both (can_be_moved part) ((is_lawful_expression a) && (is_lawful_expression b)) fits (and_both (is_lawful_expression a) (is_lawful_expression b) f_a f_b))

fit_to_timestamp : (a : Expr) → Fit a → Fit (e.ToTimestamp a)
fit_to_timestamp a f_a = ap is_lawful_expression (sym (e.rolls-ToTimestamp a)) ∙ fold-roll-Expr Bool Bool Bool Bool lawful_step lawful_arm_step lawful_prod_part_step lawful_sum_part_step (Expr-F.ToTimestamp a) ∙ f_a

-- being lawful, at any height
pub lawful_closed : Closed (λ h a. Fit a)
lawful_closed = record {
  more = λ h a f. f;
  of_or = λ h xs f_xs. fit_or xs f_xs;
  of_and = λ h xs f_xs. fit_and xs f_xs;
  of_not = λ h a f_a. fit_not a f_a;
  of_compare = λ h op a b f_a f_b. fit_compare op a b f_a f_b;
  of_between = λ h t a b c f_a f_b f_c. fit_between t a b c f_a f_b f_c;
  of_among = λ h t a xs f_a f_xs. fit_among t a xs f_a f_xs;
  of_like = λ h t a pattern esc f_a fits. fit_like t a pattern esc f_a fits;
  of_is_null = λ h t a f_a. fit_is_null t a f_a;
  of_is_missing = λ h t a f_a. fit_is_missing t a f_a;
  of_sum = λ h a xs f_a f_xs. fit_sum a xs f_a f_xs;
  of_prod = λ h a xs f_a f_xs. fit_prod a xs f_a f_xs;
  of_minus = λ h a f_a. fit_minus a f_a;
  of_text = λ h bytes. fit_text bytes;
  of_number = λ h n. fit_number n;
  of_bool = λ h t. fit_bool t;
  of_null = λ h. fit_null;
  of_missing = λ h. fit_missing;
  of_path = λ h steps. fit_path steps;
  of_cast = λ h a target f_a fits. fit_cast a target f_a fits;
  of_case = λ h operand arms otherwise f_operand f_arms f_otherwise. fit_case operand arms otherwise f_operand f_arms f_otherwise;
  of_coalesce = λ h xs f_xs. fit_coalesce xs f_xs;
  of_nullif = λ h a b f_a f_b. fit_nullif a b f_a f_b;
  of_char_length = λ h a f_a. fit_char_length a f_a;
  of_lower = λ h a f_a. fit_lower a f_a;
  of_upper = λ h a f_a. fit_upper a f_a;
  of_substring = λ h a b count f_a f_b f_count. fit_substring a b count f_a f_b f_count;
  of_trim = λ h side set a f_set f_a. fit_trim side set a f_set f_a;
  of_extract = λ h part a f_a. fit_extract part a f_a;
  of_date_add = λ h part a b f_a f_b fits. fit_date_add part a b f_a f_b fits;
  of_to_timestamp = λ h a f_a. fit_to_timestamp a f_a;
}
