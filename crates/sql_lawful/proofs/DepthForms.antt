-- Each form is one node deeper than its parts.
use Rattle.std.proofs.Common.{◌≡◌, ℕ, suc, ◌≤◌, max, Bool, true, List, [], ◌∷◌, map, Option, Some, None, sym, ap, ◌∙◌, arith}
use Rattle.grammar_rules.specs.Spelled.{All}
use Rattle.text_view.specs.declared.view.Side.{Side}
use Rattle.sql_decimal.specs.declared.number.Num.{Num}
use Rattle.sql_grammar.specs.declared.tree.Expr.{Expr}
use Rattle.sql_grammar.specs.declared.tree.Expr.TheVariants as e
use Rattle.sql_grammar.specs.declared.tree.Expr.TheOpen.{Expr-F}
use Rattle.sql_grammar.specs.declared.tree.Expr.TheFolds.{fold-roll-Expr, fold_out-SumPart, fold_out-ProdPart, fold_out-Arm}
use Rattle.sql_grammar.specs.declared.tree.SumPart.{SumPart, out-SumPart}
use Rattle.sql_grammar.specs.declared.tree.ProdPart.{ProdPart, out-ProdPart}
use Rattle.sql_grammar.specs.declared.tree.Arm.{Arm, out-Arm}
use Rattle.sql_grammar.specs.declared.tree.CompareOp.{CompareOp}
use Rattle.sql_grammar.specs.declared.tree.CastTarget.{CastTarget}
use Rattle.sql_grammar.specs.declared.tree.DatePart.{DatePart}
use Rattle.sql_grammar.specs.declared.tree.PathStep.{PathStep}
use Rattle.std.proofs.Math.Nat.{max-le}
use Rattle.sql_lawful.specs.Lawful.{fits_escape, is_lawful_target, can_be_moved}
use Rattle.sql_lawful.specs.Depths.{deepest, depth_step, depth_arm_step, depth_prod_part_step, depth_sum_part_step, depth_of, depth_of_arm, depth_of_prod_part, depth_of_sum_part}
use Rattle.sql_lawful.proofs.Always.{IfThere}
use Rattle.sql_lawful.proofs.Closed.{Closed}

abbrev pub Low : ℕ → Expr → Type 0
Low h a = depth_of a ≤ h

zero_low : (h : ℕ) → 0 ≤ h
zero_low h = omega arith

one_low : (h : ℕ) {n : ℕ} → n ≡ 1 → n ≤ suc h
one_low h e = omega (arith, e)

next_low : (h m : ℕ) {n : ℕ} → n ≡ suc m → m ≤ h → n ≤ suc h
next_low h m e l = omega (arith, e, l)

low_more : (h : ℕ) (a : Expr) → Low h a → Low (suc h) a
low_more h a l = omega (arith, l)

-- ---- lists

all_low : {A : Type 0} (h : ℕ) (f : A → ℕ) (xs : List A) → All (λ a. f a ≤ h) xs → deepest (map f xs) ≤ h
all_low h f [] g = zero_low h
all_low h f (x ∷ xs) g = max-le g.0 (all_low h f xs g.1)

same_low : (h : ℕ) {n m : ℕ} → n ≡ m → m ≤ h → n ≤ h
same_low h e l = omega (arith, e, l)

sum_parts : (h : ℕ) (xs : List SumPart) → All (λ p. Low h (out-SumPart p).member) xs → deepest (map depth_of_sum_part xs) ≤ h
sum_parts h [] g = zero_low h
sum_parts h (x ∷ xs) g = max-le (same_low h (fold_out-SumPart ℕ ℕ ℕ ℕ depth_step depth_arm_step depth_prod_part_step depth_sum_part_step x) g.0) (sum_parts h xs g.1)

prod_parts : (h : ℕ) (xs : List ProdPart) → All (λ p. Low h (out-ProdPart p).member) xs → deepest (map depth_of_prod_part xs) ≤ h
prod_parts h [] g = zero_low h
prod_parts h (x ∷ xs) g = max-le (same_low h (fold_out-ProdPart ℕ ℕ ℕ ℕ depth_step depth_arm_step depth_prod_part_step depth_sum_part_step x) g.0) (prod_parts h xs g.1)

arms_low : (h : ℕ) (xs : List Arm) → All (λ a. Low h (out-Arm a).when × Low h (out-Arm a).then) xs → deepest (map depth_of_arm xs) ≤ h
arms_low h [] g = zero_low h
arms_low h (x ∷ xs) g = max-le (same_low h (fold_out-Arm ℕ ℕ ℕ ℕ depth_step depth_arm_step depth_prod_part_step depth_sum_part_step x) (max-le g.0.0 g.0.1)) (arms_low h xs g.1)

-- ---- expressions

low_or : (h : ℕ) (xs : List Expr) → All (Low h) xs → Low (suc h) (e.Or xs)
low_or h xs f_xs = next_low h (deepest (map depth_of xs)) (ap depth_of (sym (e.rolls-Or xs)) ∙ fold-roll-Expr ℕ ℕ ℕ ℕ depth_step depth_arm_step depth_prod_part_step depth_sum_part_step (Expr-F.Or xs)) (all_low h depth_of xs f_xs)

low_and : (h : ℕ) (xs : List Expr) → All (Low h) xs → Low (suc h) (e.And xs)
low_and h xs f_xs = next_low h (deepest (map depth_of xs)) (ap depth_of (sym (e.rolls-And xs)) ∙ fold-roll-Expr ℕ ℕ ℕ ℕ depth_step depth_arm_step depth_prod_part_step depth_sum_part_step (Expr-F.And xs)) (all_low h depth_of xs f_xs)

low_not : (h : ℕ) (a : Expr) → Low h a → Low (suc h) (e.Not a)
low_not h a f_a = next_low h (depth_of a) (ap depth_of (sym (e.rolls-Not a)) ∙ fold-roll-Expr ℕ ℕ ℕ ℕ depth_step depth_arm_step depth_prod_part_step depth_sum_part_step (Expr-F.Not a)) f_a

low_compare : (h : ℕ) (op : CompareOp) (a : Expr) (b : Expr) → Low h a → Low h b → Low (suc h) (e.Compare op a b)
low_compare h op a b f_a f_b = next_low h (max (depth_of a) (depth_of b)) (ap depth_of (sym (e.rolls-Compare op a b)) ∙ fold-roll-Expr ℕ ℕ ℕ ℕ depth_step depth_arm_step depth_prod_part_step depth_sum_part_step (Expr-F.Compare op a b)) (max-le f_a f_b)

low_between : (h : ℕ) (t : Bool) (a : Expr) (b : Expr) (c : Expr) → Low h a → Low h b → Low h c → Low (suc h) (e.Between t a b c)
low_between h t a b c f_a f_b f_c = next_low h (max (depth_of a) (max (depth_of b) (depth_of c))) (ap depth_of (sym (e.rolls-Between t a b c)) ∙ fold-roll-Expr ℕ ℕ ℕ ℕ depth_step depth_arm_step depth_prod_part_step depth_sum_part_step (Expr-F.Between t a b c)) (max-le f_a (max-le f_b f_c))

low_among : (h : ℕ) (t : Bool) (a : Expr) (xs : List Expr) → Low h a → All (Low h) xs → Low (suc h) (e.Among t a xs)
low_among h t a xs f_a f_xs = next_low h (max (depth_of a) (deepest (map depth_of xs))) (ap depth_of (sym (e.rolls-Among t a xs)) ∙ fold-roll-Expr ℕ ℕ ℕ ℕ depth_step depth_arm_step depth_prod_part_step depth_sum_part_step (Expr-F.Among t a xs)) (max-le f_a (all_low h depth_of xs f_xs))

low_like : (h : ℕ) (t : Bool) (a : Expr) (pattern : List ℕ) (esc : Option ℕ) → Low h a → fits_escape pattern esc ≡ true → Low (suc h) (e.Like t a pattern esc)
low_like h t a pattern esc f_a fits = next_low h (depth_of a) (ap depth_of (sym (e.rolls-Like t a pattern esc)) ∙ fold-roll-Expr ℕ ℕ ℕ ℕ depth_step depth_arm_step depth_prod_part_step depth_sum_part_step (Expr-F.Like t a pattern esc)) f_a

low_is_null : (h : ℕ) (t : Bool) (a : Expr) → Low h a → Low (suc h) (e.IsNull t a)
low_is_null h t a f_a = next_low h (depth_of a) (ap depth_of (sym (e.rolls-IsNull t a)) ∙ fold-roll-Expr ℕ ℕ ℕ ℕ depth_step depth_arm_step depth_prod_part_step depth_sum_part_step (Expr-F.IsNull t a)) f_a

low_is_missing : (h : ℕ) (t : Bool) (a : Expr) → Low h a → Low (suc h) (e.IsMissing t a)
low_is_missing h t a f_a = next_low h (depth_of a) (ap depth_of (sym (e.rolls-IsMissing t a)) ∙ fold-roll-Expr ℕ ℕ ℕ ℕ depth_step depth_arm_step depth_prod_part_step depth_sum_part_step (Expr-F.IsMissing t a)) f_a

low_sum : (h : ℕ) (a : Expr) (xs : List SumPart) → Low h a → All (λ p. Low h (out-SumPart p).member) xs → Low (suc h) (e.Sum a xs)
low_sum h a xs f_a f_xs = next_low h (max (depth_of a) (deepest (map depth_of_sum_part xs))) (ap depth_of (sym (e.rolls-Sum a xs)) ∙ fold-roll-Expr ℕ ℕ ℕ ℕ depth_step depth_arm_step depth_prod_part_step depth_sum_part_step (Expr-F.Sum a xs)) (max-le f_a (sum_parts h xs f_xs))

low_prod : (h : ℕ) (a : Expr) (xs : List ProdPart) → Low h a → All (λ p. Low h (out-ProdPart p).member) xs → Low (suc h) (e.Prod a xs)
low_prod h a xs f_a f_xs = next_low h (max (depth_of a) (deepest (map depth_of_prod_part xs))) (ap depth_of (sym (e.rolls-Prod a xs)) ∙ fold-roll-Expr ℕ ℕ ℕ ℕ depth_step depth_arm_step depth_prod_part_step depth_sum_part_step (Expr-F.Prod a xs)) (max-le f_a (prod_parts h xs f_xs))

low_minus : (h : ℕ) (a : Expr) → Low h a → Low (suc h) (e.Minus a)
low_minus h a f_a = next_low h (depth_of a) (ap depth_of (sym (e.rolls-Minus a)) ∙ fold-roll-Expr ℕ ℕ ℕ ℕ depth_step depth_arm_step depth_prod_part_step depth_sum_part_step (Expr-F.Minus a)) f_a

low_text : (h : ℕ) (bytes : List ℕ) → Low (suc h) (e.Text bytes)
low_text h bytes = one_low h (ap depth_of (sym (e.rolls-Text bytes)) ∙ fold-roll-Expr ℕ ℕ ℕ ℕ depth_step depth_arm_step depth_prod_part_step depth_sum_part_step (Expr-F.Text bytes))

low_number : (h : ℕ) (n : Num) → Low (suc h) (e.Number n)
low_number h n = one_low h (ap depth_of (sym (e.rolls-Number n)) ∙ fold-roll-Expr ℕ ℕ ℕ ℕ depth_step depth_arm_step depth_prod_part_step depth_sum_part_step (Expr-F.Number n))

low_bool : (h : ℕ) (t : Bool) → Low (suc h) (e.Bool t)
low_bool h t = one_low h (ap depth_of (sym (e.rolls-Bool t)) ∙ fold-roll-Expr ℕ ℕ ℕ ℕ depth_step depth_arm_step depth_prod_part_step depth_sum_part_step (Expr-F.Bool t))

low_null : (h : ℕ) → Low (suc h) e.Null
low_null h = one_low h (ap depth_of (sym (e.rolls-Null)) ∙ fold-roll-Expr ℕ ℕ ℕ ℕ depth_step depth_arm_step depth_prod_part_step depth_sum_part_step Expr-F.Null)

low_missing : (h : ℕ) → Low (suc h) e.Missing
low_missing h = one_low h (ap depth_of (sym (e.rolls-Missing)) ∙ fold-roll-Expr ℕ ℕ ℕ ℕ depth_step depth_arm_step depth_prod_part_step depth_sum_part_step Expr-F.Missing)

low_path : (h : ℕ) (steps : List PathStep) → Low (suc h) (e.Path steps)
low_path h steps = one_low h (ap depth_of (sym (e.rolls-Path steps)) ∙ fold-roll-Expr ℕ ℕ ℕ ℕ depth_step depth_arm_step depth_prod_part_step depth_sum_part_step (Expr-F.Path steps))

low_cast : (h : ℕ) (a : Expr) (target : CastTarget) → Low h a → is_lawful_target target ≡ true → Low (suc h) (e.Cast a target)
low_cast h a target f_a fits = next_low h (depth_of a) (ap depth_of (sym (e.rolls-Cast a target)) ∙ fold-roll-Expr ℕ ℕ ℕ ℕ depth_step depth_arm_step depth_prod_part_step depth_sum_part_step (Expr-F.Cast a target)) f_a

low_case : (h : ℕ) (operand : Option Expr) (arms : List Arm) (otherwise : Option Expr) → IfThere (Low h) operand → All (λ a. Low h (out-Arm a).when × Low h (out-Arm a).then) arms → IfThere (Low h) otherwise → Low (suc h) (e.Case operand arms otherwise)
low_case h None arms None f_operand f_arms f_otherwise = next_low h (max 0 (max (deepest (map depth_of_arm arms)) 0)) (ap depth_of (sym (e.rolls-Case None arms None)) ∙ fold-roll-Expr ℕ ℕ ℕ ℕ depth_step depth_arm_step depth_prod_part_step depth_sum_part_step (Expr-F.Case None arms None)) (max-le (zero_low h) (max-le (arms_low h arms f_arms) (zero_low h)))
low_case h None arms (Some x_otherwise) f_operand f_arms f_otherwise = next_low h (max 0 (max (deepest (map depth_of_arm arms)) (depth_of x_otherwise))) (ap depth_of (sym (e.rolls-Case None arms (Some x_otherwise))) ∙ fold-roll-Expr ℕ ℕ ℕ ℕ depth_step depth_arm_step depth_prod_part_step depth_sum_part_step (Expr-F.Case None arms (Some x_otherwise))) (max-le (zero_low h) (max-le (arms_low h arms f_arms) f_otherwise))
low_case h (Some x_operand) arms None f_operand f_arms f_otherwise = next_low h (max (depth_of x_operand) (max (deepest (map depth_of_arm arms)) 0)) (ap depth_of (sym (e.rolls-Case (Some x_operand) arms None)) ∙ fold-roll-Expr ℕ ℕ ℕ ℕ depth_step depth_arm_step depth_prod_part_step depth_sum_part_step (Expr-F.Case (Some x_operand) arms None)) (max-le f_operand (max-le (arms_low h arms f_arms) (zero_low h)))
low_case h (Some x_operand) arms (Some x_otherwise) f_operand f_arms f_otherwise = next_low h (max (depth_of x_operand) (max (deepest (map depth_of_arm arms)) (depth_of x_otherwise))) (ap depth_of (sym (e.rolls-Case (Some x_operand) arms (Some x_otherwise))) ∙ fold-roll-Expr ℕ ℕ ℕ ℕ depth_step depth_arm_step depth_prod_part_step depth_sum_part_step (Expr-F.Case (Some x_operand) arms (Some x_otherwise))) (max-le f_operand (max-le (arms_low h arms f_arms) f_otherwise))

low_coalesce : (h : ℕ) (xs : List Expr) → All (Low h) xs → Low (suc h) (e.Coalesce xs)
low_coalesce h xs f_xs = next_low h (deepest (map depth_of xs)) (ap depth_of (sym (e.rolls-Coalesce xs)) ∙ fold-roll-Expr ℕ ℕ ℕ ℕ depth_step depth_arm_step depth_prod_part_step depth_sum_part_step (Expr-F.Coalesce xs)) (all_low h depth_of xs f_xs)

low_nullif : (h : ℕ) (a : Expr) (b : Expr) → Low h a → Low h b → Low (suc h) (e.NullIf a b)
low_nullif h a b f_a f_b = next_low h (max (depth_of a) (depth_of b)) (ap depth_of (sym (e.rolls-NullIf a b)) ∙ fold-roll-Expr ℕ ℕ ℕ ℕ depth_step depth_arm_step depth_prod_part_step depth_sum_part_step (Expr-F.NullIf a b)) (max-le f_a f_b)

low_char_length : (h : ℕ) (a : Expr) → Low h a → Low (suc h) (e.CharLength a)
low_char_length h a f_a = next_low h (depth_of a) (ap depth_of (sym (e.rolls-CharLength a)) ∙ fold-roll-Expr ℕ ℕ ℕ ℕ depth_step depth_arm_step depth_prod_part_step depth_sum_part_step (Expr-F.CharLength a)) f_a

low_lower : (h : ℕ) (a : Expr) → Low h a → Low (suc h) (e.Lower a)
low_lower h a f_a = next_low h (depth_of a) (ap depth_of (sym (e.rolls-Lower a)) ∙ fold-roll-Expr ℕ ℕ ℕ ℕ depth_step depth_arm_step depth_prod_part_step depth_sum_part_step (Expr-F.Lower a)) f_a

low_upper : (h : ℕ) (a : Expr) → Low h a → Low (suc h) (e.Upper a)
low_upper h a f_a = next_low h (depth_of a) (ap depth_of (sym (e.rolls-Upper a)) ∙ fold-roll-Expr ℕ ℕ ℕ ℕ depth_step depth_arm_step depth_prod_part_step depth_sum_part_step (Expr-F.Upper a)) f_a

low_substring : (h : ℕ) (a : Expr) (b : Expr) (count : Option Expr) → Low h a → Low h b → IfThere (Low h) count → Low (suc h) (e.Substring a b count)
low_substring h a b None f_a f_b f_count = next_low h (max (depth_of a) (max (depth_of b) 0)) (ap depth_of (sym (e.rolls-Substring a b None)) ∙ fold-roll-Expr ℕ ℕ ℕ ℕ depth_step depth_arm_step depth_prod_part_step depth_sum_part_step (Expr-F.Substring a b None)) (max-le f_a (max-le f_b (zero_low h)))
low_substring h a b (Some x_count) f_a f_b f_count = next_low h (max (depth_of a) (max (depth_of b) (depth_of x_count))) (ap depth_of (sym (e.rolls-Substring a b (Some x_count))) ∙ fold-roll-Expr ℕ ℕ ℕ ℕ depth_step depth_arm_step depth_prod_part_step depth_sum_part_step (Expr-F.Substring a b (Some x_count))) (max-le f_a (max-le f_b f_count))

low_trim : (h : ℕ) (side : Side) (set : Option Expr) (a : Expr) → IfThere (Low h) set → Low h a → Low (suc h) (e.Trim side set a)
low_trim h side None a f_set f_a = next_low h (max 0 (depth_of a)) (ap depth_of (sym (e.rolls-Trim side None a)) ∙ fold-roll-Expr ℕ ℕ ℕ ℕ depth_step depth_arm_step depth_prod_part_step depth_sum_part_step (Expr-F.Trim side None a)) (max-le (zero_low h) f_a)
low_trim h side (Some x_set) a f_set f_a = next_low h (max (depth_of x_set) (depth_of a)) (ap depth_of (sym (e.rolls-Trim side (Some x_set) a)) ∙ fold-roll-Expr ℕ ℕ ℕ ℕ depth_step depth_arm_step depth_prod_part_step depth_sum_part_step (Expr-F.Trim side (Some x_set) a)) (max-le f_set f_a)

low_extract : (h : ℕ) (part : DatePart) (a : Expr) → Low h a → Low (suc h) (e.Extract part a)
low_extract h part a f_a = next_low h (depth_of a) (ap depth_of (sym (e.rolls-Extract part a)) ∙ fold-roll-Expr ℕ ℕ ℕ ℕ depth_step depth_arm_step depth_prod_part_step depth_sum_part_step (Expr-F.Extract part a)) f_a

low_date_add : (h : ℕ) (part : DatePart) (a : Expr) (b : Expr) → Low h a → Low h b → can_be_moved part ≡ true → Low (suc h) (e.DateAdd part a b)
low_date_add h part a b f_a f_b fits = next_low h (max (depth_of a) (depth_of b)) (ap depth_of (sym (e.rolls-DateAdd part a b)) ∙ fold-roll-Expr ℕ ℕ ℕ ℕ depth_step depth_arm_step depth_prod_part_step depth_sum_part_step (Expr-F.DateAdd part a b)) (max-le f_a f_b)

low_to_timestamp : (h : ℕ) (a : Expr) → Low h a → Low (suc h) (e.ToTimestamp a)
low_to_timestamp h a f_a = next_low h (depth_of a) (ap depth_of (sym (e.rolls-ToTimestamp a)) ∙ fold-roll-Expr ℕ ℕ ℕ ℕ depth_step depth_arm_step depth_prod_part_step depth_sum_part_step (Expr-F.ToTimestamp a)) f_a

-- being at most so deep
pub low_closed : Closed Low
low_closed = record {
  more = low_more;
  of_or = low_or;
  of_and = low_and;
  of_not = low_not;
  of_compare = low_compare;
  of_between = low_between;
  of_among = low_among;
  of_like = low_like;
  of_is_null = low_is_null;
  of_is_missing = low_is_missing;
  of_sum = low_sum;
  of_prod = low_prod;
  of_minus = low_minus;
  of_text = low_text;
  of_number = low_number;
  of_bool = low_bool;
  of_null = low_null;
  of_missing = low_missing;
  of_path = low_path;
  of_cast = low_cast;
  of_case = low_case;
  of_coalesce = low_coalesce;
  of_nullif = low_nullif;
  of_char_length = low_char_length;
  of_lower = low_lower;
  of_upper = low_upper;
  of_substring = low_substring;
  of_trim = low_trim;
  of_extract = low_extract;
  of_date_add = low_date_add;
  of_to_timestamp = low_to_timestamp;
}
