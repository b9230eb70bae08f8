-- The texts of forms, level by level.
use Rattle.std.proofs.Common.{◌≡◌, ℕ, Bool, List, [], ◌∷◌, ◌++◌, map, Option, Some, None, refl, sym, ap, ◌∙◌, append_assoc, codes}
use Rattle.grammar_rules.specs.Spelled.{print_all}
use Rattle.sql_grammar.specs.declared.tree.Expr.{Expr}
use Rattle.sql_grammar.specs.declared.tree.Expr.TheVariants as e
use Rattle.sql_grammar.specs.declared.tree.SumPart.{SumPart, out-SumPart}
use Rattle.sql_grammar.specs.declared.tree.ProdPart.{ProdPart, out-ProdPart}
use Rattle.sql_grammar.specs.declared.tree.Arm.{Arm, out-Arm}
use Rattle.sql_grammar.specs.declared.tree.Expr.TheFolds.{fold-roll-Expr, fold_out-SumPart, fold_out-ProdPart, fold_out-Arm}
use Rattle.sql_grammar.specs.declared.tree.Expr.TheOpen.{Expr-F}
use Rattle.sql_grammar.specs.declared.tree.CompareOp.{CompareOp}
use Rattle.sql_grammar.specs.declared.tree.CastTarget.{CastTarget}
use Rattle.sql_grammar.specs.declared.tree.DatePart.{DatePart}
use Rattle.sql_grammar.specs.declared.tree.PathStep.{PathStep}
use Rattle.text_view.specs.declared.view.Side.{Side}
use Rattle.sql_decimal.specs.declared.number.Num.{Num}
use Rattle.sql_printed.specs.Shown.{Shown, shown, at, sum_text, prod_text, shown_step, arm_step, prod_part_step, sum_part_step, shown_sum_part, shown_prod_part, shown_arm, joined_from}

-- ---- lists of texts

pub all_mapped : {A : Type 0} (f : A → List ℕ) (xs : List A) → print_all (λ t. t) (map f xs) ≡ print_all f xs
all_mapped f [] = refl
all_mapped f (x ∷ xs) = ap (λ l. f x ++ l) (all_mapped f xs)

pub all_same : {A : Type 0} (f g : A → List ℕ) → ((a : A) → f a ≡ g a) → (xs : List A) → print_all f xs ≡ print_all g xs
all_same f g h [] = refl
all_same f g h (x ∷ xs) = ap (λ l. l ++ print_all f xs) (h x) ∙ ap (λ l. g x ++ l) (all_same f g h xs)

pub joined_rest : {A B : Type 0} (separator : List ℕ) (f : B → List ℕ) (g : A → B) (xs : List A) → joined_from separator separator (map f (map g xs)) ≡ print_all (λ a. separator ++ f (g a)) xs
joined_rest separator f g [] = refl
joined_rest separator f g (x ∷ xs) =
    ap (λ l. separator ++ (f (g x) ++ l)) (joined_rest separator f g xs) ∙ sym (append_assoc separator (f (g x)) (print_all (λ a. separator ++ f (g a)) xs))

-- ---- parts

abbrev pub sum_part_text : SumPart → List ℕ
sum_part_text p = sum_text (out-SumPart p).op ++ at 2 (shown (out-SumPart p).member)

abbrev pub prod_part_text : ProdPart → List ℕ
prod_part_text p = prod_text (out-ProdPart p).op ++ at 1 (shown (out-ProdPart p).member)

abbrev pub arm_text : Arm → List ℕ
arm_text a = codes " WHEN " ++ ((shown (out-Arm a).when).text ++ (codes " THEN " ++ (shown (out-Arm a).then).text))

pub sum_part_is : (p : SumPart) → shown_sum_part p ≡ sum_part_text p
sum_part_is p = fold_out-SumPart Shown (List ℕ) (List ℕ) (List ℕ) shown_step arm_step prod_part_step sum_part_step p

pub prod_part_is : (p : ProdPart) → shown_prod_part p ≡ prod_part_text p
prod_part_is p = fold_out-ProdPart Shown (List ℕ) (List ℕ) (List ℕ) shown_step arm_step prod_part_step sum_part_step p

pub arm_is : (p : Arm) → shown_arm p ≡ arm_text p
arm_is p = fold_out-Arm Shown (List ℕ) (List ℕ) (List ℕ) shown_step arm_step prod_part_step sum_part_step p

-- ---- expressions

abbrev pub shown_option : Option Expr → Option Shown
shown_option None = None
shown_option (Some a) = Some (shown a)

pub shown_or : (xs : List Expr) → shown (e.Or xs) ≡ shown_step (Expr-F.Or (map shown xs))
shown_or xs = ap shown (sym (e.rolls-Or xs)) ∙ fold-roll-Expr Shown (List ℕ) (List ℕ) (List ℕ) shown_step arm_step prod_part_step sum_part_step (Expr-F.Or xs)

pub shown_and : (xs : List Expr) → shown (e.And xs) ≡ shown_step (Expr-F.And (map shown xs))
shown_and xs = ap shown (sym (e.rolls-And xs)) ∙ fold-roll-Expr Shown (List ℕ) (List ℕ) (List ℕ) shown_step arm_step prod_part_step sum_part_step (Expr-F.And xs)

pub shown_not : (a : Expr) → shown (e.Not a) ≡ shown_step (Expr-F.Not (shown a))
shown_not a = ap shown (sym (e.rolls-Not a)) ∙ fold-roll-Expr Shown (List ℕ) (List ℕ) (List ℕ) shown_step arm_step prod_part_step sum_part_step (Expr-F.Not a)

pub shown_compare : (op : CompareOp) (a : Expr) (b : Expr) → shown (e.Compare op a b) ≡ shown_step (Expr-F.Compare op (shown a) (shown b))
shown_compare op a b = ap shown (sym (e.rolls-Compare op a b)) ∙ fold-roll-Expr Shown (List ℕ) (List ℕ) (List ℕ) shown_step arm_step prod_part_step sum_part_step (Expr-F.Compare op a b)

pub shown_between : (t : Bool) (a : Expr) (b : Expr) (c : Expr) → shown (e.Between t a b c) ≡ shown_step (Expr-F.Between t (shown a) (shown b) (shown c))
shown_between t a b c = ap shown (sym (e.rolls-Between t a b c)) ∙ fold-roll-Expr Shown (List ℕ) (List ℕ) (List ℕ) shown_step arm_step prod_part_step sum_part_step (Expr-F.Between t a b c)

pub shown_among : (t : Bool) (a : Expr) (xs : List Expr) → shown (e.Among t a xs) ≡ shown_step (Expr-F.Among t (shown a) (map shown xs))
shown_among t a xs = ap shown (sym (e.rolls-Among t a xs)) ∙ fold-roll-Expr Shown (List ℕ) (List ℕ) (List ℕ) shown_step arm_step prod_part_step sum_part_step (Expr-F.Among t a xs)

pub shown_like : (t : Bool) (a : Expr) (pattern : List ℕ) (escape : Option ℕ) → shown (e.Like t a pattern escape) ≡ shown_step (Expr-F.Like t (shown a) pattern escape)
shown_like t a pattern escape = ap shown (sym (e.rolls-Like t a pattern escape)) ∙ fold-roll-Expr Shown (List ℕ) (List ℕ) (List ℕ) shown_step arm_step prod_part_step sum_part_step (Expr-F.Like t a pattern escape)

pub shown_is_null : (t : Bool) (a : Expr) → shown (e.IsNull t a) ≡ shown_step (Expr-F.IsNull t (shown a))
shown_is_null t a = ap shown (sym (e.rolls-IsNull t a)) ∙ fold-roll-Expr Shown (List ℕ) (List ℕ) (List ℕ) shown_step arm_step prod_part_step sum_part_step (Expr-F.IsNull t a)

pub shown_is_missing : (t : Bool) (a : Expr) → shown (e.IsMissing t a) ≡ shown_step (Expr-F.IsMissing t (shown a))
shown_is_missing t a = ap shown (sym (e.rolls-IsMissing t a)) ∙ fold-roll-Expr Shown (List ℕ) (List ℕ) (List ℕ) shown_step arm_step prod_part_step sum_part_step (Expr-F.IsMissing t a)

pub shown_sum : (a : Expr) (xs : List SumPart) → shown (e.Sum a xs) ≡ shown_step (Expr-F.Sum (shown a) (map shown_sum_part xs))
shown_sum a xs = ap shown (sym (e.rolls-Sum a xs)) ∙ fold-roll-Expr Shown (List ℕ) (List ℕ) (List ℕ) shown_step arm_step prod_part_step sum_part_step (Expr-F.Sum a xs)

pub shown_prod : (a : Expr) (xs : List ProdPart) → shown (e.Prod a xs) ≡ shown_step (Expr-F.Prod (shown a) (map shown_prod_part xs))
shown_prod a xs = ap shown (sym (e.rolls-Prod a xs)) ∙ fold-roll-Expr Shown (List ℕ) (List ℕ) (List ℕ) shown_step arm_step prod_part_step sum_part_step (Expr-F.Prod a xs)

pub shown_minus : (a : Expr) → shown (e.Minus a) ≡ shown_step (Expr-F.Minus (shown a))
shown_minus a = ap shown (sym (e.rolls-Minus a)) ∙ fold-roll-Expr Shown (List ℕ) (List ℕ) (List ℕ) shown_step arm_step prod_part_step sum_part_step (Expr-F.Minus a)

pub shown_text : (bytes : List ℕ) → shown (e.Text bytes) ≡ shown_step (Expr-F.Text bytes)
shown_text bytes = ap shown (sym (e.rolls-Text bytes)) ∙ fold-roll-Expr Shown (List ℕ) (List ℕ) (List ℕ) shown_step arm_step prod_part_step sum_part_step (Expr-F.Text bytes)

pub shown_number : (n : Num) → shown (e.Number n) ≡ shown_step (Expr-F.Number n)
shown_number n = ap shown (sym (e.rolls-Number n)) ∙ fold-roll-Expr Shown (List ℕ) (List ℕ) (List ℕ) shown_step arm_step prod_part_step sum_part_step (Expr-F.Number n)

pub shown_bool : (t : Bool) → shown (e.Bool t) ≡ shown_step (Expr-F.Bool t)
shown_bool t = ap shown (sym (e.rolls-Bool t)) ∙ fold-roll-Expr Shown (List ℕ) (List ℕ) (List ℕ) shown_step arm_step prod_part_step sum_part_step (Expr-F.Bool t)

pub shown_null : shown e.Null ≡ shown_step Expr-F.Null
shown_null = ap shown (sym (e.rolls-Null)) ∙ fold-roll-Expr Shown (List ℕ) (List ℕ) (List ℕ) shown_step arm_step prod_part_step sum_part_step Expr-F.Null

pub shown_missing : shown e.Missing ≡ shown_step Expr-F.Missing
shown_missing = ap shown (sym (e.rolls-Missing)) ∙ fold-roll-Expr Shown (List ℕ) (List ℕ) (List ℕ) shown_step arm_step prod_part_step sum_part_step Expr-F.Missing

pub shown_path : (steps : List PathStep) → shown (e.Path steps) ≡ shown_step (Expr-F.Path steps)
shown_path steps = ap shown (sym (e.rolls-Path steps)) ∙ fold-roll-Expr Shown (List ℕ) (List ℕ) (List ℕ) shown_step arm_step prod_part_step sum_part_step (Expr-F.Path steps)

pub shown_cast : (a : Expr) (target : CastTarget) → shown (e.Cast a target) ≡ shown_step (Expr-F.Cast (shown a) target)
shown_cast a target = ap shown (sym (e.rolls-Cast a target)) ∙ fold-roll-Expr Shown (List ℕ) (List ℕ) (List ℕ) shown_step arm_step prod_part_step sum_part_step (Expr-F.Cast a target)

pub shown_case : (operand : Option Expr) (arms : List Arm) (otherwise : Option Expr) → shown (e.Case operand arms otherwise) ≡ shown_step (Expr-F.Case (shown_option operand) (map shown_arm arms) (shown_option otherwise))
shown_case None arms None = ap shown (sym (e.rolls-Case None arms None)) ∙ fold-roll-Expr Shown (List ℕ) (List ℕ) (List ℕ) shown_step arm_step prod_part_step sum_part_step (Expr-F.Case None arms None)
shown_case None arms (Some x2) = ap shown (sym (e.rolls-Case None arms (Some x2))) ∙ fold-roll-Expr Shown (List ℕ) (List ℕ) (List ℕ) shown_step arm_step prod_part_step sum_part_step (Expr-F.Case None arms (Some x2))
shown_case (Some x0) arms None = ap shown (sym (e.rolls-Case (Some x0) arms None)) ∙ fold-roll-Expr Shown (List ℕ) (List ℕ) (List ℕ) shown_step arm_step prod_part_step sum_part_step (Expr-F.Case (Some x0) arms None)
shown_case (Some x0) arms (Some x2) = ap shown (sym (e.rolls-Case (Some x0) arms (Some x2))) ∙ fold-roll-Expr Shown (List ℕ) (List ℕ) (List ℕ) shown_step arm_step prod_part_step sum_part_step (Expr-F.Case (Some x0) arms (Some x2))

pub shown_coalesce : (xs : List Expr) → shown (e.Coalesce xs) ≡ shown_step (Expr-F.Coalesce (map shown xs))
shown_coalesce xs = ap shown (sym (e.rolls-Coalesce xs)) ∙ fold-roll-Expr Shown (List ℕ) (List ℕ) (List ℕ) shown_step arm_step prod_part_step sum_part_step (Expr-F.Coalesce xs)

pub shown_nullif : (a : Expr) (b : Expr) → shown (e.NullIf a b) ≡ shown_step (Expr-F.NullIf (shown a) (shown b))
shown_nullif a b = ap shown (sym (e.rolls-NullIf a b)) ∙ fold-roll-Expr Shown (List ℕ) (List ℕ) (List ℕ) shown_step arm_step prod_part_step sum_part_step (Expr-F.NullIf a b)

pub shown_char_length : (a : Expr) → shown (e.CharLength a) ≡ shown_step (Expr-F.CharLength (shown a))
shown_char_length a = ap shown (sym (e.rolls-CharLength a)) ∙ fold-roll-Expr Shown (List ℕ) (List ℕ) (List ℕ) shown_step arm_step prod_part_step sum_part_step (Expr-F.CharLength a)

pub shown_lower : (a : Expr) → shown (e.Lower a) ≡ shown_step (Expr-F.Lower (shown a))
shown_lower a = ap shown (sym (e.rolls-Lower a)) ∙ fold-roll-Expr Shown (List ℕ) (List ℕ) (List ℕ) shown_step arm_step prod_part_step sum_part_step (Expr-F.Lower a)

pub shown_upper : (a : Expr) → shown (e.Upper a) ≡ shown_step (Expr-F.Upper (shown a))
shown_upper a = ap shown (sym (e.rolls-Upper a)) ∙ fold-roll-Expr Shown (List ℕ) (List ℕ) (List ℕ) shown_step arm_step prod_part_step sum_part_step (Expr-F.Upper a)

pub shown_substring : (a : Expr) (b : Expr) (count : Option Expr) → shown (e.Substring a b count) ≡ shown_step (Expr-F.Substring (shown a) (shown b) (shown_option count))
shown_substring a b None = ap shown (sym (e.rolls-Substring a b None)) ∙ fold-roll-Expr Shown (List ℕ) (List ℕ) (List ℕ) shown_step arm_step prod_part_step sum_part_step (Expr-F.Substring a b None)
shown_substring a b (Some x2) = ap shown (sym (e.rolls-Substring a b (Some x2))) ∙ fold-roll-Expr Shown (List ℕ) (List ℕ) (List ℕ) shown_step arm_step prod_part_step sum_part_step (Expr-F.Substring a b (Some x2))

pub shown_trim : (side : Side) (set : Option Expr) (a : Expr) → shown (e.Trim side set a) ≡ shown_step (Expr-F.Trim side (shown_option set) (shown a))
shown_trim side None a = ap shown (sym (e.rolls-Trim side None a)) ∙ fold-roll-Expr Shown (List ℕ) (List ℕ) (List ℕ) shown_step arm_step prod_part_step sum_part_step (Expr-F.Trim side None a)
shown_trim side (Some x1) a = ap shown (sym (e.rolls-Trim side (Some x1) a)) ∙ fold-roll-Expr Shown (List ℕ) (List ℕ) (List ℕ) shown_step arm_step prod_part_step sum_part_step (Expr-F.Trim side (Some x1) a)

pub shown_extract : (part : DatePart) (a : Expr) → shown (e.Extract part a) ≡ shown_step (Expr-F.Extract part (shown a))
shown_extract part a = ap shown (sym (e.rolls-Extract part a)) ∙ fold-roll-Expr Shown (List ℕ) (List ℕ) (List ℕ) shown_step arm_step prod_part_step sum_part_step (Expr-F.Extract part a)

pub shown_date_add : (part : DatePart) (a : Expr) (b : Expr) → shown (e.DateAdd part a b) ≡ shown_step (Expr-F.DateAdd part (shown a) (shown b))
shown_date_add part a b = ap shown (sym (e.rolls-DateAdd part a b)) ∙ fold-roll-Expr Shown (List ℕ) (List ℕ) (List ℕ) shown_step arm_step prod_part_step sum_part_step (Expr-F.DateAdd part a b)

pub shown_to_timestamp : (a : Expr) → shown (e.ToTimestamp a) ≡ shown_step (Expr-F.ToTimestamp (shown a))
shown_to_timestamp a = ap shown (sym (e.rolls-ToTimestamp a)) ∙ fold-roll-Expr Shown (List ℕ) (List ℕ) (List ℕ) shown_step arm_step prod_part_step sum_part_step (Expr-F.ToTimestamp a)
