-- A lawful expression is bound to a lawful one.
use Rattle.std.proofs.Common.{◌≡◌, ℕ, Bool, true, false, ◌&&◌, List, [], ◌∷◌, map, Option, Some, None, refl, sym, ap, ◌∙◌, subst, unwrap_or, chars}
use Rattle.std.specs.Option.{option_map}
use Rattle.text_view.specs.declared.view.Side.{Side}
use Rattle.text_view.specs.LikePattern.{pattern_parts}
use Rattle.sql_decimal.specs.declared.number.Num.{Num}
use Rattle.sql_grammar.specs.declared.tree.CompareOp.{CompareOp}
use Rattle.sql_grammar.specs.declared.tree.SumOp.{SumOp}
use Rattle.sql_grammar.specs.declared.tree.ProdOp.{ProdOp}
use Rattle.sql_grammar.specs.declared.tree.CastTarget.{CastTarget}
use Rattle.sql_grammar.specs.declared.tree.CastTarget.TheVariants as target
use Rattle.sql_grammar.specs.declared.tree.DatePart.{DatePart}
use Rattle.sql_grammar.specs.declared.tree.DatePart.TheVariants as part
use Rattle.sql_grammar.specs.declared.tree.PathStep.{PathStep}
use Rattle.sql_grammar.specs.declared.tree.Expr.{Expr, roll-Expr}
use Rattle.sql_grammar.specs.declared.tree.SumPart.{SumPart, roll-SumPart}
use Rattle.sql_grammar.specs.declared.tree.ProdPart.{ProdPart, roll-ProdPart}
use Rattle.sql_grammar.specs.declared.tree.Arm.{Arm, roll-Arm}
use Rattle.sql_grammar.specs.declared.tree.Expr.TheOpen.{Expr-F, SumPart-F, ProdPart-F, Arm-F}
use Rattle.sql_grammar.specs.declared.tree.Expr.TheFolds.{fold-roll-Expr, fold-roll-SumPart, fold-roll-ProdPart, fold-roll-Arm, ind-Expr, map-Expr}
use Rattle.sql_bound.specs.declared.tree.Bound.{Bound}
use Rattle.sql_bound.specs.declared.tree.Bound.TheVariants as bound
use Rattle.sql_bound.specs.declared.tree.BoundSumPart.{BoundSumPart}
use Rattle.sql_bound.specs.declared.tree.BoundProdPart.{BoundProdPart}
use Rattle.sql_bound.specs.declared.tree.BoundArm.{BoundArm}
use Rattle.sql_bound.specs.declared.tree.Bound.TheOpen.{Bound-F, BoundSumPart-F, BoundProdPart-F, BoundArm-F}
use Rattle.sql_bound.specs.declared.tree.Bound.TheFolds.{fold-roll-Bound, fold-roll-BoundSumPart, fold-roll-BoundProdPart, fold-roll-BoundArm}
use Rattle.sql_lawful.specs.Lawful as old
use Rattle.sql_bound.specs.Lawful as new
use Rattle.scan_plan.specs.Trees.{bound_step, bound_arm_step, bound_prod_part_step, bound_sum_part_step, with_paths, arm_with_paths, prod_part_with_paths, sum_part_with_paths}

-- what each path is bound to
abbrev Paths : Type 0
Paths = List PathStep → Bound

abbrev old_fits : Expr → Bool
old_fits = old.is_lawful_expression

abbrev new_fits : Bound → Bool
new_fits = new.is_lawful_bound

abbrev wp : Paths → Expr → Bound
wp f = with_paths f

abbrev wp_arm : Paths → Arm → BoundArm
wp_arm f = arm_with_paths f

abbrev wp_prod : Paths → ProdPart → BoundProdPart
wp_prod f = prod_part_with_paths f

abbrev wp_sum : Paths → SumPart → BoundSumPart
wp_sum f = sum_part_with_paths f

abbrev Kept : Paths → Expr → Type 0
Kept f e = old_fits e ≡ true → new_fits (wp f e) ≡ true

abbrev ArmKept : Paths → Arm → Type 0
ArmKept f a = old.is_lawful_arm a ≡ true → new.is_lawful_arm (wp_arm f a) ≡ true

abbrev ProdKept : Paths → ProdPart → Type 0
ProdKept f p = old.is_lawful_prod_part p ≡ true → new.is_lawful_prod_part (wp_prod f p) ≡ true

abbrev SumKept : Paths → SumPart → Type 0
SumKept f p = old.is_lawful_sum_part p ≡ true → new.is_lawful_sum_part (wp_sum f p) ≡ true

-- a part, with the fact of it
abbrev Kid : Paths → Type 0
Kid f = (e : Expr) × Kept f e

abbrev ArmKid : Paths → Type 0
ArmKid f = (a : Arm) × ArmKept f a

abbrev ProdKid : Paths → Type 0
ProdKid f = (p : ProdPart) × ProdKept f p

abbrev SumKid : Paths → Type 0
SumKid f = (p : SumPart) × SumKept f p

-- ---- truth values

pub left : (s t : Bool) → (s && t) ≡ true → s ≡ true
left true t e = refl
left false t e = cc

pub right : (s t : Bool) → (s && t) ≡ true → t ≡ true
right true t e = e
right false t e = cc

pub both : (s t : Bool) → s ≡ true → t ≡ true → (s && t) ≡ true
both true t e f = f
both false t e f = cc

all_kept : {A B : Type 0} (fits : A → Bool) (make : A → B) (fits_made : B → Bool) (xs : List ((a : A) × (fits a ≡ true → fits_made (make a) ≡ true))) →
    old.each (map fits (map (λ m. m.0) xs)) ≡ true → new.each (map fits_made (map make (map (λ m. m.0) xs))) ≡ true
all_kept fits make fits_made [] h = refl
all_kept fits make fits_made (x ∷ xs) h =
    both (fits_made (make x.0)) (new.each (map fits_made (map make (map (λ m. m.0) xs)))) (x.1 (left (fits x.0) (old.each (map fits (map (λ m. m.0) xs))) h))
    (all_kept fits make fits_made xs (right (fits x.0) (old.each (map fits (map (λ m. m.0) xs))) h))

there_kept : {A B : Type 0} (fits : A → Bool) (make : A → B) (fits_made : B → Bool) (o : Option ((a : A) × (fits a ≡ true → fits_made (make a) ≡ true))) →
    old.if_there (option_map fits (option_map (λ m. m.0) o)) ≡ true → new.if_there (option_map fits_made (option_map make (option_map (λ m. m.0) o))) ≡ true
there_kept fits make fits_made None h = refl
there_kept fits make fits_made (Some x) h = x.1 h

target_kept : (t : CastTarget) → old.is_lawful_target t ≡ true → new.is_lawful_target t ≡ true
target_kept target.Bool h = refl
target_kept target.Int h = refl
target_kept target.Decimal h = refl
target_kept (target.DecimalOf digits scale) h = h
target_kept target.Text h = refl
target_kept target.Timestamp h = refl

moved_kept : (p : DatePart) → old.can_be_moved p ≡ true → new.can_be_moved p ≡ true
moved_kept part.Year h = refl
moved_kept part.Month h = refl
moved_kept part.Day h = refl
moved_kept part.Hour h = refl
moved_kept part.Minute h = refl
moved_kept part.Second h = refl
moved_kept part.TimezoneHour h = cc
moved_kept part.TimezoneMinute h = cc

-- ---- forms

kept_Or : (f : Paths) (xs : List (Kid f)) → Kept f (roll-Expr (Expr-F.Or (map (λ m. m.0) xs)))
kept_Or f xs h =
    let g : old.each (map old_fits (map (λ m. m.0) xs)) ≡ true = sym (fold-roll-Expr Bool Bool Bool Bool old.lawful_step old.lawful_arm_step old.lawful_prod_part_step old.lawful_sum_part_step (Expr-F.Or (map (λ m. m.0) xs))) ∙ h in
    (ap new_fits (fold-roll-Expr Bound BoundArm BoundProdPart BoundSumPart (bound_step f) bound_arm_step bound_prod_part_step bound_sum_part_step (Expr-F.Or (map (λ m. m.0) xs))) ∙ (ap new_fits (sym (bound.rolls-Or (map (wp f) (map (λ m. m.0) xs)))) ∙ fold-roll-Bound Bool Bool Bool Bool new.lawful_step new.lawful_arm_step new.lawful_prod_part_step new.lawful_sum_part_step (Bound-F.Or (map (wp f) (map (λ m. m.0) xs))))) ∙ all_kept old_fits (wp f) new_fits xs (g)

kept_And : (f : Paths) (xs : List (Kid f)) → Kept f (roll-Expr (Expr-F.And (map (λ m. m.0) xs)))
kept_And f xs h =
    let g : old.each (map old_fits (map (λ m. m.0) xs)) ≡ true = sym (fold-roll-Expr Bool Bool Bool Bool old.lawful_step old.lawful_arm_step old.lawful_prod_part_step old.lawful_sum_part_step (Expr-F.And (map (λ m. m.0) xs))) ∙ h in
    (ap new_fits (fold-roll-Expr Bound BoundArm BoundProdPart BoundSumPart (bound_step f) bound_arm_step bound_prod_part_step bound_sum_part_step (Expr-F.And (map (λ m. m.0) xs))) ∙ (ap new_fits (sym (bound.rolls-And (map (wp f) (map (λ m. m.0) xs)))) ∙ fold-roll-Bound Bool Bool Bool Bool new.lawful_step new.lawful_arm_step new.lawful_prod_part_step new.lawful_sum_part_step (Bound-F.And (map (wp f) (map (λ m. m.0) xs))))) ∙ all_kept old_fits (wp f) new_fits xs (g)

kept_Not : (f : Paths) (a : Kid f) → Kept f (roll-Expr (Expr-F.Not a.0))
kept_Not f a h =
    let g : old_fits a.0 ≡ true = sym (fold-roll-Expr Bool Bool Bool Bool old.lawful_step old.lawful_arm_step old.lawful_prod_part_step old.lawful_sum_part_step (Expr-F.Not a.0)) ∙ h in
    (ap new_fits (fold-roll-Expr Bound BoundArm BoundProdPart BoundSumPart (bound_step f) bound_arm_step bound_prod_part_step bound_sum_part_step (Expr-F.Not a.0)) ∙ (ap new_fits (sym (bound.rolls-Not (wp f a.0))) ∙ fold-roll-Bound Bool Bool Bool Bool new.lawful_step new.lawful_arm_step new.lawful_prod_part_step new.lawful_sum_part_step (Bound-F.Not (wp f a.0)))) ∙ a.1 (g)

kept_Compare : (f : Paths) (op : CompareOp) (a : Kid f) (b : Kid f) → Kept f (roll-Expr (Expr-F.Compare op a.0 b.0))
kept_Compare f op a b h =
    let g : (old_fits a.0 && old_fits b.0) ≡ true = sym (fold-roll-Expr Bool Bool Bool Bool old.lawful_step old.lawful_arm_step old.lawful_prod_part_step old.lawful_sum_part_step (Expr-F.Compare op a.0 b.0)) ∙ h in
    (ap new_fits (fold-roll-Expr Bound BoundArm BoundProdPart BoundSumPart (bound_step f) bound_arm_step bound_prod_part_step bound_sum_part_step (Expr-F.Compare op a.0 b.0)) ∙ (ap new_fits (sym (bound.rolls-Compare op (wp f a.0) (wp f b.0))) ∙ fold-roll-Bound Bool Bool Bool Bool new.lawful_step new.lawful_arm_step new.lawful_prod_part_step new.lawful_sum_part_step (Bound-F.Compare op (wp f a.0) (wp f b.0)))) ∙ both (new_fits (wp f a.0)) (new_fits (wp f b.0)) (a.1 (left (old_fits a.0) (old_fits b.0) (g))) (b.1 (right (old_fits a.0) (old_fits b.0) (g)))

kept_Between : (f : Paths) (t : Bool) (a : Kid f) (b : Kid f) (c : Kid f) → Kept f (roll-Expr (Expr-F.Between t a.0 b.0 c.0))
kept_Between f t a b c h =
    let g : (old_fits a.0 && (old_fits b.0 && old_fits c.0)) ≡ true = sym (fold-roll-Expr Bool Bool Bool Bool old.lawful_step old.lawful_arm_step old.lawful_prod_part_step old.lawful_sum_part_step (Expr-F.Between t a.0 b.0 c.0)) ∙ h in
    (ap new_fits (fold-roll-Expr Bound BoundArm BoundProdPart BoundSumPart (bound_step f) bound_arm_step bound_prod_part_step bound_sum_part_step (Expr-F.Between t a.0 b.0 c.0)) ∙ (ap new_fits (sym (bound.rolls-Between t (wp f a.0) (wp f b.0) (wp f c.0))) ∙ fold-roll-Bound Bool Bool Bool Bool new.lawful_step new.lawful_arm_step new.lawful_prod_part_step new.lawful_sum_part_step (Bound-F.Between t (wp f a.0) (wp f b.0) (wp f c.0)))) ∙ both (new_fits (wp f a.0)) ((new_fits (wp f b.0) && new_fits (wp f c.0))) (a.1 (left (old_fits a.0) ((old_fits b.0 && old_fits c.0)) (g))) (both (new_fits (wp f b.0)) (new_fits (wp f c.0)) (b.1 (left (old_fits b.0) (old_fits c.0) (right (old_fits a.0) ((old_fits b.0 && old_fits c.0)) (g)))) (c.1 (right (old_fits b.0) (old_fits c.0) (right (old_fits a.0) ((old_fits b.0 && old_fits c.0)) (g)))))

kept_Among : (f : Paths) (t : Bool) (a : Kid f) (xs : List (Kid f)) → Kept f (roll-Expr (Expr-F.Among t a.0 (map (λ m. m.0) xs)))
kept_Among f t a xs h =
    let g : (old_fits a.0 && old.each (map old_fits (map (λ m. m.0) xs))) ≡ true = sym (fold-roll-Expr Bool Bool Bool Bool old.lawful_step old.lawful_arm_step old.lawful_prod_part_step old.lawful_sum_part_step (Expr-F.Among t a.0 (map (λ m. m.0) xs))) ∙ h in
    (ap new_fits (fold-roll-Expr Bound BoundArm BoundProdPart BoundSumPart (bound_step f) bound_arm_step bound_prod_part_step bound_sum_part_step (Expr-F.Among t a.0 (map (λ m. m.0) xs))) ∙ (ap new_fits (sym (bound.rolls-Among t (wp f a.0) (map (wp f) (map (λ m. m.0) xs)))) ∙ fold-roll-Bound Bool Bool Bool Bool new.lawful_step new.lawful_arm_step new.lawful_prod_part_step new.lawful_sum_part_step (Bound-F.Among t (wp f a.0) (map (wp f) (map (λ m. m.0) xs))))) ∙ both (new_fits (wp f a.0)) (new.each (map new_fits (map (wp f) (map (λ m. m.0) xs)))) (a.1 (left (old_fits a.0) (old.each (map old_fits (map (λ m. m.0) xs))) (g))) (all_kept old_fits (wp f) new_fits xs (right (old_fits a.0) (old.each (map old_fits (map (λ m. m.0) xs))) (g)))

kept_Like : (f : Paths) (t : Bool) (a : Kid f) (pattern : List ℕ) (escape : Option ℕ) → Kept f (roll-Expr (Expr-F.Like t a.0 pattern escape))
kept_Like f t a pattern escape h =
    let g : (old_fits a.0 && old.fits_escape pattern escape) ≡ true = sym (fold-roll-Expr Bool Bool Bool Bool old.lawful_step old.lawful_arm_step old.lawful_prod_part_step old.lawful_sum_part_step (Expr-F.Like t a.0 pattern escape)) ∙ h in
    (ap new_fits (fold-roll-Expr Bound BoundArm BoundProdPart BoundSumPart (bound_step f) bound_arm_step bound_prod_part_step bound_sum_part_step (Expr-F.Like t a.0 pattern escape)) ∙ (ap new_fits (sym (bound.rolls-Like t (wp f a.0) (unwrap_or (pattern_parts escape (chars pattern)) []))) ∙ fold-roll-Bound Bool Bool Bool Bool new.lawful_step new.lawful_arm_step new.lawful_prod_part_step new.lawful_sum_part_step (Bound-F.Like t (wp f a.0) (unwrap_or (pattern_parts escape (chars pattern)) [])))) ∙ a.1 (left (old_fits a.0) (old.fits_escape pattern escape) (g))

kept_IsNull : (f : Paths) (t : Bool) (a : Kid f) → Kept f (roll-Expr (Expr-F.IsNull t a.0))
kept_IsNull f t a h =
    let g : old_fits a.0 ≡ true = sym (fold-roll-Expr Bool Bool Bool Bool old.lawful_step old.lawful_arm_step old.lawful_prod_part_step old.lawful_sum_part_step (Expr-F.IsNull t a.0)) ∙ h in
    (ap new_fits (fold-roll-Expr Bound BoundArm BoundProdPart BoundSumPart (bound_step f) bound_arm_step bound_prod_part_step bound_sum_part_step (Expr-F.IsNull t a.0)) ∙ (ap new_fits (sym (bound.rolls-IsNull t (wp f a.0))) ∙ fold-roll-Bound Bool Bool Bool Bool new.lawful_step new.lawful_arm_step new.lawful_prod_part_step new.lawful_sum_part_step (Bound-F.IsNull t (wp f a.0)))) ∙ a.1 (g)

kept_IsMissing : (f : Paths) (t : Bool) (a : Kid f) → Kept f (roll-Expr (Expr-F.IsMissing t a.0))
kept_IsMissing f t a h =
    let g : old_fits a.0 ≡ true = sym (fold-roll-Expr Bool Bool Bool Bool old.lawful_step old.lawful_arm_step old.lawful_prod_part_step old.lawful_sum_part_step (Expr-F.IsMissing t a.0)) ∙ h in
    (ap new_fits (fold-roll-Expr Bound BoundArm BoundProdPart BoundSumPart (bound_step f) bound_arm_step bound_prod_part_step bound_sum_part_step (Expr-F.IsMissing t a.0)) ∙ (ap new_fits (sym (bound.rolls-IsMissing t (wp f a.0))) ∙ fold-roll-Bound Bool Bool Bool Bool new.lawful_step new.lawful_arm_step new.lawful_prod_part_step new.lawful_sum_part_step (Bound-F.IsMissing t (wp f a.0)))) ∙ a.1 (g)

kept_Sum : (f : Paths) (a : Kid f) (ss : List (SumKid f)) → Kept f (roll-Expr (Expr-F.Sum a.0 (map (λ m. m.0) ss)))
kept_Sum f a ss h =
    let g : (old_fits a.0 && old.each (map old.is_lawful_sum_part (map (λ m. m.0) ss))) ≡ true = sym (fold-roll-Expr Bool Bool Bool Bool old.lawful_step old.lawful_arm_step old.lawful_prod_part_step old.lawful_sum_part_step (Expr-F.Sum a.0 (map (λ m. m.0) ss))) ∙ h in
    (ap new_fits (fold-roll-Expr Bound BoundArm BoundProdPart BoundSumPart (bound_step f) bound_arm_step bound_prod_part_step bound_sum_part_step (Expr-F.Sum a.0 (map (λ m. m.0) ss))) ∙ (ap new_fits (sym (bound.rolls-Sum (wp f a.0) (map (wp_sum f) (map (λ m. m.0) ss)))) ∙ fold-roll-Bound Bool Bool Bool Bool new.lawful_step new.lawful_arm_step new.lawful_prod_part_step new.lawful_sum_part_step (Bound-F.Sum (wp f a.0) (map (wp_sum f) (map (λ m. m.0) ss))))) ∙ both (new_fits (wp f a.0)) (new.each (map new.is_lawful_sum_part (map (wp_sum f) (map (λ m. m.0) ss)))) (a.1 (left (old_fits a.0) (old.each (map old.is_lawful_sum_part (map (λ m. m.0) ss))) (g))) (all_kept old.is_lawful_sum_part (wp_sum f) new.is_lawful_sum_part ss (right (old_fits a.0) (old.each (map old.is_lawful_sum_part (map (λ m. m.0) ss))) (g)))

kept_Prod : (f : Paths) (a : Kid f) (ps : List (ProdKid f)) → Kept f (roll-Expr (Expr-F.Prod a.0 (map (λ m. m.0) ps)))
kept_Prod f a ps h =
    let g : (old_fits a.0 && old.each (map old.is_lawful_prod_part (map (λ m. m.0) ps))) ≡ true = sym (fold-roll-Expr Bool Bool Bool Bool old.lawful_step old.lawful_arm_step old.lawful_prod_part_step old.lawful_sum_part_step (Expr-F.Prod a.0 (map (λ m. m.0) ps))) ∙ h in
    (ap new_fits (fold-roll-Expr Bound BoundArm BoundProdPart BoundSumPart (bound_step f) bound_arm_step bound_prod_part_step bound_sum_part_step (Expr-F.Prod a.0 (map (λ m. m.0) ps))) ∙ (ap new_fits (sym (bound.rolls-Prod (wp f a.0) (map (wp_prod f) (map (λ m. m.0) ps)))) ∙ fold-roll-Bound Bool Bool Bool Bool new.lawful_step new.lawful_arm_step new.lawful_prod_part_step new.lawful_sum_part_step (Bound-F.Prod (wp f a.0) (map (wp_prod f) (map (λ m. m.0) ps))))) ∙ both (new_fits (wp f a.0)) (new.each (map new.is_lawful_prod_part (map (wp_prod f) (map (λ m. m.0) ps)))) (a.1 (left (old_fits a.0) (old.each (map old.is_lawful_prod_part (map (λ m. m.0) ps))) (g))) (all_kept old.is_lawful_prod_part (wp_prod f) new.is_lawful_prod_part ps (right (old_fits a.0) (old.each (map old.is_lawful_prod_part (map (λ m. m.0) ps))) (g)))

kept_Minus : (f : Paths) (a : Kid f) → Kept f (roll-Expr (Expr-F.Minus a.0))
kept_Minus f a h =
    let g : old_fits a.0 ≡ true = sym (fold-roll-Expr Bool Bool Bool Bool old.lawful_step old.lawful_arm_step old.lawful_prod_part_step old.lawful_sum_part_step (Expr-F.Minus a.0)) ∙ h in
    (ap new_fits (fold-roll-Expr Bound BoundArm BoundProdPart BoundSumPart (bound_step f) bound_arm_step bound_prod_part_step bound_sum_part_step (Expr-F.Minus a.0)) ∙ (ap new_fits (sym (bound.rolls-Minus (wp f a.0))) ∙ fold-roll-Bound Bool Bool Bool Bool new.lawful_step new.lawful_arm_step new.lawful_prod_part_step new.lawful_sum_part_step (Bound-F.Minus (wp f a.0)))) ∙ a.1 (g)

kept_Text : (f : Paths) (text : List ℕ) → Kept f (roll-Expr (Expr-F.Text text))
kept_Text f text h = (ap new_fits (fold-roll-Expr Bound BoundArm BoundProdPart BoundSumPart (bound_step f) bound_arm_step bound_prod_part_step bound_sum_part_step (Expr-F.Text text)) ∙ (ap new_fits (sym (bound.rolls-Text text)) ∙ fold-roll-Bound Bool Bool Bool Bool new.lawful_step new.lawful_arm_step new.lawful_prod_part_step new.lawful_sum_part_step (Bound-F.Text text))) ∙ refl

kept_Number : (f : Paths) (number : Num) → Kept f (roll-Expr (Expr-F.Number number))
kept_Number f number h = (ap new_fits (fold-roll-Expr Bound BoundArm BoundProdPart BoundSumPart (bound_step f) bound_arm_step bound_prod_part_step bound_sum_part_step (Expr-F.Number number)) ∙ (ap new_fits (sym (bound.rolls-Number number)) ∙ fold-roll-Bound Bool Bool Bool Bool new.lawful_step new.lawful_arm_step new.lawful_prod_part_step new.lawful_sum_part_step (Bound-F.Number number))) ∙ refl

kept_Bool : (f : Paths) (truth : Bool) → Kept f (roll-Expr (Expr-F.Bool truth))
kept_Bool f truth h = (ap new_fits (fold-roll-Expr Bound BoundArm BoundProdPart BoundSumPart (bound_step f) bound_arm_step bound_prod_part_step bound_sum_part_step (Expr-F.Bool truth)) ∙ (ap new_fits (sym (bound.rolls-Bool truth)) ∙ fold-roll-Bound Bool Bool Bool Bool new.lawful_step new.lawful_arm_step new.lawful_prod_part_step new.lawful_sum_part_step (Bound-F.Bool truth))) ∙ refl

kept_Null : (f : Paths) → Kept f (roll-Expr Expr-F.Null)
kept_Null f h = (ap new_fits (fold-roll-Expr Bound BoundArm BoundProdPart BoundSumPart (bound_step f) bound_arm_step bound_prod_part_step bound_sum_part_step Expr-F.Null) ∙ (ap new_fits (sym (bound.rolls-Null)) ∙ fold-roll-Bound Bool Bool Bool Bool new.lawful_step new.lawful_arm_step new.lawful_prod_part_step new.lawful_sum_part_step Bound-F.Null)) ∙ refl

kept_Missing : (f : Paths) → Kept f (roll-Expr Expr-F.Missing)
kept_Missing f h = (ap new_fits (fold-roll-Expr Bound BoundArm BoundProdPart BoundSumPart (bound_step f) bound_arm_step bound_prod_part_step bound_sum_part_step Expr-F.Missing) ∙ (ap new_fits (sym (bound.rolls-Missing)) ∙ fold-roll-Bound Bool Bool Bool Bool new.lawful_step new.lawful_arm_step new.lawful_prod_part_step new.lawful_sum_part_step Bound-F.Missing)) ∙ refl

kept_Path : (f : Paths) → ((path : List PathStep) → new_fits (f path) ≡ true) → (steps : List PathStep) → Kept f (roll-Expr (Expr-F.Path steps))
kept_Path f fit steps h = ap new_fits (fold-roll-Expr Bound BoundArm BoundProdPart BoundSumPart (bound_step f) bound_arm_step bound_prod_part_step bound_sum_part_step (Expr-F.Path steps)) ∙ fit steps

kept_Cast : (f : Paths) (a : Kid f) (target : CastTarget) → Kept f (roll-Expr (Expr-F.Cast a.0 target))
kept_Cast f a target h =
    let g : (old_fits a.0 && old.is_lawful_target target) ≡ true = sym (fold-roll-Expr Bool Bool Bool Bool old.lawful_step old.lawful_arm_step old.lawful_prod_part_step old.lawful_sum_part_step (Expr-F.Cast a.0 target)) ∙ h in
    (ap new_fits (fold-roll-Expr Bound BoundArm BoundProdPart BoundSumPart (bound_step f) bound_arm_step bound_prod_part_step bound_sum_part_step (Expr-F.Cast a.0 target)) ∙ (ap new_fits (sym (bound.rolls-Cast (wp f a.0) target)) ∙ fold-roll-Bound Bool Bool Bool Bool new.lawful_step new.lawful_arm_step new.lawful_prod_part_step new.lawful_sum_part_step (Bound-F.Cast (wp f a.0) target))) ∙ both (new_fits (wp f a.0)) (new.is_lawful_target target) (a.1 (left (old_fits a.0) (old.is_lawful_target target) (g))) (target_kept target (right (old_fits a.0) (old.is_lawful_target target) (g)))

kept_Case : (f : Paths) (o : Option (Kid f)) (ws : List (ArmKid f)) (w : Option (Kid f)) → Kept f (roll-Expr (Expr-F.Case (option_map (λ m. m.0) o) (map (λ m. m.0) ws) (option_map (λ m. m.0) w)))
kept_Case f None ws None h =
    let g : (true && (old.each (map old.is_lawful_arm (map (λ m. m.0) ws)) && true)) ≡ true = sym (fold-roll-Expr Bool Bool Bool Bool old.lawful_step old.lawful_arm_step old.lawful_prod_part_step old.lawful_sum_part_step (Expr-F.Case None (map (λ m. m.0) ws) None)) ∙ h in
    (ap new_fits (fold-roll-Expr Bound BoundArm BoundProdPart BoundSumPart (bound_step f) bound_arm_step bound_prod_part_step bound_sum_part_step (Expr-F.Case None (map (λ m. m.0) ws) None)) ∙ (ap new_fits (sym (bound.rolls-Case None (map (wp_arm f) (map (λ m. m.0) ws)) None)) ∙ fold-roll-Bound Bool Bool Bool Bool new.lawful_step new.lawful_arm_step new.lawful_prod_part_step new.lawful_sum_part_step (Bound-F.Case None (map (wp_arm f) (map (λ m. m.0) ws)) None))) ∙ both (true) ((new.each (map new.is_lawful_arm (map (wp_arm f) (map (λ m. m.0) ws))) && true)) (refl) (both (new.each (map new.is_lawful_arm (map (wp_arm f) (map (λ m. m.0) ws)))) (true) (all_kept old.is_lawful_arm (wp_arm f) new.is_lawful_arm ws (left (old.each (map old.is_lawful_arm (map (λ m. m.0) ws))) (true) (right (true) ((old.each (map old.is_lawful_arm (map (λ m. m.0) ws)) && true)) (g)))) (refl))
kept_Case f None ws (Some d) h =
    let g : (true && (old.each (map old.is_lawful_arm (map (λ m. m.0) ws)) && old_fits d.0)) ≡ true = sym (fold-roll-Expr Bool Bool Bool Bool old.lawful_step old.lawful_arm_step old.lawful_prod_part_step old.lawful_sum_part_step (Expr-F.Case None (map (λ m. m.0) ws) (Some d.0))) ∙ h in
    (ap new_fits (fold-roll-Expr Bound BoundArm BoundProdPart BoundSumPart (bound_step f) bound_arm_step bound_prod_part_step bound_sum_part_step (Expr-F.Case None (map (λ m. m.0) ws) (Some d.0))) ∙ (ap new_fits (sym (bound.rolls-Case None (map (wp_arm f) (map (λ m. m.0) ws)) (Some (wp f d.0)))) ∙ fold-roll-Bound Bool Bool Bool Bool new.lawful_step new.lawful_arm_step new.lawful_prod_part_step new.lawful_sum_part_step (Bound-F.Case None (map (wp_arm f) (map (λ m. m.0) ws)) (Some (wp f d.0))))) ∙ both (true) ((new.each (map new.is_lawful_arm (map (wp_arm f) (map (λ m. m.0) ws))) && new_fits (wp f d.0))) (refl) (both (new.each (map new.is_lawful_arm (map (wp_arm f) (map (λ m. m.0) ws)))) (new_fits (wp f d.0)) (all_kept old.is_lawful_arm (wp_arm f) new.is_lawful_arm ws (left (old.each (map old.is_lawful_arm (map (λ m. m.0) ws))) (old_fits d.0) (right (true) ((old.each (map old.is_lawful_arm (map (λ m. m.0) ws)) && old_fits d.0)) (g)))) (d.1 (right (old.each (map old.is_lawful_arm (map (λ m. m.0) ws))) (old_fits d.0) (right (true) ((old.each (map old.is_lawful_arm (map (λ m. m.0) ws)) && old_fits d.0)) (g)))))
kept_Case f (Some c) ws None h =
    let g : (old_fits c.0 && (old.each (map old.is_lawful_arm (map (λ m. m.0) ws)) && true)) ≡ true = sym (fold-roll-Expr Bool Bool Bool Bool old.lawful_step old.lawful_arm_step old.lawful_prod_part_step old.lawful_sum_part_step (Expr-F.Case (Some c.0) (map (λ m. m.0) ws) None)) ∙ h in
    (ap new_fits (fold-roll-Expr Bound BoundArm BoundProdPart BoundSumPart (bound_step f) bound_arm_step bound_prod_part_step bound_sum_part_step (Expr-F.Case (Some c.0) (map (λ m. m.0) ws) None)) ∙ (ap new_fits (sym (bound.rolls-Case (Some (wp f c.0)) (map (wp_arm f) (map (λ m. m.0) ws)) None)) ∙ fold-roll-Bound Bool Bool Bool Bool new.lawful_step new.lawful_arm_step new.lawful_prod_part_step new.lawful_sum_part_step (Bound-F.Case (Some (wp f c.0)) (map (wp_arm f) (map (λ m. m.0) ws)) None))) ∙ both (new_fits (wp f c.0)) ((new.each (map new.is_lawful_arm (map (wp_arm f) (map (λ m. m.0) ws))) && true)) (c.1 (left (old_fits c.0) ((old.each (map old.is_lawful_arm (map (λ m. m.0) ws)) && true)) (g))) (both (new.each (map new.is_lawful_arm (map (wp_arm f) (map (λ m. m.0) ws)))) (true) (all_kept old.is_lawful_arm (wp_arm f) new.is_lawful_arm ws (left (old.each (map old.is_lawful_arm (map (λ m. m.0) ws))) (true) (right (old_fits c.0) ((old.each (map old.is_lawful_arm (map (λ m. m.0) ws)) && true)) (g)))) (refl))
kept_Case f (Some c) ws (Some d) h =
    let g : (old_fits c.0 && (old.each (map old.is_lawful_arm (map (λ m. m.0) ws)) && old_fits d.0)) ≡ true = sym (fold-roll-Expr Bool Bool Bool Bool old.lawful_step old.lawful_arm_step old.lawful_prod_part_step old.lawful_sum_part_step (Expr-F.Case (Some c.0) (map (λ m. m.0) ws) (Some d.0))) ∙ h in
    (ap new_fits (fold-roll-Expr Bound BoundArm BoundProdPart BoundSumPart (bound_step f) bound_arm_step bound_prod_part_step bound_sum_part_step (Expr-F.Case (Some c.0) (map (λ m. m.0) ws) (Some d.0))) ∙ (ap new_fits (sym (bound.rolls-Case (Some (wp f c.0)) (map (wp_arm f) (map (λ m. m.0) ws)) (Some (wp f d.0)))) ∙ fold-roll-Bound Bool Bool Bool Bool new.lawful_step new.lawful_arm_step new.lawful_prod_part_step new.lawful_sum_part_step (Bound-F.Case (Some (wp f c.0)) (map (wp_arm f) (map (λ m. m.0) ws)) (Some (wp f d.0))))) ∙ both (new_fits (wp f c.0)) ((new.each (map new.is_lawful_arm (map (wp_arm f) (map (λ m. m.0) ws))) && new_fits (wp f d.0))) (c.1 (left (old_fits c.0) ((old.each (map old.is_lawful_arm (map (λ m. m.0) ws)) && old_fits d.0)) (g))) (both (new.each (map new.is_lawful_arm (map (wp_arm f) (map (λ m. m.0) ws)))) (new_fits (wp f d.0)) (all_kept old.is_lawful_arm (wp_arm f) new.is_lawful_arm ws (left (old.each (map old.is_lawful_arm (map (λ m. m.0) ws))) (old_fits d.0) (right (old_fits c.0) ((old.each (map old.is_lawful_arm (map (λ m. m.0) ws)) && old_fits d.0)) (g)))) (d.1 (right (old.each (map old.is_lawful_arm (map (λ m. m.0) ws))) (old_fits d.0) (right (old_fits c.0) ((old.each (map old.is_lawful_arm (map (λ m. m.0) ws)) && old_fits d.0)) (g)))))

kept_Coalesce : (f : Paths) (xs : List (Kid f)) → Kept f (roll-Expr (Expr-F.Coalesce (map (λ m. m.0) xs)))
kept_Coalesce f xs h =
    let g : old.each (map old_fits (map (λ m. m.0) xs)) ≡ true = sym (fold-roll-Expr Bool Bool Bool Bool old.lawful_step old.lawful_arm_step old.lawful_prod_part_step old.lawful_sum_part_step (Expr-F.Coalesce (map (λ m. m.0) xs))) ∙ h in
    (ap new_fits (fold-roll-Expr Bound BoundArm BoundProdPart BoundSumPart (bound_step f) bound_arm_step bound_prod_part_step bound_sum_part_step (Expr-F.Coalesce (map (λ m. m.0) xs))) ∙ (ap new_fits (sym (bound.rolls-Coalesce (map (wp f) (map (λ m. m.0) xs)))) ∙ fold-roll-Bound Bool Bool Bool Bool new.lawful_step new.lawful_arm_step new.lawful_prod_part_step new.lawful_sum_part_step (Bound-F.Coalesce (map (wp f) (map (λ m. m.0) xs))))) ∙ all_kept old_fits (wp f) new_fits xs (g)

kept_NullIf : (f : Paths) (a : Kid f) (b : Kid f) → Kept f (roll-Expr (Expr-F.NullIf a.0 b.0))
kept_NullIf f a b h =
    let g : (old_fits a.0 && old_fits b.0) ≡ true = sym (fold-roll-Expr Bool Bool Bool Bool old.lawful_step old.lawful_arm_step old.lawful_prod_part_step old.lawful_sum_part_step (Expr-F.NullIf a.0 b.0)) ∙ h in
    (ap new_fits (fold-roll-Expr Bound BoundArm BoundProdPart BoundSumPart (bound_step f) bound_arm_step bound_prod_part_step bound_sum_part_step (Expr-F.NullIf a.0 b.0)) ∙ (ap new_fits (sym (bound.rolls-NullIf (wp f a.0) (wp f b.0))) ∙ fold-roll-Bound Bool Bool Bool Bool new.lawful_step new.lawful_arm_step new.lawful_prod_part_step new.lawful_sum_part_step (Bound-F.NullIf (wp f a.0) (wp f b.0)))) ∙ both (new_fits (wp f a.0)) (new_fits (wp f b.0)) (a.1 (left (old_fits a.0) (old_fits b.0) (g))) (b.1 (right (old_fits a.0) (old_fits b.0) (g)))

kept_CharLength : (f : Paths) (a : Kid f) → Kept f (roll-Expr (Expr-F.CharLength a.0))
kept_CharLength f a h =
    let g : old_fits a.0 ≡ true = sym (fold-roll-Expr Bool Bool Bool Bool old.lawful_step old.lawful_arm_step old.lawful_prod_part_step old.lawful_sum_part_step (Expr-F.CharLength a.0)) ∙ h in
    (ap new_fits (fold-roll-Expr Bound BoundArm BoundProdPart BoundSumPart (bound_step f) bound_arm_step bound_prod_part_step bound_sum_part_step (Expr-F.CharLength a.0)) ∙ (ap new_fits (sym (bound.rolls-CharLength (wp f a.0))) ∙ fold-roll-Bound Bool Bool Bool Bool new.lawful_step new.lawful_arm_step new.lawful_prod_part_step new.lawful_sum_part_step (Bound-F.CharLength (wp f a.0)))) ∙ a.1 (g)

kept_Lower : (f : Paths) (a : Kid f) → Kept f (roll-Expr (Expr-F.Lower a.0))
kept_Lower f a h =
    let g : old_fits a.0 ≡ true = sym (fold-roll-Expr Bool Bool Bool Bool old.lawful_step old.lawful_arm_step old.lawful_prod_part_step old.lawful_sum_part_step (Expr-F.Lower a.0)) ∙ h in
    (ap new_fits (fold-roll-Expr Bound BoundArm BoundProdPart BoundSumPart (bound_step f) bound_arm_step bound_prod_part_step bound_sum_part_step (Expr-F.Lower a.0)) ∙ (ap new_fits (sym (bound.rolls-Lower (wp f a.0))) ∙ fold-roll-Bound Bool Bool Bool Bool new.lawful_step new.lawful_arm_step new.lawful_prod_part_step new.lawful_sum_part_step (Bound-F.Lower (wp f a.0)))) ∙ a.1 (g)

kept_Upper : (f : Paths) (a : Kid f) → Kept f (roll-Expr (Expr-F.Upper a.0))
kept_Upper f a h =
    let g : old_fits a.0 ≡ true = sym (fold-roll-Expr Bool Bool Bool Bool old.lawful_step old.lawful_arm_step old.lawful_prod_part_step old.lawful_sum_part_step (Expr-F.Upper a.0)) ∙ h in
    (ap new_fits (fold-roll-Expr Bound BoundArm BoundProdPart BoundSumPart (bound_step f) bound_arm_step bound_prod_part_step bound_sum_part_step (Expr-F.Upper a.0)) ∙ (ap new_fits (sym (bound.rolls-Upper (wp f a.0))) ∙ fold-roll-Bound Bool Bool Bool Bool new.lawful_step new.lawful_arm_step new.lawful_prod_part_step new.lawful_sum_part_step (Bound-F.Upper (wp f a.0)))) ∙ a.1 (g)

kept_Substring : (f : Paths) (a : Kid f) (b : Kid f) (o : Option (Kid f)) → Kept f (roll-Expr (Expr-F.Substring a.0 b.0 (option_map (λ m. m.0) o)))
kept_Substring f a b None h =
    let g : (old_fits a.0 && (old_fits b.0 && true)) ≡ true = sym (fold-roll-Expr Bool Bool Bool Bool old.lawful_step old.lawful_arm_step old.lawful_prod_part_step old.lawful_sum_part_step (Expr-F.Substring a.0 b.0 None)) ∙ h in
    (ap new_fits (fold-roll-Expr Bound BoundArm BoundProdPart BoundSumPart (bound_step f) bound_arm_step bound_prod_part_step bound_sum_part_step (Expr-F.Substring a.0 b.0 None)) ∙ (ap new_fits (sym (bound.rolls-Substring (wp f a.0) (wp f b.0) None)) ∙ fold-roll-Bound Bool Bool Bool Bool new.lawful_step new.lawful_arm_step new.lawful_prod_part_step new.lawful_sum_part_step (Bound-F.Substring (wp f a.0) (wp f b.0) None))) ∙ both (new_fits (wp f a.0)) ((new_fits (wp f b.0) && true)) (a.1 (left (old_fits a.0) ((old_fits b.0 && true)) (g))) (both (new_fits (wp f b.0)) (true) (b.1 (left (old_fits b.0) (true) (right (old_fits a.0) ((old_fits b.0 && true)) (g)))) (refl))
kept_Substring f a b (Some c) h =
    let g : (old_fits a.0 && (old_fits b.0 && old_fits c.0)) ≡ true = sym (fold-roll-Expr Bool Bool Bool Bool old.lawful_step old.lawful_arm_step old.lawful_prod_part_step old.lawful_sum_part_step (Expr-F.Substring a.0 b.0 (Some c.0))) ∙ h in
    (ap new_fits (fold-roll-Expr Bound BoundArm BoundProdPart BoundSumPart (bound_step f) bound_arm_step bound_prod_part_step bound_sum_part_step (Expr-F.Substring a.0 b.0 (Some c.0))) ∙ (ap new_fits (sym (bound.rolls-Substring (wp f a.0) (wp f b.0) (Some (wp f c.0)))) ∙ fold-roll-Bound Bool Bool Bool Bool new.lawful_step new.lawful_arm_step new.lawful_prod_part_step new.lawful_sum_part_step (Bound-F.Substring (wp f a.0) (wp f b.0) (Some (wp f c.0))))) ∙ both (new_fits (wp f a.0)) ((new_fits (wp f b.0) && new_fits (wp f c.0))) (a.1 (left (old_fits a.0) ((old_fits b.0 && old_fits c.0)) (g))) (both (new_fits (wp f b.0)) (new_fits (wp f c.0)) (b.1 (left (old_fits b.0) (old_fits c.0) (right (old_fits a.0) ((old_fits b.0 && old_fits c.0)) (g)))) (c.1 (right (old_fits b.0) (old_fits c.0) (right (old_fits a.0) ((old_fits b.0 && old_fits c.0)) (g)))))

kept_Trim : (f : Paths) (side : Side) (o : Option (Kid f)) (a : Kid f) → Kept f (roll-Expr (Expr-F.Trim side (option_map (λ m. m.0) o) a.0))
kept_Trim f side None a h =
    let g : (true && old_fits a.0) ≡ true = sym (fold-roll-Expr Bool Bool Bool Bool old.lawful_step old.lawful_arm_step old.lawful_prod_part_step old.lawful_sum_part_step (Expr-F.Trim side None a.0)) ∙ h in
    (ap new_fits (fold-roll-Expr Bound BoundArm BoundProdPart BoundSumPart (bound_step f) bound_arm_step bound_prod_part_step bound_sum_part_step (Expr-F.Trim side None a.0)) ∙ (ap new_fits (sym (bound.rolls-Trim side None (wp f a.0))) ∙ fold-roll-Bound Bool Bool Bool Bool new.lawful_step new.lawful_arm_step new.lawful_prod_part_step new.lawful_sum_part_step (Bound-F.Trim side None (wp f a.0)))) ∙ both (true) (new_fits (wp f a.0)) (refl) (a.1 (right (true) (old_fits a.0) (g)))
kept_Trim f side (Some c) a h =
    let g : (old_fits c.0 && old_fits a.0) ≡ true = sym (fold-roll-Expr Bool Bool Bool Bool old.lawful_step old.lawful_arm_step old.lawful_prod_part_step old.lawful_sum_part_step (Expr-F.Trim side (Some c.0) a.0)) ∙ h in
    (ap new_fits (fold-roll-Expr Bound BoundArm BoundProdPart BoundSumPart (bound_step f) bound_arm_step bound_prod_part_step bound_sum_part_step (Expr-F.Trim side (Some c.0) a.0)) ∙ (ap new_fits (sym (bound.rolls-Trim side (Some (wp f c.0)) (wp f a.0))) ∙ fold-roll-Bound Bool Bool Bool Bool new.lawful_step new.lawful_arm_step new.lawful_prod_part_step new.lawful_sum_part_step (Bound-F.Trim side (Some (wp f c.0)) (wp f a.0)))) ∙ both (new_fits (wp f c.0)) (new_fits (wp f a.0)) (c.1 (left (old_fits c.0) (old_fits a.0) (g))) (a.1 (right (old_fits c.0) (old_fits a.0) (g)))

kept_Extract : (f : Paths) (part : DatePart) (a : Kid f) → Kept f (roll-Expr (Expr-F.Extract part a.0))
kept_Extract f part a h =
    let g : old_fits a.0 ≡ true = sym (fold-roll-Expr Bool Bool Bool Bool old.lawful_step old.lawful_arm_step old.lawful_prod_part_step old.lawful_sum_part_step (Expr-F.Extract part a.0)) ∙ h in
    (ap new_fits (fold-roll-Expr Bound BoundArm BoundProdPart BoundSumPart (bound_step f) bound_arm_step bound_prod_part_step bound_sum_part_step (Expr-F.Extract part a.0)) ∙ (ap new_fits (sym (bound.rolls-Extract part (wp f a.0))) ∙ fold-roll-Bound Bool Bool Bool Bool new.lawful_step new.lawful_arm_step new.lawful_prod_part_step new.lawful_sum_part_step (Bound-F.Extract part (wp f a.0)))) ∙ a.1 (g)

kept_DateAdd : (f : Paths) (part : DatePart) (a : Kid f) (b : Kid f) → Kept f (roll-Expr (Expr-F.DateAdd part a.0 b.0))
kept_DateAdd f part a b h =
    let g : (old.can_be_moved part && (old_fits a.0 && old_fits b.0)) ≡ true = sym (fold-roll-Expr Bool Bool Bool Bool old.lawful_step old.lawful_arm_step old.lawful_prod_part_step old.lawful_sum_part_step (Expr-F.DateAdd part a.0 b.0)) ∙ h in
    (ap new_fits (fold-roll-Expr Bound BoundArm BoundProdPart BoundSumPart (bound_step f) bound_arm_step bound_prod_part_step bound_sum_part_step (Expr-F.DateAdd part a.0 b.0)) ∙ (ap new_fits (sym (bound.rolls-DateAdd part (wp f a.0) (wp f b.0))) ∙ fold-roll-Bound Bool Bool Bool Bool new.lawful_step new.lawful_arm_step new.lawful_prod_part_step new.lawful_sum_part_step (Bound-F.DateAdd part (wp f a.0) (wp f b.0)))) ∙ both (new.can_be_moved part) ((new_fits (wp f a.0) && new_fits (wp f b.0))) (moved_kept part (left (old.can_be_moved part) ((old_fits a.0 && old_fits b.0)) (g))) (both (new_fits (wp f a.0)) (new_fits (wp f b.0)) (a.1 (left (old_fits a.0) (old_fits b.0) (right (old.can_be_moved part) ((old_fits a.0 && old_fits b.0)) (g)))) (b.1 (right (old_fits a.0) (old_fits b.0) (right (old.can_be_moved part) ((old_fits a.0 && old_fits b.0)) (g)))))

kept_ToTimestamp : (f : Paths) (a : Kid f) → Kept f (roll-Expr (Expr-F.ToTimestamp a.0))
kept_ToTimestamp f a h =
    let g : old_fits a.0 ≡ true = sym (fold-roll-Expr Bool Bool Bool Bool old.lawful_step old.lawful_arm_step old.lawful_prod_part_step old.lawful_sum_part_step (Expr-F.ToTimestamp a.0)) ∙ h in
    (ap new_fits (fold-roll-Expr Bound BoundArm BoundProdPart BoundSumPart (bound_step f) bound_arm_step bound_prod_part_step bound_sum_part_step (Expr-F.ToTimestamp a.0)) ∙ (ap new_fits (sym (bound.rolls-ToTimestamp (wp f a.0))) ∙ fold-roll-Bound Bool Bool Bool Bool new.lawful_step new.lawful_arm_step new.lawful_prod_part_step new.lawful_sum_part_step (Bound-F.ToTimestamp (wp f a.0)))) ∙ a.1 (g)

kept_arm : (f : Paths) (a b : Kid f) → ArmKept f (roll-Arm (record { when = a.0; then = b.0 }))
kept_arm f a b h =
    let g : (old_fits a.0 && old_fits b.0) ≡ true = sym (fold-roll-Arm Bool Bool Bool Bool old.lawful_step old.lawful_arm_step old.lawful_prod_part_step old.lawful_sum_part_step (record { when = a.0; then = b.0 })) ∙ h in
    ap new.is_lawful_arm (fold-roll-Arm Bound BoundArm BoundProdPart BoundSumPart (bound_step f) bound_arm_step bound_prod_part_step bound_sum_part_step (record { when = a.0; then = b.0 }))
    ∙ (fold-roll-BoundArm Bool Bool Bool Bool new.lawful_step new.lawful_arm_step new.lawful_prod_part_step new.lawful_sum_part_step (record { when = wp f a.0; then = wp f b.0 }) ∙ both (new_fits (wp f a.0)) (new_fits (wp f b.0)) (a.1 (left (old_fits a.0) (old_fits b.0) g)) (b.1 (right (old_fits a.0) (old_fits b.0) g)))

kept_prod : (f : Paths) (op : ProdOp) (a : Kid f) → ProdKept f (roll-ProdPart (record { op = op; member = a.0 }))
kept_prod f op a h =
    ap new.is_lawful_prod_part (fold-roll-ProdPart Bound BoundArm BoundProdPart BoundSumPart (bound_step f) bound_arm_step bound_prod_part_step bound_sum_part_step (record { op = op; member = a.0 }))
    ∙ (fold-roll-BoundProdPart Bool Bool Bool Bool new.lawful_step new.lawful_arm_step new.lawful_prod_part_step new.lawful_sum_part_step (record { op = op; member = wp f a.0 }) ∙ a.1 (sym (fold-roll-ProdPart Bool Bool Bool Bool old.lawful_step old.lawful_arm_step old.lawful_prod_part_step old.lawful_sum_part_step (record { op = op; member = a.0 })) ∙ h))

kept_sum : (f : Paths) (op : SumOp) (a : Kid f) → SumKept f (roll-SumPart (record { op = op; member = a.0 }))
kept_sum f op a h =
    ap new.is_lawful_sum_part (fold-roll-SumPart Bound BoundArm BoundProdPart BoundSumPart (bound_step f) bound_arm_step bound_prod_part_step bound_sum_part_step (record { op = op; member = a.0 }))
    ∙ (fold-roll-BoundSumPart Bool Bool Bool Bool new.lawful_step new.lawful_arm_step new.lawful_prod_part_step new.lawful_sum_part_step (record { op = op; member = wp f a.0 }) ∙ a.1 (sym (fold-roll-SumPart Bool Bool Bool Bool old.lawful_step old.lawful_arm_step old.lawful_prod_part_step old.lawful_sum_part_step (record { op = op; member = a.0 })) ∙ h))

-- ---- all

by_form : (f : Paths) → ((path : List PathStep) → new_fits (f path) ≡ true) → (y : Expr-F (Kid f) (ArmKid f) (ProdKid f) (SumKid f)) →
    Kept f (roll-Expr (map-Expr (Kid f) (ArmKid f) (ProdKid f) (SumKid f) Expr Arm ProdPart SumPart (λ m. m.0) (λ m. m.0) (λ m. m.0) (λ m. m.0) y))
by_form f fit (Expr-F.Or xs) = kept_Or f xs
by_form f fit (Expr-F.And xs) = kept_And f xs
by_form f fit (Expr-F.Not a) = kept_Not f a
by_form f fit (Expr-F.Compare op a b) = kept_Compare f op a b
by_form f fit (Expr-F.Between t a b c) = kept_Between f t a b c
by_form f fit (Expr-F.Among t a xs) = kept_Among f t a xs
by_form f fit (Expr-F.Like t a pattern escape) = kept_Like f t a pattern escape
by_form f fit (Expr-F.IsNull t a) = kept_IsNull f t a
by_form f fit (Expr-F.IsMissing t a) = kept_IsMissing f t a
by_form f fit (Expr-F.Sum a ss) = kept_Sum f a ss
by_form f fit (Expr-F.Prod a ps) = kept_Prod f a ps
by_form f fit (Expr-F.Minus a) = kept_Minus f a
by_form f fit (Expr-F.Text text) = kept_Text f text
by_form f fit (Expr-F.Number number) = kept_Number f number
by_form f fit (Expr-F.Bool truth) = kept_Bool f truth
by_form f fit Expr-F.Null = kept_Null f
by_form f fit Expr-F.Missing = kept_Missing f
by_form f fit (Expr-F.Path steps) = kept_Path f fit steps
by_form f fit (Expr-F.Cast a target) = kept_Cast f a target
by_form f fit (Expr-F.Case None ws None) = kept_Case f None ws None
by_form f fit (Expr-F.Case None ws (Some d)) = kept_Case f None ws (Some d)
by_form f fit (Expr-F.Case (Some c) ws None) = kept_Case f (Some c) ws None
by_form f fit (Expr-F.Case (Some c) ws (Some d)) = kept_Case f (Some c) ws (Some d)
by_form f fit (Expr-F.Coalesce xs) = kept_Coalesce f xs
by_form f fit (Expr-F.NullIf a b) = kept_NullIf f a b
by_form f fit (Expr-F.CharLength a) = kept_CharLength f a
by_form f fit (Expr-F.Lower a) = kept_Lower f a
by_form f fit (Expr-F.Upper a) = kept_Upper f a
by_form f fit (Expr-F.Substring a b None) = kept_Substring f a b None
by_form f fit (Expr-F.Substring a b (Some c)) = kept_Substring f a b (Some c)
by_form f fit (Expr-F.Trim side None a) = kept_Trim f side None a
by_form f fit (Expr-F.Trim side (Some c) a) = kept_Trim f side (Some c) a
by_form f fit (Expr-F.Extract part a) = kept_Extract f part a
by_form f fit (Expr-F.DateAdd part a b) = kept_DateAdd f part a b
by_form f fit (Expr-F.ToTimestamp a) = kept_ToTimestamp f a

-- where what each path is bound to is lawful
pub lawful_kept : (f : Paths) → ((path : List PathStep) → new_fits (f path) ≡ true) → (e : Expr) → Kept f e
lawful_kept f fit =
    ind-Expr (Kept f) (ArmKept f) (ProdKept f) (SumKept f)
    (λ x y is. subst (λ z. Kept f (roll-Expr z)) is (by_form f fit y))
    (λ x y is. subst (λ z. ArmKept f (roll-Arm z)) is (kept_arm f y.when y.then))
    (λ x y is. subst (λ z. ProdKept f (roll-ProdPart z)) is (kept_prod f y.op y.member))
    (λ x y is. subst (λ z. SumKept f (roll-SumPart z)) is (kept_sum f y.op y.member))
