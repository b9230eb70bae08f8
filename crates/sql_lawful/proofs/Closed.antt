-- What holds of each expression that the grammar spells: a fact of expressions by a height, which each form has one above its parts.
use Rattle.std.specs.Prelude.{◌≡◌, ℕ, suc, Bool, true, List, Option}
use Rattle.grammar_rules.specs.Spelled.{All}
use Rattle.text_view.specs.declared.view.Side.{Side}
use Rattle.sql_decimal.specs.declared.number.Num.{Num}
use Rattle.sql_grammar.specs.declared.tree.Expr.{Expr}
use Rattle.sql_grammar.specs.declared.tree.Expr.TheVariants as e
use Rattle.sql_grammar.specs.declared.tree.SumPart.{SumPart, out-SumPart}
use Rattle.sql_grammar.specs.declared.tree.ProdPart.{ProdPart, out-ProdPart}
use Rattle.sql_grammar.specs.declared.tree.Arm.{Arm, out-Arm}
use Rattle.sql_grammar.specs.declared.tree.CompareOp.{CompareOp}
use Rattle.sql_grammar.specs.declared.tree.CastTarget.{CastTarget}
use Rattle.sql_grammar.specs.declared.tree.DatePart.{DatePart}
use Rattle.sql_grammar.specs.declared.tree.PathStep.{PathStep}
use Rattle.sql_lawful.specs.Lawful.{fits_escape, is_lawful_target, can_be_moved}
use Rattle.sql_lawful.proofs.Always.{IfThere}

pub record Closed (F : ℕ → Expr → Type 0) : Type 0 where
  pub more : (h : ℕ) (a : Expr) → F h a → F (suc h) a
  pub of_or : (h : ℕ) (xs : List Expr) → All (F h) xs → F (suc h) (e.Or xs)
  pub of_and : (h : ℕ) (xs : List Expr) → All (F h) xs → F (suc h) (e.And xs)
  pub of_not : (h : ℕ) (a : Expr) → F h a → F (suc h) (e.Not a)
  pub of_compare : (h : ℕ) (op : CompareOp) (a : Expr) (b : Expr) → F h a → F h b → F (suc h) (e.Compare op a b)
  pub of_between : (h : ℕ) (t : Bool) (a : Expr) (b : Expr) (c : Expr) → F h a → F h b → F h c → F (suc h) (e.Between t a b c)
  pub of_among : (h : ℕ) (t : Bool) (a : Expr) (xs : List Expr) → F h a → All (F h) xs → F (suc h) (e.Among t a xs)
  pub of_like : (h : ℕ) (t : Bool) (a : Expr) (pattern : List ℕ) (esc : Option ℕ) → F h a → fits_escape pattern esc ≡ true → F (suc h) (e.Like t a pattern esc)
  pub of_is_null : (h : ℕ) (t : Bool) (a : Expr) → F h a → F (suc h) (e.IsNull t a)
  pub of_is_missing : (h : ℕ) (t : Bool) (a : Expr) → F h a → F (suc h) (e.IsMissing t a)
  pub of_sum : (h : ℕ) (a : Expr) (xs : List SumPart) → F h a → All (λ p. F h (out-SumPart p).member) xs → F (suc h) (e.Sum a xs)
  pub of_prod : (h : ℕ) (a : Expr) (xs : List ProdPart) → F h a → All (λ p. F h (out-ProdPart p).member) xs → F (suc h) (e.Prod a xs)
  pub of_minus : (h : ℕ) (a : Expr) → F h a → F (suc h) (e.Minus a)
  pub of_text : (h : ℕ) (bytes : List ℕ) → F (suc h) (e.Text bytes)
  pub of_number : (h : ℕ) (n : Num) → F (suc h) (e.Number n)
  pub of_bool : (h : ℕ) (t : Bool) → F (suc h) (e.Bool t)
  pub of_null : (h : ℕ) → F (suc h) e.Null
  pub of_missing : (h : ℕ) → F (suc h) e.Missing
  pub of_path : (h : ℕ) (steps : List PathStep) → F (suc h) (e.Path steps)
  pub of_cast : (h : ℕ) (a : Expr) (target : CastTarget) → F h a → is_lawful_target target ≡ true → F (suc h) (e.Cast a target)
  pub of_case : (h : ℕ) (operand : Option Expr) (arms : List Arm) (otherwise : Option Expr) → IfThere (F h) operand → All (λ a. F h (out-Arm a).when × F h (out-Arm a).then) arms → IfThere (F h) otherwise → F (suc h) (e.Case operand arms otherwise)
  pub of_coalesce : (h : ℕ) (xs : List Expr) → All (F h) xs → F (suc h) (e.Coalesce xs)
  pub of_nullif : (h : ℕ) (a : Expr) (b : Expr) → F h a → F h b → F (suc h) (e.NullIf a b)
  pub of_char_length : (h : ℕ) (a : Expr) → F h a → F (suc h) (e.CharLength a)
  pub of_lower : (h : ℕ) (a : Expr) → F h a → F (suc h) (e.Lower a)
  pub of_upper : (h : ℕ) (a : Expr) → F h a → F (suc h) (e.Upper a)
  pub of_substring : (h : ℕ) (a : Expr) (b : Expr) (count : Option Expr) → F h a → F h b → IfThere (F h) count → F (suc h) (e.Substring a b count)
  pub of_trim : (h : ℕ) (side : Side) (set : Option Expr) (a : Expr) → IfThere (F h) set → F h a → F (suc h) (e.Trim side set a)
  pub of_extract : (h : ℕ) (part : DatePart) (a : Expr) → F h a → F (suc h) (e.Extract part a)
  pub of_date_add : (h : ℕ) (part : DatePart) (a : Expr) (b : Expr) → F h a → F h b → can_be_moved part ≡ true → F (suc h) (e.DateAdd part a b)
  pub of_to_timestamp : (h : ℕ) (a : Expr) → F h a → F (suc h) (e.ToTimestamp a)
