-- The order of lent texts is that of their bytes.
use Rattle.std.proofs.Common.{◌≡◌, ℕ, List, refl, sym, ◌∙◌, ap, ap₂}
use Rattle.std.specs.Str.{chars, IsUtf8}
use Rattle.std.specs.Ordering.{nat_cmp}
use Rattle.std.specs.Cmp.Lexicographic.{slice_cmp}
use Rattle.std.specs.declared.cmp.Ordering.{Ordering}
use Rattle.std.specs.Prelude.{Bool, Option, Some, Result, Ok}
use Rattle.text_view.specs.declared.like.Part.{Part}
use Rattle.text_view.specs.Finding.{like}
use Rattle.sql_timestamp.specs.declared.fault.ValueFault.{ValueFault}
use Rattle.sql_functions.specs.Texts.{like_truth}
use Rattle.sql_functions.specs.Operands.{text_operand}
use Rattle.text_view.proofs.CodePoints.{ordered_bytes}
use Rattle.sql_value.specs.declared.value.Value.TheVariants as value
use Rattle.sql_value.specs.declared.comparing.Order.{Order}
use Rattle.sql_value.specs.Compared.{order_of, known}

abbrev pub liked_outcome : Bool → Result (Option Bool) ValueFault
liked_outcome b = Ok (Some b)

by_chars : (a b : List ℕ) → order_of (value.Text a) (value.Text b) ≡ known (slice_cmp nat_cmp a b)
unfolding order_of
by_chars a b = refl

pub texts_ordered : (a b x y : List ℕ) (o : Ordering) (order : Order) → x ≡ a → y ≡ b → IsUtf8 x → IsUtf8 y → o ≡ slice_cmp nat_cmp x y → order ≡ known o
    → order ≡ order_of (value.Text (chars a)) (value.Text (chars b))
texts_ordered a b x y o order left right utf8 utf8_too compared told =
    told ∙ ap known (compared ∙ ordered_bytes x y utf8 utf8_too ∙ ap₂ (λ p q. slice_cmp nat_cmp (chars p) (chars q)) left right) ∙ sym (by_chars (chars a) (chars b))

pub text_liked : (parts : List Part) (cs : List ℕ) (b : Bool) → b ≡ like parts cs → liked_outcome b ≡ like_truth parts (value.Text cs)
unfolding like_truth text_operand
text_liked parts cs b is = ap liked_outcome is
