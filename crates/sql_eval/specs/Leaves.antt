-- Operands that a literal or a lent text tells.
use Rattle.std.specs.Prelude.{◌≡◌, Option, None, Some, Ok, chars}
use Rattle.sql_value.specs.declared.value.Value.{Value}
use Rattle.sql_value.specs.declared.value.Value.TheVariants as value
use Rattle.sql_value.specs.declared.comparing.Order.{Order}
use Rattle.sql_value.specs.Outcomes.{Outcome}
use Rattle.sql_value.specs.Compared.{order_of}
use Rattle.sql_eval.specs.declared.leaves.Leaf.{Leaf}
use Rattle.sql_eval.specs.declared.leaves.Leaf.TheVariants.{Other, Int, Text}

-- the settled operand is what the leaf tells
abbrev pub IsLeaf : Leaf → Outcome → Type 0
IsLeaf Other o = Unit {0}
IsLeaf (Int n) o = o ≡ Ok (value.Int n)
IsLeaf (Text t) o = o ≡ Ok (value.Text (chars t.now))

-- the order of two leaves, where both are told
abbrev pub leaves_order : Leaf → Leaf → Option Order
leaves_order Other b = None
leaves_order (Int m) Other = None
leaves_order (Int m) (Int n) = Some (order_of (value.Int m) (value.Int n))
leaves_order (Int m) (Text u) = Some (order_of (value.Int m) (value.Text (chars u.now)))
leaves_order (Text t) Other = None
leaves_order (Text t) (Int n) = Some (order_of (value.Text (chars t.now)) (value.Int n))
leaves_order (Text t) (Text u) = Some (order_of (value.Text (chars t.now)) (value.Text (chars u.now)))
