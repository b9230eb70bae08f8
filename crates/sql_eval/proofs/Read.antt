-- What a leaf tells of the operand that it is.
use Rattle.std.proofs.Common.{◌≡◌, ℕ, ℤ, List, refl, sym, ◌∙◌, ap, subst}
use Rattle.std.specs.Prelude.{Option, None, Some, Result, Ok, Err}
use Rattle.sql_decimal.specs.Reading.{number_of, int_of}
use Rattle.sql_decimal.specs.declared.number.Num.{Num}
use Rattle.sql_decimal.specs.declared.number.Num.TheVariants as number
use Rattle.sql_grammar.specs.declared.tree.CastTarget.TheVariants as named
use Rattle.sql_value.specs.declared.value.Value.TheVariants as value
use Rattle.sql_value.specs.Outcomes.{Outcome}
use Rattle.sql_value.specs.Settled.{settled}
use Rattle.sql_value.specs.Casts.{cast_of, cast_known, to_int, if_read, number_to_int}
use Rattle.sql_eval.specs.Evaluated.{and_then, settling}
use Rattle.sql_grammar.specs.declared.tree.CompareOp.{CompareOp}
use Rattle.sql_value.specs.declared.value.Value.{Value}
use Rattle.sql_value.specs.declared.comparing.Order.{Order}
use Rattle.sql_value.specs.Compared.{order_of}
use Rattle.sql_eval.specs.declared.leaves.Leaf.{Leaf}
use Rattle.sql_eval.specs.declared.leaves.Leaf.TheVariants as leaf
use Rattle.sql_eval.specs.Leaves.{IsLeaf, leaves_order}
use Rattle.sql_eval.specs.Logic.{holds, comparison}
use Rattle.sql_eval.specs.Operations.{of_one, cast_to}

-- a text that reads as a whole number is cast to it
by_number : (m : Option Num) (n : ℤ) → int_of m ≡ Some n → settling (if_read m number_to_int) ≡ Ok (value.Int n)
unfolding settled
by_number None n e = absurd (cc)
by_number (Some (number.Int k)) n e = let same : k ≡ n = cc in ap (λ i. Ok (value.Int i)) same
by_number (Some (number.Dec d)) n e = absurd (cc)

pub cast_leaf : (o : Outcome) (t : List ℕ) (n : ℤ) → settling o ≡ Ok (value.Text t) → int_of (number_of t) ≡ Some n → settling (of_one (cast_to named.Int) o) ≡ Ok (value.Int n)
unfolding cast_of cast_known to_int
cast_leaf o t n told e = ap (λ x. settling (and_then x (cast_to named.Int))) told ∙ by_number (number_of t) n e

-- the comparison of two operands that are told
told_compare : (op : CompareOp) (o p : Outcome) (x y : Value) (order : Order) → settling o ≡ Ok x → settling p ≡ Ok y → Some (order_of x y) ≡ Some order
    → comparison op o p ≡ Ok (holds op order)
told_compare op o p x y order left right e =
    let same : order_of x y ≡ order = cc in
    ap (λ r. and_then r (λ v. and_then (settling p) (λ w. Ok (holds op (order_of v w))))) left
    ∙ ap (λ r. and_then r (λ w. Ok (holds op (order_of x w)))) right ∙ ap (λ r. Ok (holds op r)) same

pub leaves_compare : (op : CompareOp) (a b : Leaf) (o p : Outcome) (order : Order) → IsLeaf a (settling o) → IsLeaf b (settling p) → Some order ≡ leaves_order a b
    → comparison op o p ≡ Ok (holds op order)
leaves_compare op leaf.Other b o p order x y e = absurd (cc)
leaves_compare op (leaf.Int m) leaf.Other o p order x y e = absurd (cc)
leaves_compare op (leaf.Int m) (leaf.Int n) o p order x y e = told_compare op o p _ _ order x y (sym e)
leaves_compare op (leaf.Int m) (leaf.Text u) o p order x y e = told_compare op o p _ _ order x y (sym e)
leaves_compare op (leaf.Text t) leaf.Other o p order x y e = absurd (cc)
leaves_compare op (leaf.Text t) (leaf.Int n) o p order x y e = told_compare op o p _ _ order x y (sym e)
leaves_compare op (leaf.Text t) (leaf.Text u) o p order x y e = told_compare op o p _ _ order x y (sym e)
