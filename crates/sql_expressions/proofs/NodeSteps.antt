-- The node of two parts or more.
use Rattle.std.proofs.Common.{◌≡◌, List, [], ◌∷◌, refl}
use Rattle.sql_grammar.specs.declared.tree.Expr.{Expr}
use Rattle.sql_grammar.specs.declared.tree.Expr.TheVariants as e
use Rattle.sql_grammar.specs.declared.tree.SumPart.{SumPart}
use Rattle.sql_grammar.specs.declared.tree.ProdPart.{ProdPart}
use Rattle.sql_grammar.specs.Expressions.{prod_node, sum_node, and_node, or_node}

pub prod_some : (a : Expr) (rest : List ProdPart) → (rest ≡ [] → ⊥) → e.Prod a rest ≡ prod_node a rest
prod_some a [] h = absurd (h refl)
prod_some a (b ∷ rest) h = refl

pub sum_some : (a : Expr) (rest : List SumPart) → (rest ≡ [] → ⊥) → e.Sum a rest ≡ sum_node a rest
sum_some a [] h = absurd (h refl)
sum_some a (b ∷ rest) h = refl

pub and_some : (a : Expr) (rest : List Expr) → (rest ≡ [] → ⊥) → e.And (a ∷ rest) ≡ and_node a rest
and_some a [] h = absurd (h refl)
and_some a (b ∷ rest) h = refl

pub or_some : (a : Expr) (rest : List Expr) → (rest ≡ [] → ⊥) → e.Or (a ∷ rest) ≡ or_node a rest
or_some a [] h = absurd (h refl)
or_some a (b ∷ rest) h = refl
