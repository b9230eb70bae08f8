-- The place of the first symbol that is left.
use Rattle.std.proofs.Common.{◌≡◌, ℕ, ◌-◌, List, ◌++◌, length, drop, sym, ap, ◌∙◌}
use Rattle.grammar_rules.proofs.Answering.{left_over}
use Rattle.grammar_rules.specs.Placed.{Placed, first_place, place_at}

pub place-left : {P : Type 0} (size : ℕ) (symbols pre left : List (Placed P)) → symbols ≡ pre ++ left → first_place size left ≡ place_at size symbols (length symbols - length left)
unfolding place_at
place-left size symbols pre left e = ap (first_place size) (sym (left_over pre left) ∙ ap (λ ss. drop (length ss - length left) ss) (sym e))
