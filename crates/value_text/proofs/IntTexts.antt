-- The text of a whole number.
use Rattle.std.proofs.Common.{◌≡◌, suc, ◌/◌, ℤ, pos, negsuc, [], ◌∷◌, ◌++◌, ap, ◌∙◌}
use Rattle.std.specs.Fmt.{decimal, signed_decimal}
use Rattle.std.proofs.Math.Nat.{div-one}
use Rattle.std.proofs.lemmas.List.{append-nil}
use Rattle.sql_decimal.specs.Decimal.{decimal_of}
use Rattle.sql_decimal.specs.Printing.{printed}

pub printed_int : (z : ℤ) → printed (decimal_of z 0) ≡ signed_decimal z
unfolding printed
printed_int (pos n) = append-nil ([] ++ decimal (n / 1)) ∙ ap decimal (div-one n)
printed_int (negsuc n) = append-nil ((45 ∷ []) ++ decimal (suc n / 1)) ∙ ap (λ l. 45 ∷ l) (ap decimal (div-one (suc n)))
