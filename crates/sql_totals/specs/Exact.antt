-- A sum told at once: as fractions, with the largest scale, and an Int where all are Ints.
use Rattle.std.specs.Prelude.{ℕ, ℤ, pos, ◌+ℤ◌, max, Bool, true, false, ◌&&◌, List, [], ◌∷◌, ◌++◌, Option, None, Some, Result, Ok, Err}
use Rattle.sql_decimal.specs.Decimal.{decimal_of}
use Rattle.sql_decimal.specs.Arithmetic.{aligned}
use Rattle.sql_decimal.specs.declared.number.Num.{Num}
use Rattle.sql_decimal.specs.declared.number.Num.TheVariants as number
use Rattle.sql_timestamp.specs.declared.fault.ValueFault.{ValueFault}
use Rattle.sql_value.specs.declared.value.Value.{Value}
use Rattle.sql_value.specs.declared.value.Value.TheVariants.{Null, Int, Dec}
use Rattle.sql_value.specs.Numbers.{fraction_of}
use Rattle.sql_value.specs.Arithmetic.{number_operand}

abbrev pub operand_number : Result (Option Num) ValueFault → List Num
operand_number (Err fault) = []
operand_number (Ok None) = []
operand_number (Ok (Some n)) = n ∷ []

-- the numbers that values are as operands of `+`
abbrev pub numbers : List Value → List Num
numbers [] = []
numbers (v ∷ vs) = operand_number (number_operand v) ++ numbers vs

abbrev pub scale_of : Num → ℕ
scale_of n = (fraction_of n).scale

abbrev pub largest_scale : List Num → ℕ
largest_scale [] = 0
largest_scale (n ∷ ns) = max (scale_of n) (largest_scale ns)

-- the sum of the coefficients at a scale that is no smaller than theirs
abbrev pub coefficients_at : ℕ → List Num → ℤ
coefficients_at s [] = pos 0
coefficients_at s (n ∷ ns) = aligned (fraction_of n) s +ℤ coefficients_at s ns

abbrev pub is_int : Num → Bool
is_int (number.Int n) = true
is_int (number.Dec d) = false

abbrev pub are_ints : List Num → Bool
are_ints [] = true
are_ints (n ∷ ns) = is_int n && are_ints ns

abbrev pub sum_value : Bool → ℤ → ℕ → Value
sum_value true c s = Int c
sum_value false c s = Dec (decimal_of c s)

-- the sum of numbers; of none it is NULL
abbrev pub exact_sum : List Num → Value
exact_sum [] = Null
exact_sum (n ∷ ns) = sum_value (are_ints (n ∷ ns)) (coefficients_at (largest_scale (n ∷ ns)) (n ∷ ns)) (largest_scale (n ∷ ns))
