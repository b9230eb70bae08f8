-- The number of digits, up to a greatest one.
use Rattle.std.specs.Prelude.{ℕ, ◌+◌, ◌-◌, ◌*◌, nat_le, Bool, ◌&&◌, List, [], ◌∷◌, Option, Some, None, if◌then◌else◌}
use Rattle.std.specs.Option.{option_and_then}
use Rattle.std.specs.Char.{is_ascii_digit}
use Rattle.std.specs.Str.{all_ascii_digits}
use Rattle.std.specs.Str.Parse.{digits_value_after}

-- what digits write that follow those of a number, where they are digits and it is at most `most`
unfoldable pub value_within : ℕ → ℕ → List ℕ → Option ℕ
value_within most before digits =
    if all_ascii_digits digits && nat_le (digits_value_after 10 before digits) most then Some (digits_value_after 10 before digits)
    else None

-- what one digit writes that follows those of a number
unfoldable pub next_value : ℕ → ℕ → ℕ → Option ℕ
next_value most before digit =
    if is_ascii_digit digit && nat_le (before * 10 + (digit - 48)) most then Some (before * 10 + (digit - 48)) else None

-- the same digit by digit: each may follow, and brings the number to at most `most`
abbrev pub value_from : ℕ → ℕ → List ℕ → Option ℕ
value_from most before [] = Some before
value_from most before (digit ∷ digits) = option_and_then (λ next. value_from most next digits) (next_value most before digit)
