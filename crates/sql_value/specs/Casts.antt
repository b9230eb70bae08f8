-- CAST: what a value becomes in another type. All that isn't listed is CastFailed.
use Rattle.std.specs.Prelude.{◌≤◌, ℕ, pos, unsigned_abs, Bool, true, false, not, ◌==◌, List, map, codes, Option, None, Some, Ok, Err, if◌then◌else◌}
use Rattle.std.specs.Str.{chars, bytes_eq}
use Rattle.std.specs.Char.{to_ascii_lowercase}
use Rattle.std.specs.Fmt.{signed_decimal}
use Rattle.sql_decimal.specs.Decimal.{Decimal, whole_of}
use Rattle.sql_decimal.specs.Arithmetic.{cut}
use Rattle.sql_decimal.specs.Printing.{printed}
use Rattle.sql_decimal.specs.Reading.{number_of}
use Rattle.sql_decimal.specs.declared.number.Num.{Num}
use Rattle.sql_decimal.specs.declared.number.Num.TheVariants as number
use Rattle.sql_timestamp.specs.Reading.{spelled_timestamp}
use Rattle.sql_timestamp.specs.Printing.{printed_timestamp}
use Rattle.sql_timestamp.specs.declared.fault.ValueFault.TheVariants.{CastFailed}
use Rattle.value_text.specs.Texts.{bool_text}
use Rattle.sql_value.specs.declared.value.Value.{Value}
use Rattle.sql_value.specs.declared.value.Value.TheVariants.{Missing, Null, Bool as Truth, Int, Dec, Text, Stamp, Node, Bad}
use Rattle.sql_value.specs.declared.target.Target.{Target}
use Rattle.sql_value.specs.declared.target.Target.TheVariants as to
use Rattle.sql_value.specs.Outcomes.{Outcome, int_outcome, decimal_outcome}
use Rattle.sql_value.specs.Numbers.{whole, fraction_of}
use Rattle.sql_value.specs.Arithmetic.{int_or_overflow}

-- DECIMAL's digits are 1 to 38, and its scale is at most the digits
abbrev pub IsTarget : Target → Type 0
IsTarget to.Bool = Unit {0}
IsTarget to.Int = Unit {0}
IsTarget to.Decimal = Unit {0}
IsTarget (to.DecimalOf digits scale) = (1 ≤ digits) × (digits ≤ 38) × (scale ≤ digits)
IsTarget to.Text = Unit {0}
IsTarget to.Timestamp = Unit {0}

-- what a text is read as; an unreadable one is CastFailed
abbrev pub if_read : {A : Type 0} → Option A → (A → Outcome) → Outcome
if_read None outcome = Err CastFailed
if_read (Some a) outcome = outcome a

-- the text is that word, ignoring ASCII case
abbrev pub reads_as : List ℕ → List ℕ → Bool
reads_as word text = bytes_eq (map to_ascii_lowercase text) (map to_ascii_lowercase (chars word))

-- the truth value that a text spells
unfoldable pub spelled_truth : List ℕ → Option Bool
spelled_truth text =
    if reads_as (codes "true") text then Some true
    else (if reads_as (codes "false") text then Some false else None)

-- to BOOL: a text `true` or `false`; Int, false where 0
unfoldable pub to_bool : Value → Outcome
to_bool (Truth b) = Ok (Truth b)
to_bool (Int n) = Ok (Truth (not (unsigned_abs n == 0)))
to_bool (Text t) = if_read (spelled_truth t) (λ b. Ok (Truth b))
to_bool _ = Err CastFailed

-- a decimal cut toward zero, IntegerOverflow out of 64 bits
abbrev pub cut_to_int : Decimal → Outcome
cut_to_int d = int_outcome (int_or_overflow (whole_of d))

abbrev pub number_to_int : Num → Outcome
number_to_int (number.Int n) = Ok (Int n)
number_to_int (number.Dec d) = cut_to_int d

-- to INT: Bool as 0 or 1; a decimal cut toward zero; a text read as a number, then the same
unfoldable pub to_int : Value → Outcome
to_int (Truth b) = Ok (Int (if b then pos 1 else pos 0))
to_int (Int n) = Ok (Int n)
to_int (Dec d) = cut_to_int d
to_int (Text t) = if_read (number_of t) number_to_int
to_int _ = Err CastFailed

-- to DECIMAL: Int, at scale 0; a text read as a number
unfoldable pub to_decimal : Value → Outcome
to_decimal (Int n) = Ok (Dec (whole n))
to_decimal (Dec d) = Ok (Dec d)
to_decimal (Text t) = if_read (number_of t) (λ n. Ok (Dec (fraction_of n)))
to_decimal _ = Err CastFailed

-- a number cut toward zero to a scale, NumberOverflow over its digits
abbrev pub cut_to : ℕ → ℕ → Decimal → Outcome
cut_to digits scale d = decimal_outcome (cut d digits scale)

-- to DECIMAL with digits and a scale: each of these, and a decimal
unfoldable pub to_decimal_of : ℕ → ℕ → Value → Outcome
to_decimal_of digits scale (Int n) = cut_to digits scale (whole n)
to_decimal_of digits scale (Dec d) = cut_to digits scale d
to_decimal_of digits scale (Text t) = if_read (number_of t) (λ n. cut_to digits scale (fraction_of n))
to_decimal_of digits scale _ = Err CastFailed

-- to STRING: Bool, Int, decimal and timestamp as printed
unfoldable pub to_text : Value → Outcome
to_text (Truth b) = Ok (Text (chars (bool_text b)))
to_text (Int n) = Ok (Text (chars (signed_decimal n)))
to_text (Dec d) = Ok (Text (chars (printed d)))
to_text (Text t) = Ok (Text t)
to_text (Stamp s) = Ok (Text (chars (printed_timestamp s)))
to_text _ = Err CastFailed

-- to TIMESTAMP: a text
unfoldable pub to_timestamp : Value → Outcome
to_timestamp (Text t) = if_read (spelled_timestamp t) (λ s. Ok (Stamp s))
to_timestamp (Stamp s) = Ok (Stamp s)
to_timestamp _ = Err CastFailed

-- a value that is there
unfoldable pub cast_known : Target → Value → Outcome
cast_known to.Bool v = to_bool v
cast_known to.Int v = to_int v
cast_known to.Decimal v = to_decimal v
cast_known (to.DecimalOf digits scale) v = to_decimal_of digits scale v
cast_known to.Text v = to_text v
cast_known to.Timestamp v = to_timestamp v

-- a settled value: NULL and MISSING give NULL
unfoldable pub cast_of : Target → Value → Outcome
cast_of target Missing = Ok Null
cast_of target Null = Ok Null
cast_of target (Truth b) = cast_known target (Truth b)
cast_of target (Int n) = cast_known target (Int n)
cast_of target (Dec d) = cast_known target (Dec d)
cast_of target (Text t) = cast_known target (Text t)
cast_of target (Stamp s) = cast_known target (Stamp s)
cast_of target (Node bytes) = cast_known target (Node bytes)
cast_of target (Bad fault) = Err fault
