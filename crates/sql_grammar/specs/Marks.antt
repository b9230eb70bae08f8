-- What the grammar sees of a token: its class, and what it spells. And the kinds of faults.
use Rattle.std.specs.Prelude.{ℕ, Bool, true, false, ◌&&◌, nat_le, List, [], ◌∷◌, Option, Some, None, is_some, if◌then◌else◌, pos, negsuc, chars}
use Rattle.sql_decimal.specs.declared.number.Num.{Num}
use Rattle.sql_decimal.specs.declared.number.Num.TheVariants.{Int, Dec}
use Rattle.text_view.specs.LikePattern.{pattern_parts}
use Rattle.sql_tokens.specs.declared.class.Class.{Class}
use Rattle.sql_tokens.specs.declared.class.Class.TheVariants as k
use Rattle.sql_tokens.specs.Classes.{same_class}
use Rattle.sql_tokens.specs.TokenForms.{Token, class_of}
use Rattle.sql_tokens.specs.Cutting.{Symbol}
use Rattle.sql_tokens.specs.Payloads.{word_of, quoted_of, text_of, digits_of, number_from, undoubled}
use Rattle.sql_grammar.specs.declared.tree.Name.{Name}
use Rattle.sql_grammar.specs.declared.tree.CompareOp.{CompareOp}
use Rattle.sql_grammar.specs.declared.tree.CompareOp.TheVariants as compares
use Rattle.sql_grammar.specs.declared.tree.SumOp.{SumOp}
use Rattle.sql_grammar.specs.declared.tree.SumOp.TheVariants as adds
use Rattle.sql_grammar.specs.declared.tree.ProdOp.{ProdOp}
use Rattle.sql_grammar.specs.declared.tree.ProdOp.TheVariants as multiplies
use Rattle.sql_grammar.specs.declared.tree.DatePart.{DatePart}
use Rattle.sql_grammar.specs.declared.tree.DatePart.TheVariants as part
use Rattle.sql_grammar.specs.declared.tree.CastTarget.{CastTarget}
use Rattle.sql_grammar.specs.declared.tree.CastTarget.TheVariants as target
use Rattle.grammar_rules.specs.Rules.{Verdict, takes, faults, refuses}

-- the faults that a token may have where a rule looks at it; at one token they are tried in this order
pub data Fault : Type 0 where
  unknown_function : Fault
  aggregate_mixed : Fault
  unsupported_type : Fault
  bad_escape : Fault
  -- a number that is out of its place's range
  wrong_number : Fault
  too_deep : Fault
  too_many : Fault

-- ---- tokens by their class

abbrev pub class : Symbol → Class
class s = class_of s.token

-- the tokens of a class
abbrev pub of : Class → Symbol → Bool
of c s = same_class c (class s)

-- the tokens whose class passes the test, for what `spelled` makes of them
abbrev pub those : {A : Type 0} → (Class → Bool) → (Token → A) → Symbol → Verdict Fault A
those test spelled s = if test (class s) then takes (spelled s.token) else refuses

-- a word that isn't reserved, but for an aggregate's name before `(`; or a quoted name
abbrev pub is_name : Class → Bool
is_name k.Name = true
is_name k.NameCalled = true
is_name k.QuotedName = true
is_name k.QuotedNameCalled = true
is_name k.S3Object = true
is_name k.S3ObjectCalled = true
is_name k.For = true
is_name k.ForCalled = true
is_name k.BoolType = true
is_name k.BoolTypeCalled = true
is_name k.IntType = true
is_name k.IntTypeCalled = true
is_name k.StringType = true
is_name k.StringTypeCalled = true
is_name k.TimestampType = true
is_name k.TimestampTypeCalled = true
is_name k.DecimalType = true
is_name k.DecimalTypeCalled = true
is_name k.Year = true
is_name k.YearCalled = true
is_name k.Month = true
is_name k.MonthCalled = true
is_name k.Day = true
is_name k.DayCalled = true
is_name k.Hour = true
is_name k.HourCalled = true
is_name k.Minute = true
is_name k.MinuteCalled = true
is_name k.Second = true
is_name k.SecondCalled = true
is_name k.TimezoneHour = true
is_name k.TimezoneHourCalled = true
is_name k.TimezoneMinute = true
is_name k.TimezoneMinuteCalled = true
is_name k.CoalesceCalled = true
is_name k.NullifCalled = true
is_name k.CharLengthCalled = true
is_name k.LowerCalled = true
is_name k.UpperCalled = true
is_name k.SubstringCalled = true
is_name k.TrimCalled = true
is_name k.ExtractCalled = true
is_name k.DateAddCalled = true
is_name k.ToTimestampCalled = true
is_name _ = false

-- an aggregate's name before `(`
abbrev pub is_aggregate : Class → Bool
is_aggregate k.CountCalled = true
is_aggregate k.SumCalled = true
is_aggregate k.MinCalled = true
is_aggregate k.MaxCalled = true
is_aggregate k.AvgCalled = true
is_aggregate _ = false

-- ---- what a token spells

abbrev pub or_nothing : Option (List ℕ) → List ℕ
or_nothing None = []
or_nothing (Some bytes) = bytes

-- a name: a word as it stands, or what stands between the quotes of a quoted one
abbrev pub name_by : Option (List ℕ) → Option (List ℕ) → Name
name_by None word = record { text = or_nothing word; quoted = false }
name_by (Some raw) word = record { text = undoubled 34 raw; quoted = true }

abbrev pub name_of : Token → Name
name_of t = name_by (quoted_of t) (word_of t)

-- the bytes of a text
abbrev pub text_in : Token → List ℕ
text_in t = undoubled 39 (or_nothing (text_of t))

-- a number; each number that the cut gives has one
abbrev pub number_or_zero : Option Num → Num
number_or_zero None = Int (pos 0)
number_or_zero (Some n) = n

abbrev pub number_in : Token → Num
number_in t = number_or_zero (number_from (digits_of t))

-- ---- names, texts and numbers, as symbols

-- a name
abbrev pub name : Symbol → Verdict Fault Name
name = those is_name name_of

-- a text
abbrev pub text : Symbol → Verdict Fault (List ℕ)
text = those (same_class k.Text) text_in

-- digits of at most 2^63 - 1 have a value
abbrev pub whole_of : Num → Option ℕ
whole_of (Int (pos n)) = Some n
whole_of (Int (negsuc n)) = None
whole_of (Dec d) = None

-- digits whose value is within these bounds; others have the wrong number
abbrev pub whole_within : ℕ → ℕ → Option ℕ → Verdict Fault ℕ
whole_within least most None = faults wrong_number
whole_within least most (Some n) = if nat_le least n && nat_le n most then takes n else faults wrong_number

abbrev pub digits_within : ℕ → ℕ → Symbol → Verdict Fault ℕ
digits_within least most s = if same_class k.WholeNumber (class s) then whole_within least most (whole_of (number_in s.token)) else refuses

-- digits of at most 2^63 - 1
abbrev pub digits : Symbol → Verdict Fault ℕ
digits = digits_within 0 9223372036854775807

-- how many digits a decimal has, and how many of them may stand behind its point
abbrev pub precision : Symbol → Verdict Fault ℕ
precision = digits_within 1 38

abbrev pub scale : ℕ → Symbol → Verdict Fault ℕ
scale most = digits_within 0 most

-- the escape of a pattern: one character, which the pattern fits
abbrev pub escape_by : List ℕ → List ℕ → Verdict Fault (Option ℕ)
escape_by pattern [] = faults bad_escape
escape_by pattern (c ∷ []) = if is_some (pattern_parts (Some c) (chars pattern)) then takes (Some c) else faults bad_escape
escape_by pattern (c ∷ d ∷ cs) = faults bad_escape

abbrev pub escape : List ℕ → Symbol → Verdict Fault (Option ℕ)
escape pattern s = if same_class k.Text (class s) then escape_by pattern (chars (text_in s.token)) else refuses

-- ---- operators, parts and words, as symbols

-- the tokens of one of these classes, for what the first one tells of the class
abbrev pub told_by : {A : Type 0} → Option A → Verdict Fault A
told_by None = refuses
told_by (Some a) = takes a

abbrev pub compare_op : Class → Option CompareOp
compare_op k.Equal = Some compares.Equal
compare_op k.NotEqual = Some compares.NotEqual
compare_op k.Less = Some compares.Less
compare_op k.LessOrEqual = Some compares.AtMost
compare_op k.Greater = Some compares.Greater
compare_op k.GreaterOrEqual = Some compares.AtLeast
compare_op _ = None

abbrev pub sum_op : Class → Option SumOp
sum_op k.Plus = Some adds.Add
sum_op k.Minus = Some adds.Sub
sum_op _ = None

abbrev pub prod_op : Class → Option ProdOp
prod_op k.Star = Some multiplies.Mul
prod_op k.Slash = Some multiplies.Div
prod_op k.Percent = Some multiplies.Rem
prod_op _ = None

-- YEAR | MONTH | DAY | HOUR | MINUTE | SECOND
abbrev pub date_part : Class → Option DatePart
date_part k.Year = Some part.Year
date_part k.YearCalled = Some part.Year
date_part k.Month = Some part.Month
date_part k.MonthCalled = Some part.Month
date_part k.Day = Some part.Day
date_part k.DayCalled = Some part.Day
date_part k.Hour = Some part.Hour
date_part k.HourCalled = Some part.Hour
date_part k.Minute = Some part.Minute
date_part k.MinuteCalled = Some part.Minute
date_part k.Second = Some part.Second
date_part k.SecondCalled = Some part.Second
date_part _ = None

-- the same, and TIMEZONE_HOUR | TIMEZONE_MINUTE
abbrev pub stamp_part : Class → Option DatePart
stamp_part k.TimezoneHour = Some part.TimezoneHour
stamp_part k.TimezoneHourCalled = Some part.TimezoneHour
stamp_part k.TimezoneMinute = Some part.TimezoneMinute
stamp_part k.TimezoneMinuteCalled = Some part.TimezoneMinute
stamp_part k.Year = Some part.Year
stamp_part k.YearCalled = Some part.Year
stamp_part k.Month = Some part.Month
stamp_part k.MonthCalled = Some part.Month
stamp_part k.Day = Some part.Day
stamp_part k.DayCalled = Some part.Day
stamp_part k.Hour = Some part.Hour
stamp_part k.HourCalled = Some part.Hour
stamp_part k.Minute = Some part.Minute
stamp_part k.MinuteCalled = Some part.Minute
stamp_part k.Second = Some part.Second
stamp_part k.SecondCalled = Some part.Second
stamp_part _ = None

-- the token of such a class
abbrev pub one_told : {A : Type 0} → (Class → Option A) → Symbol → Verdict Fault A
one_told tell s = told_by (tell (class s))

-- ---- how an expression begins

-- the forms of a primary, by the class of its first token
pub data Form : Type 0 where
  literal_text : Form
  literal_number : Form
  truth : Form
  untruth : Form
  null_form : Form
  missing_form : Form
  path_form : Form
  -- a call of no known function
  unknown_call : Form
  -- a number with an exponent
  exponent_form : Form
  cast_form : Form
  group_form : Form
  case_form : Form
  coalesce_form : Form
  nullif_form : Form
  char_length_form : Form
  lower_form : Form
  upper_form : Form
  substring_form : Form
  trim_form : Form
  extract_form : Form
  date_add_form : Form
  to_timestamp_form : Form

abbrev pub form_of : Class → Option Form
form_of k.Text = Some literal_text
form_of k.WholeNumber = Some literal_number
form_of k.PointNumber = Some literal_number
form_of k.True = Some truth
form_of k.False = Some untruth
form_of k.Null = Some null_form
form_of k.Missing = Some missing_form
form_of k.Name = Some path_form
form_of k.QuotedName = Some path_form
form_of k.S3Object = Some path_form
form_of k.For = Some path_form
form_of k.BoolType = Some path_form
form_of k.IntType = Some path_form
form_of k.StringType = Some path_form
form_of k.TimestampType = Some path_form
form_of k.DecimalType = Some path_form
form_of k.Year = Some path_form
form_of k.Month = Some path_form
form_of k.Day = Some path_form
form_of k.Hour = Some path_form
form_of k.Minute = Some path_form
form_of k.Second = Some path_form
form_of k.TimezoneHour = Some path_form
form_of k.TimezoneMinute = Some path_form
form_of k.NameCalled = Some unknown_call
form_of k.QuotedNameCalled = Some unknown_call
form_of k.S3ObjectCalled = Some unknown_call
form_of k.ForCalled = Some unknown_call
form_of k.BoolTypeCalled = Some unknown_call
form_of k.IntTypeCalled = Some unknown_call
form_of k.StringTypeCalled = Some unknown_call
form_of k.TimestampTypeCalled = Some unknown_call
form_of k.DecimalTypeCalled = Some unknown_call
form_of k.YearCalled = Some unknown_call
form_of k.MonthCalled = Some unknown_call
form_of k.DayCalled = Some unknown_call
form_of k.HourCalled = Some unknown_call
form_of k.MinuteCalled = Some unknown_call
form_of k.SecondCalled = Some unknown_call
form_of k.TimezoneHourCalled = Some unknown_call
form_of k.TimezoneMinuteCalled = Some unknown_call
form_of k.ExponentNumber = Some exponent_form
form_of k.Cast = Some cast_form
form_of k.LeftParenthesis = Some group_form
form_of k.Case = Some case_form
form_of k.CoalesceCalled = Some coalesce_form
form_of k.NullifCalled = Some nullif_form
form_of k.CharLengthCalled = Some char_length_form
form_of k.LowerCalled = Some lower_form
form_of k.UpperCalled = Some upper_form
form_of k.SubstringCalled = Some substring_form
form_of k.TrimCalled = Some trim_form
form_of k.ExtractCalled = Some extract_form
form_of k.DateAddCalled = Some date_add_form
form_of k.ToTimestampCalled = Some to_timestamp_form
form_of _ = None

-- the class is the first of this form
abbrev pub is_path_name : Class → Bool
is_path_name k.Name = true
is_path_name k.QuotedName = true
is_path_name k.S3Object = true
is_path_name k.For = true
is_path_name k.BoolType = true
is_path_name k.IntType = true
is_path_name k.StringType = true
is_path_name k.TimestampType = true
is_path_name k.DecimalType = true
is_path_name k.Year = true
is_path_name k.Month = true
is_path_name k.Day = true
is_path_name k.Hour = true
is_path_name k.Minute = true
is_path_name k.Second = true
is_path_name k.TimezoneHour = true
is_path_name k.TimezoneMinute = true
is_path_name _ = false

-- a name before `(` that is neither a function's nor an aggregate's
abbrev pub is_unknown_call : Class → Bool
is_unknown_call k.NameCalled = true
is_unknown_call k.QuotedNameCalled = true
is_unknown_call k.S3ObjectCalled = true
is_unknown_call k.ForCalled = true
is_unknown_call k.BoolTypeCalled = true
is_unknown_call k.IntTypeCalled = true
is_unknown_call k.StringTypeCalled = true
is_unknown_call k.TimestampTypeCalled = true
is_unknown_call k.DecimalTypeCalled = true
is_unknown_call k.YearCalled = true
is_unknown_call k.MonthCalled = true
is_unknown_call k.DayCalled = true
is_unknown_call k.HourCalled = true
is_unknown_call k.MinuteCalled = true
is_unknown_call k.SecondCalled = true
is_unknown_call k.TimezoneHourCalled = true
is_unknown_call k.TimezoneMinuteCalled = true
is_unknown_call _ = false

abbrev pub is_number : Class → Bool
is_number k.WholeNumber = true
is_number k.PointNumber = true
is_number _ = false

abbrev pub is_decimal : Class → Bool
is_decimal k.DecimalType = true
is_decimal k.DecimalTypeCalled = true
is_decimal _ = false

abbrev pub is_for : Class → Bool
is_for k.For = true
is_for k.ForCalled = true
is_for _ = false

abbrev pub is_source : Class → Bool
is_source k.S3Object = true
is_source k.S3ObjectCalled = true
is_source _ = false

-- the tokens with which an expression begins, or a fault of one
abbrev pub begins_primary : Class → Bool
begins_primary c = is_some (form_of c)

abbrev pub begins_unary : Class → Bool
begins_unary k.Minus = true
begins_unary c = begins_primary c

abbrev pub begins_expression : Class → Bool
begins_expression k.Not = true
begins_expression c = begins_unary c

-- ---- types

-- BOOL | BOOLEAN | INT | INTEGER | STRING | TIMESTAMP; every other word but DECIMAL and NUMERIC is no type, an aggregate's name before
-- `(` apart
abbrev pub simple_type : Class → Verdict Fault CastTarget
simple_type k.BoolType = takes target.Bool
simple_type k.BoolTypeCalled = takes target.Bool
simple_type k.IntType = takes target.Int
simple_type k.IntTypeCalled = takes target.Int
simple_type k.StringType = takes target.Text
simple_type k.StringTypeCalled = takes target.Text
simple_type k.TimestampType = takes target.Timestamp
simple_type k.TimestampTypeCalled = takes target.Timestamp
simple_type k.Select = faults unsupported_type
simple_type k.From = faults unsupported_type
simple_type k.Where = faults unsupported_type
simple_type k.Limit = faults unsupported_type
simple_type k.As = faults unsupported_type
simple_type k.And = faults unsupported_type
simple_type k.Or = faults unsupported_type
simple_type k.Not = faults unsupported_type
simple_type k.In = faults unsupported_type
simple_type k.Like = faults unsupported_type
simple_type k.Escape = faults unsupported_type
simple_type k.Between = faults unsupported_type
simple_type k.Is = faults unsupported_type
simple_type k.Null = faults unsupported_type
simple_type k.Missing = faults unsupported_type
simple_type k.True = faults unsupported_type
simple_type k.False = faults unsupported_type
simple_type k.Case = faults unsupported_type
simple_type k.When = faults unsupported_type
simple_type k.Then = faults unsupported_type
simple_type k.Else = faults unsupported_type
simple_type k.End = faults unsupported_type
simple_type k.Cast = faults unsupported_type
simple_type k.Leading = faults unsupported_type
simple_type k.Trailing = faults unsupported_type
simple_type k.Both = faults unsupported_type
simple_type k.Name = faults unsupported_type
simple_type k.NameCalled = faults unsupported_type
simple_type k.S3Object = faults unsupported_type
simple_type k.S3ObjectCalled = faults unsupported_type
simple_type k.For = faults unsupported_type
simple_type k.ForCalled = faults unsupported_type
simple_type k.Year = faults unsupported_type
simple_type k.YearCalled = faults unsupported_type
simple_type k.Month = faults unsupported_type
simple_type k.MonthCalled = faults unsupported_type
simple_type k.Day = faults unsupported_type
simple_type k.DayCalled = faults unsupported_type
simple_type k.Hour = faults unsupported_type
simple_type k.HourCalled = faults unsupported_type
simple_type k.Minute = faults unsupported_type
simple_type k.MinuteCalled = faults unsupported_type
simple_type k.Second = faults unsupported_type
simple_type k.SecondCalled = faults unsupported_type
simple_type k.TimezoneHour = faults unsupported_type
simple_type k.TimezoneHourCalled = faults unsupported_type
simple_type k.TimezoneMinute = faults unsupported_type
simple_type k.TimezoneMinuteCalled = faults unsupported_type
simple_type k.CoalesceCalled = faults unsupported_type
simple_type k.NullifCalled = faults unsupported_type
simple_type k.CharLengthCalled = faults unsupported_type
simple_type k.LowerCalled = faults unsupported_type
simple_type k.UpperCalled = faults unsupported_type
simple_type k.SubstringCalled = faults unsupported_type
simple_type k.TrimCalled = faults unsupported_type
simple_type k.ExtractCalled = faults unsupported_type
simple_type k.DateAddCalled = faults unsupported_type
simple_type k.ToTimestampCalled = faults unsupported_type
simple_type _ = refuses
