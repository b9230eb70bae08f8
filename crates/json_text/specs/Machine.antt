-- A reader that takes a JSON text byte by byte: what is due, and the brackets that are open, the innermost first.
use Rattle.std.specs.Prelude.{ℕ, zero, suc, ◌%◌, ◌/◌, Bool, true, false, ◌||◌, ◌&&◌, nat_lt, nat_le, ◌==◌, List, [], ◌∷◌, length, Option, None, Some, if◌then◌else◌}
use Rattle.std.specs.Char.{digit_value}
use Rattle.text_view.specs.JsonString.{is_letter}
use Rattle.json_text.specs.Grammar.{is_blank, is_nonzero_digit, is_e}
use Rattle.json_text.specs.Texts.{levels}
use Rattle.json_text.specs.declared.bytes.Class.{Class}
use Rattle.json_text.specs.declared.bytes.Class.TheVariants.{Blank, Quote, ArrayBegin, ArrayEnd, ObjectBegin, ObjectEnd, Comma, Colon, Minus, Plus, Point, Zero, Nonzero, LetterE, LetterN, LetterT, LetterF, Other}
use Rattle.json_text.specs.declared.machine.Mode.{Mode}
use Rattle.json_text.specs.declared.machine.Mode.TheVariants.{ValueDue, ElementDue, NameDue, FirstNameDue, ColonDue, Ended, InWord, InNumber, InText, InName}
use Rattle.json_text.specs.declared.machine.Letters.{Letters}
use Rattle.json_text.specs.declared.machine.Letters.TheVariants.{Ull, Ll, L, Rue, Ue, E, Alse, Lse, Se}
use Rattle.json_text.specs.declared.machine.Digits.{Digits}
use Rattle.json_text.specs.declared.machine.Digits.TheVariants.{AfterMinus, AfterZero, InInt, AfterPoint, InFrac, AfterE, AfterSign, InExp}
use Rattle.json_text.specs.declared.machine.Part.{Part}
use Rattle.json_text.specs.declared.machine.Part.TheVariants.{Inside, Escape, CodeDue, AfterD, Three, Two, One, HighTwo, HighOne, LowEscape, LowMark, LowD, LowDigit}
use Rattle.json_text.specs.declared.machine.Around.{Around}
use Rattle.json_text.specs.declared.machine.Around.TheVariants.{Outside, InArray, InObject}
use Rattle.json_text.specs.declared.machine.Move.{Move}
use Rattle.json_text.specs.declared.machine.Move.TheVariants.{To, OpenArray, OpenObject, Close, Refuse}

abbrev pub class : ℕ → Class
class c =
    if is_blank c then Blank else (if c == 34 then Quote else (if c == 91 then ArrayBegin else (if c == 93 then ArrayEnd
    else (if c == 123 then ObjectBegin else (if c == 125 then ObjectEnd else (if c == 44 then Comma else (if c == 58 then Colon
    else (if c == 45 then Minus else (if c == 43 then Plus else (if c == 46 then Point else (if c == 48 then Zero
    else (if is_nonzero_digit c then Nonzero else (if is_e c then LetterE else (if c == 110 then LetterN
    else (if c == 116 then LetterT else (if c == 102 then LetterF else Other))))))))))))))))

-- ---- strings

abbrev pub is_hex_digit : ℕ → Bool
is_hex_digit c = nat_lt (digit_value c) 16

abbrev pub is_d : ℕ → Bool
is_d c = digit_value c == 13

abbrev pub is_eight_less : ℕ → Bool
is_eight_less c = nat_lt (digit_value c) 8

abbrev pub is_high_third : ℕ → Bool
is_high_third c = nat_lt (digit_value c) 12

abbrev pub is_low_third : ℕ → Bool
is_low_third c = nat_le 12 (digit_value c) && nat_lt (digit_value c) 16

abbrev pub part_if : Bool → Part → Option Part
part_if true p = Some p
part_if false p = None

abbrev pub escape_next : Part → ℕ → Option Part
escape_next Inside c = None
escape_next Escape c = if c == 117 then Some CodeDue else part_if (is_letter c) Inside
escape_next CodeDue c = if is_d c then Some AfterD else part_if (is_hex_digit c) Three
escape_next AfterD c = if is_eight_less c then Some Two else part_if (is_high_third c) HighTwo
escape_next Three c = part_if (is_hex_digit c) Two
escape_next Two c = part_if (is_hex_digit c) One
escape_next One c = part_if (is_hex_digit c) Inside
escape_next HighTwo c = part_if (is_hex_digit c) HighOne
escape_next HighOne c = part_if (is_hex_digit c) LowEscape
escape_next LowEscape c = part_if (c == 92) LowMark
escape_next LowMark c = part_if (c == 117) LowD
escape_next LowD c = part_if (is_d c) LowDigit
escape_next LowDigit c = part_if (is_low_third c) Two

abbrev pub inside_next : ℕ → Option Part
inside_next c = if c == 92 then Some Escape else (if c == 34 || nat_lt c 32 then None else Some Inside)

abbrev pub part_next : Part → ℕ → Option Part
part_next Inside c = inside_next c
part_next p c = escape_next p c

abbrev pub closes : Part → ℕ → Bool
closes Inside c = c == 34
closes p c = false

-- ---- moves

abbrev pub comma_move : Around → Move
comma_move Outside = Refuse
comma_move InArray = To ValueDue
comma_move InObject = To NameDue

abbrev pub end_array_move : Around → Move
end_array_move InArray = Close
end_array_move _ = Refuse

abbrev pub end_object_move : Around → Move
end_object_move InObject = Close
end_object_move _ = Refuse

abbrev pub after_move : Around → Class → Move
after_move around Blank = To Ended
after_move around Comma = comma_move around
after_move around ArrayEnd = end_array_move around
after_move around ObjectEnd = end_object_move around
after_move around _ = Refuse

abbrev pub value_move : Class → Move
value_move Blank = To ValueDue
value_move Quote = To (InText Inside)
value_move ArrayBegin = OpenArray
value_move ObjectBegin = OpenObject
value_move Minus = To (InNumber AfterMinus)
value_move Zero = To (InNumber AfterZero)
value_move Nonzero = To (InNumber InInt)
value_move LetterN = To (InWord Ull)
value_move LetterT = To (InWord Rue)
value_move LetterF = To (InWord Alse)
value_move _ = Refuse

abbrev pub first_element_move : Class → Move
first_element_move Blank = To ElementDue
first_element_move ArrayEnd = Close
first_element_move k = value_move k

abbrev pub name_move : Class → Move
name_move Blank = To NameDue
name_move Quote = To (InName Inside)
name_move _ = Refuse

abbrev pub first_name_move : Class → Move
first_name_move Blank = To FirstNameDue
first_name_move ObjectEnd = Close
first_name_move k = name_move k

abbrev pub colon_move : Class → Move
colon_move Blank = To ColonDue
colon_move Colon = To ValueDue
colon_move _ = Refuse

-- how far a number is read with one byte more
abbrev pub number_next : Digits → Class → Option Digits
number_next AfterMinus Zero = Some AfterZero
number_next AfterMinus Nonzero = Some InInt
number_next AfterZero Point = Some AfterPoint
number_next AfterZero LetterE = Some AfterE
number_next InInt Zero = Some InInt
number_next InInt Nonzero = Some InInt
number_next InInt Point = Some AfterPoint
number_next InInt LetterE = Some AfterE
number_next AfterPoint Zero = Some InFrac
number_next AfterPoint Nonzero = Some InFrac
number_next InFrac Zero = Some InFrac
number_next InFrac Nonzero = Some InFrac
number_next InFrac LetterE = Some AfterE
number_next AfterE Zero = Some InExp
number_next AfterE Nonzero = Some InExp
number_next AfterE Minus = Some AfterSign
number_next AfterE Plus = Some AfterSign
number_next AfterSign Zero = Some InExp
number_next AfterSign Nonzero = Some InExp
number_next InExp Zero = Some InExp
number_next InExp Nonzero = Some InExp
number_next _ _ = None

abbrev pub may_end_number : Digits → Bool
may_end_number AfterZero = true
may_end_number InInt = true
may_end_number InFrac = true
may_end_number InExp = true
may_end_number _ = false

-- a byte that isn't the number's
abbrev pub behind_number : Bool → Around → Class → Move
behind_number true around k = after_move around k
behind_number false around k = Refuse

abbrev pub digits_move : Option Digits → Digits → Around → Class → Move
digits_move (Some d) from around k = To (InNumber d)
digits_move None from around k = behind_number (may_end_number from) around k

abbrev pub number_move : Digits → Around → Class → Move
number_move d around k = digits_move (number_next d k) d around k

abbrev pub letter_move : Bool → Mode → Move
letter_move true m = To m
letter_move false m = Refuse

abbrev pub word_move : Letters → ℕ → Move
word_move Ull c = letter_move (c == 117) (InWord Ll)
word_move Ll c = letter_move (c == 108) (InWord L)
word_move L c = letter_move (c == 108) Ended
word_move Rue c = letter_move (c == 114) (InWord Ue)
word_move Ue c = letter_move (c == 117) (InWord E)
word_move E c = letter_move (c == 101) Ended
word_move Alse c = letter_move (c == 97) (InWord Lse)
word_move Lse c = letter_move (c == 108) (InWord Se)
word_move Se c = letter_move (c == 115) (InWord E)

abbrev pub to_text : Option Part → Move
to_text None = Refuse
to_text (Some p) = To (InText p)

abbrev pub to_name : Option Part → Move
to_name None = Refuse
to_name (Some p) = To (InName p)

abbrev pub text_move : Part → ℕ → Move
text_move p c = if closes p c then To Ended else to_text (part_next p c)

abbrev pub in_name_move : Part → ℕ → Move
in_name_move p c = if closes p c then To ColonDue else to_name (part_next p c)

-- what a byte does
unfoldable pub step : Mode → Around → ℕ → Move
step ValueDue around c = value_move (class c)
step ElementDue around c = first_element_move (class c)
step NameDue around c = name_move (class c)
step FirstNameDue around c = first_name_move (class c)
step ColonDue around c = colon_move (class c)
step Ended around c = after_move around (class c)
step (InWord w) around c = word_move w c
step (InNumber d) around c = number_move d around (class c)
step (InText p) around c = text_move p c
step (InName p) around c = in_name_move p c

-- ---- a whole text

-- arrays are true
abbrev pub around_of : List Bool → Around
around_of [] = Outside
around_of (true ∷ nest) = InArray
around_of (false ∷ nest) = InObject

abbrev pub may_end_value : Mode → Bool
may_end_value Ended = true
may_end_value (InNumber d) = may_end_number d
may_end_value _ = false

abbrev pub is_outside : List Bool → Bool
is_outside [] = true
is_outside (b ∷ nest) = false

abbrev pub may_end : Mode → List Bool → Bool
may_end m nest = is_outside nest && may_end_value m

abbrev pub behind_close : List Bool → List Bool
behind_close [] = []
behind_close (b ∷ nest) = nest

-- the open brackets from their bits
abbrev pub nest_of : ℕ → ℕ → List Bool
nest_of bits zero = []
nest_of bits (suc depth) = (bits % 2 == 1) ∷ nest_of (bits / 2) depth

-- how a text ends from here on
pub data Verdict : Type 0 where
  accepted : Verdict
  unfit : ℕ → Verdict
  too_deep : ℕ → Verdict

abbrev pub opened : Bool → Verdict → ℕ → Verdict
opened true v at = v
opened false v at = too_deep at

abbrev pub moved : Move → List Bool → ℕ → (Mode → List Bool → Verdict) → Verdict
moved (To m) nest at f = f m nest
moved OpenArray nest at f = opened (nat_lt (length nest) levels) (f ElementDue (true ∷ nest)) at
moved OpenObject nest at f = opened (nat_lt (length nest) levels) (f FirstNameDue (false ∷ nest)) at
moved Close nest at f = f Ended (behind_close nest)
moved Refuse nest at f = unfit at

unfoldable pub verdict : List ℕ → Mode → List Bool → ℕ → Verdict
verdict [] m nest at = if may_end m nest then accepted else unfit at
verdict (c ∷ cs) m nest at = moved (step m (around_of nest) c) nest at (λ n ns. verdict cs n ns (suc at))
