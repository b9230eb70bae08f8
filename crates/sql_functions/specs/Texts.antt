-- Functions of texts, which are lists of characters.
use Rattle.std.specs.Prelude.{ℕ, suc, ℤ, pos, ◌+ℤ◌, int_le, int_lt, Bool, ◌&&◌, List, [], ◌∷◌, length, map, Option, None, Some, Result, Ok, Err, if◌then◌else◌}
use Rattle.std.specs.Char.{to_ascii_uppercase, to_ascii_lowercase}
use Rattle.text_view.specs.declared.like.Part.{Part}
use Rattle.text_view.specs.Finding.{like}
use Rattle.text_view.specs.Trimmed.{trimmed}
use Rattle.text_view.specs.declared.view.Side.{Side}
use Rattle.sql_timestamp.specs.declared.fault.ValueFault.{ValueFault}
use Rattle.sql_value.specs.declared.value.Value.{Value}
use Rattle.sql_value.specs.declared.value.Value.TheVariants.{Int, Text}
use Rattle.sql_value.specs.Outcomes.{Outcome}
use Rattle.sql_functions.specs.declared.operands.Operand.{Operand}
use Rattle.sql_functions.specs.declared.operands.Operand.TheVariants.{Null, There, Fault}
use Rattle.sql_functions.specs.Operands.{text_operand, int_operand, count_operand, joined, given}

-- what LIKE says of a text operand
abbrev pub liked : List Part → Operand (List ℕ) → Result (Option Bool) ValueFault
liked parts Null = Ok None
liked parts (There t) = Ok (Some (like parts t))
liked parts (Fault fault) = Err fault

-- LIKE
unfoldable pub like_truth : List Part → Value → Result (Option Bool) ValueFault
like_truth parts v = liked parts (text_operand v)

-- CHAR_LENGTH
unfoldable pub char_length_of : Value → Outcome
char_length_of v = given (text_operand v) (λ t. Ok (Int (pos (length t))))

-- LOWER and UPPER, of ASCII letters
unfoldable pub lower_of : Value → Outcome
lower_of v = given (text_operand v) (λ t. Ok (Text (map to_ascii_lowercase t)))

unfoldable pub upper_of : Value → Outcome
upper_of v = given (text_operand v) (λ t. Ok (Text (map to_ascii_uppercase t)))

-- the characters at the positions that pass, where the first has the position p
abbrev pub kept_at : (ℕ → Bool) → ℕ → List ℕ → List ℕ
kept_at test p [] = []
kept_at test p (c ∷ cs) = if test p then c ∷ kept_at test (suc p) cs else kept_at test (suc p) cs

-- the characters at the positions p with s at most p
unfoldable pub from_position : ℤ → List ℕ → List ℕ
from_position s text = kept_at (λ p. int_le s (pos p)) 1 text

-- the characters at the positions p with s at most p and p below s + n
unfoldable pub positions_from : ℤ → ℤ → List ℕ → List ℕ
positions_from s n text = kept_at (λ p. int_le s (pos p) && int_lt (pos p) (s +ℤ n)) 1 text

-- SUBSTRING from s
unfoldable pub substring_from_of : Value → Value → Outcome
substring_from_of text start =
    given (joined (text_operand text) (int_operand start)) (λ p. Ok (Text (from_position p.1 p.0)))

-- SUBSTRING from s for n
unfoldable pub substring_of : Value → Value → Value → Outcome
substring_of text start count =
    given (joined (text_operand text) (joined (int_operand start) (count_operand count)))
    (λ p. Ok (Text (positions_from p.1.0 p.1.1 p.0)))

-- TRIM of a set of characters
unfoldable pub trim_set_of : Side → Value → Value → Outcome
trim_set_of side set text =
    given (joined (text_operand set) (text_operand text)) (λ p. Ok (Text (trimmed side p.0 p.1)))

-- TRIM of spaces
unfoldable pub trim_of : Side → Value → Outcome
trim_of side text = given (text_operand text) (λ t. Ok (Text (trimmed side (32 ∷ []) t)))
