-- What the functions of the small grammar's parser answer, seen as outcomes and as answers.
use Rattle.std.specs.Prelude.{◌≡◌, ◌≢◌, ℕ, List, ◌∷◌, false, Option, Some, None, Result, Ok, Err}
use Rattle.grammar_rules.specs.declared.worked.arithmetic.Token.{Token}
use Rattle.grammar_rules.specs.declared.worked.arithmetic.Token.TheVariants.{Number, Name}
use Rattle.grammar_rules.specs.declared.worked.arithmetic.Expression.{Expression}
use Rattle.grammar_rules.specs.declared.worked.arithmetic.Failure.{Failure}
use Rattle.grammar_rules.specs.declared.worked.arithmetic.Failure.TheVariants.{Refused, Deep, Memory}
use Rattle.grammar_rules.specs.declared.worked.arithmetic.ParseError.{ParseError}
use Rattle.grammar_rules.specs.declared.worked.arithmetic.ParseError.TheVariants.{Syntax, TooDeep, OutOfMemory}
use Rattle.grammar_rules.specs.Readers.{Outcome, found, failed, starts, is_seen}
use Rattle.grammar_rules.specs.Places.{Answer, value, refusal}
use Rattle.grammar_rules.specs.WorkedExpressions.{Limit, too_deep, number, name}

-- the fault that a failure tells
abbrev pub fault_of : Failure → Option Limit
fault_of Refused = None
fault_of Deep = Some too_deep
fault_of Memory = None

-- the result is that outcome, with what is left, but for want of memory
abbrev pub Gives : {A : Type 0} → Outcome Token Limit A → Result A Failure → List Token → Type 0
Gives outcome (Ok a) left = outcome ≡ found a left
Gives outcome (Err e) left = e ≢ Memory → outcome ≡ failed (fault_of e) left

-- the error that a failure at this place is
abbrev pub error_of : Failure → ℕ → ParseError
error_of Refused at = Syntax at
error_of Deep at = TooDeep at
error_of Memory at = OutOfMemory

-- the answer that a result is, but for want of memory
abbrev pub answer_of : Result Expression ParseError → Option (Answer Limit Expression)
answer_of (Ok e) = Some (value e)
answer_of (Err (Syntax at)) = Some (refusal None at)
answer_of (Err (TooDeep at)) = Some (refusal (Some too_deep) at)
answer_of (Err OutOfMemory) = None

-- a number at the front is passed, or none stands there and nothing is
abbrev pub TakesNumber : List Token → Option ℕ → List Token → Type 0
TakesNumber before (Some n) after = before ≡ Number n ∷ after
TakesNumber before None after = (starts (λ t. is_seen (number t)) before ≡ false) × (after ≡ before)

-- a name at the front is passed, or none stands there and nothing is
abbrev pub TakesName : List Token → Option ℕ → List Token → Type 0
TakesName before (Some n) after = before ≡ Name n ∷ after
TakesName before None after = (starts (λ t. is_seen (name t)) before ≡ false) × (after ≡ before)
