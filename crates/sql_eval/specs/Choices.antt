-- CASE, COALESCE and NULLIF (S3 Select reference, conditional functions).
use Rattle.std.specs.Prelude.{◌≡◌, Bool, true, false, List, [], ◌∷◌, Option, None, Some, Result, Ok, Err, if◌then◌else◌}
use Rattle.std.specs.Borrow.{Bor}
use Rattle.sql_timestamp.specs.declared.fault.ValueFault.{ValueFault}
use Rattle.sql_value.specs.declared.value.Value.{Value}
use Rattle.sql_value.specs.declared.value.Value.TheVariants as value
use Rattle.sql_value.specs.Outcomes.{Outcome}
use Rattle.sql_value.specs.Compared.{order_of}
use Rattle.sql_value.specs.Settled.{is_null_value}
use Rattle.sql_functions.specs.Logic.{is_equal}
use Rattle.sql_eval.specs.Evaluated.{Truth, and_then, settling, condition}
use Rattle.sql_eval.specs.declared.evaluate.Chosen.{Chosen}
use Rattle.sql_eval.specs.declared.evaluate.Chosen.TheVariants.{NoArm, Written, Fault}
use Rattle.sql_eval.specs.Logic.{is_true, equals}

-- what WHEN and THEN of an arm mean
pub record WhenThen : Type 0 where
  pub when : Outcome
  pub answer : Outcome

-- An arm: a fault of its WHEN ends it, its THEN is the answer where the WHEN is true, and else the rest is.
abbrev pub arm_step : Truth → Outcome → Option Outcome → Option Outcome
arm_step (Err fault) answer rest = Some (Err fault)
arm_step (Ok t) answer rest = if is_true t then Some answer else rest

-- what the arms give, from the left, where one of them does
abbrev pub chosen : (Outcome → Truth) → List WhenThen → Option Outcome
chosen judge [] = None
chosen judge (a ∷ arms) = arm_step (judge a.when) a.answer (chosen judge arms)

abbrev pub or_else : Option Outcome → Outcome → Outcome
or_else None otherwise = otherwise
or_else (Some o) otherwise = o

-- without an ELSE it is NULL
abbrev pub or_null : Option Outcome → Outcome
or_null None = Ok value.Null
or_null (Some o) = o

-- CASE evaluates its operand first, where it has one, and compares each WHEN with it; else each WHEN is a condition.
abbrev pub case : Option Outcome → List WhenThen → Option Outcome → Outcome
case None arms otherwise = or_else (chosen condition arms) (or_null otherwise)
case (Some o) arms otherwise = and_then (settling o) (λ x. or_else (chosen (equals x) arms) (or_null otherwise))

-- ---- what a walk over arms or members answers

-- a condition, or being equal to an operand
abbrev pub judged_by : Option (Bor Value) → Outcome → Truth
judged_by None = condition
judged_by (Some operand) = equals operand.now

-- no arm was chosen; or the chosen one's value was written; or a fault was met
abbrev pub IsChosen : Option Outcome → Chosen → Value → Type 0
IsChosen o NoArm new = o ≡ None
IsChosen o Written new = o ≡ Some (Ok new)
IsChosen o (Fault fault) new = o ≡ Some (Err fault)

-- ---- COALESCE and NULLIF

-- the value, where it isn't NULL, MISSING or a JSON null
abbrev pub there_or : Value → Outcome → Outcome
there_or v rest = if is_null_value v then rest else Ok v

abbrev pub coalesce_step : Outcome → Outcome → Outcome
coalesce_step (Err fault) rest = Err fault
coalesce_step (Ok v) rest = there_or v rest

-- COALESCE: the first argument that is there, and no one behind it is evaluated; without one, NULL
abbrev pub coalesce : List Outcome → Outcome
coalesce [] = Ok value.Null
coalesce (o ∷ os) = coalesce_step o (coalesce os)

abbrev pub unless_equal : Option Bool → Value → Value
unless_equal t v = if is_true t then value.Null else v

-- NULLIF: NULL where a = b is true, else a, which isn't settled
abbrev pub null_if : Outcome → Outcome → Outcome
null_if a b = and_then a (λ v. and_then (settling (Ok v)) (λ x. and_then (settling b) (λ y. Ok (unless_equal (is_equal (order_of x y)) v))))
