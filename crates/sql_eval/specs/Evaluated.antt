-- What evaluating answers: a value or a fault; and the truth of a condition or a fault.
use Rattle.std.specs.Prelude.{◌≡◌, Bool, Option, None, Some, Result, Ok, Err}
use Rattle.sql_timestamp.specs.declared.fault.ValueFault.{ValueFault}
use Rattle.sql_value.specs.declared.value.Value.{Value}
use Rattle.sql_value.specs.Outcomes.{Outcome}
use Rattle.sql_value.specs.Settled.{settled}
use Rattle.sql_functions.specs.Logic.{truth_of, truth_value}

-- the truth of a condition, where unknown is none, or a fault
abbrev pub Truth : Type 0
Truth = Result (Option Bool) ValueFault

-- a fault that is met ends it
abbrev pub and_then : {A B : Type 0} → Result A ValueFault → (A → Result B ValueFault) → Result B ValueFault
and_then (Ok a) next = next a
and_then (Err fault) next = Err fault

-- an operand is settled when it is evaluated, and a Bad one is its fault
abbrev pub settling : Outcome → Outcome
settling o = and_then o settled

-- a condition: NULL and MISSING are unknown, and a value of another kind than Bool is InvalidOperands
abbrev pub condition : Outcome → Truth
condition o = and_then (settling o) truth_of

-- a truth as a value; unknown as a value is NULL
abbrev pub as_value : Truth → Outcome
as_value (Ok t) = Ok (truth_value t)
as_value (Err fault) = Err fault

-- what a call answers that writes the value: no fault, and the value is the outcome's; or the outcome's fault
abbrev pub Gave : Outcome → Option ValueFault → Value → Type 0
Gave outcome None new = outcome ≡ Ok new
Gave outcome (Some fault) new = outcome ≡ Err fault
