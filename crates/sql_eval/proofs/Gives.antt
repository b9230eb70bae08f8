-- What calls that write their value give.
use Rattle.std.proofs.Common.{◌≡◌, Bool, refl, sym, ◌∙◌, ap}
use Rattle.std.specs.Prelude.{Option, None, Some, Result, Ok, Err}
use Rattle.sql_timestamp.specs.declared.fault.ValueFault.{ValueFault}
use Rattle.sql_value.specs.declared.value.Value.{Value}
use Rattle.sql_value.specs.Outcomes.{Outcome, Wrote}
use Rattle.sql_value.specs.Settled.{settled}
use Rattle.sql_functions.specs.Logic.{truth_of}
use Rattle.sql_eval.specs.Evaluated.{Truth, Gave, condition, as_value}

pub wrote_gives : (o : Outcome) (r : Option ValueFault) (old new : Value) → Wrote o r old new → Gave o r new
wrote_gives o None old new w = w
wrote_gives o (Some fault) old new w = w.0

-- the truth of a truth as a value is that truth
pub condition_of : (t : Truth) → condition (as_value t) ≡ t
unfolding settled truth_of
condition_of (Ok None) = refl
condition_of (Ok (Some b)) = refl
condition_of (Err fault) = refl

-- where a value is a truth, the condition is that truth
pub truth_told : (m : Outcome) (r : Truth) → m ≡ as_value r → r ≡ condition m
truth_told m r e = sym (condition_of r) ∙ ap condition (sym e)
