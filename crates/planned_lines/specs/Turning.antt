-- What a contract sees of a line that is answered.
use Rattle.std.specs.Prelude.{◌≡◌, ℕ, List, length, Option, None, Result, IfOk}
use Rattle.select_ports.specs.declared.outcome.Failed.{Failed}
use Rattle.select_ports.specs.Streams.{AddsAll}
use Rattle.select_reply.specs.declared.outcome.Outcome.{Outcome}
use Rattle.select_reply.specs.Begun.{Begun}
use Rattle.select_reply.specs.Events.{wrapped_frames}
use Rattle.scan_plan.specs.declared.plans.PlanItems.{PlanItems}
use Rattle.sql_totals.specs.Partials.{Partial}
use Rattle.record_stream.specs.Turns.{Turn, after_turn, turn_events, turn_outcome}
use Rattle.planned_lines.specs.LineYields.{aggregates}

-- the turn's events were added, or a front of them; and the reply ended so, or goes on so
pub record Answered (wrap : List ℕ → List ℕ) (old new : Begun) (turn : Turn) (before now : Option (List ℕ)) (result : Result (Option Outcome) Failed) : Type 0 where
  pub bytes : AddsAll before now result (wrapped_frames wrap (turn_events old turn))
  pub outcome : IfOk result (λ outcome. outcome ≡ turn_outcome old turn)
  pub after : IfOk result (λ outcome. outcome ≡ None → new ≡ after_turn old turn)

-- the reply was ended so, or a front of what ends it was added
pub record Ended (wrap : List ℕ → List ℕ) (old : Begun) (turn : Turn) (before now : Option (List ℕ)) (result : Result (Option Outcome) Failed) : Type 0 where
  pub bytes : AddsAll before now result (wrapped_frames wrap (turn_events old turn))
  pub outcome : IfOk result (λ outcome. outcome ≡ turn_outcome old turn)

-- where the reply goes on
abbrev pub GoesOn : Result (Option Outcome) Failed → Type 0 → Type 0
GoesOn result fact = IfOk result (λ outcome. outcome ≡ None → fact)

-- the totals are those of the plan's aggregates
abbrev pub AreOf : PlanItems → List Partial → Type 0
AreOf selected ts = length (aggregates selected) ≡ length ts
