-- A reply in full, and while it grows record by record.
use Rattle.std.specs.Prelude.{◌≡◌, ℕ, ◌*◌, ◌-◌, ◌^◌, ◌<◌, Bool, false, true, List, [], ◌∷◌, ◌++◌, length, Option, None, Some}
use Rattle.event_frame.specs.Event.{Event}
use Rattle.select_reply.specs.declared.code.Code.{Code}
use Rattle.select_reply.specs.declared.outcome.Outcome.{Outcome}
use Rattle.select_reply.specs.declared.outcome.Outcome.TheVariants.{Done, Faulted}
use Rattle.select_reply.specs.Pieces.{piece, whole_pieces, remainder}
use Rattle.select_reply.specs.Yields.{Yielded, outputs, output, total_len, fault}
use Rattle.select_reply.specs.Answers.{is_answered, processed}
use Rattle.select_reply.specs.Events.{counts, whole_events, answer_events}
use Rattle.select_reply.specs.Begun.{Begun, begun_counts}
use Rattle.select_reply.specs.Turns.{after_record, record_events, record_outcome, end_events}

-- how the reply over the processed records ends
abbrev pub ending_of : List Yielded → Option (Code × ℕ) → Outcome
ending_of done None = Done (counts (total_len done) (length (output done)))
ending_of done (Some fault) = Faulted fault.0 fault.1

abbrev pub outcome_of : List Yielded → Outcome
outcome_of done = ending_of done (fault done)

-- the counts of the records fit 128 bits
pub record CountsFit (done : List Yielded) : Type 0 where
  pub scanned : total_len done < 2 ^ 128
  pub returned : length (output done) < 2 ^ 128

-- how many outputs the limit allows behind these records
abbrev pub left_of : Option ℕ → List Yielded → Option ℕ
left_of None done = None
left_of (Some limit) done = Some (limit - outputs done)

-- the reply after these records
abbrev pub begun_after : Bool → Option ℕ → List Yielded → Begun
begun_after progress limit done = record {
  pending = remainder (output done);
  cut = length (whole_pieces (output done)) * piece;
  scanned = total_len done;
  progress = progress;
  left = left_of limit done;
}

-- one more record, behind which the reply goes on: its events are those of the whole pieces that it completes
pub record StepsOn (progress : Bool) (limit : Option ℕ) (done : List Yielded) (y : Yielded) : Type 0 where
  pub outcome : record_outcome (begun_after progress limit done) y ≡ None
  pub after : after_record (begun_after progress limit done) y ≡ begun_after progress limit (done ++ y ∷ [])
  pub events : whole_events progress (done ++ y ∷ []) ≡ whole_events progress done ++ record_events (begun_after progress limit done) y

-- one more record, with which the reply ends, whatever comes behind it
pub record StepsOut (progress : Bool) (limit : Option ℕ) (done : List Yielded) (y : Yielded) (rest : List Yielded) : Type 0 where
  pub outcome : record_outcome (begun_after progress limit done) y ≡ Some (outcome_of (processed limit (done ++ y ∷ rest)))
  pub events : answer_events progress (processed limit (done ++ y ∷ rest)) ≡ whole_events progress done ++ record_events (begun_after progress limit done) y

-- no more records
pub record Stops (progress : Bool) (limit : Option ℕ) (done : List Yielded) : Type 0 where
  pub outcome : outcome_of (processed limit done) ≡ Done (begun_counts (begun_after progress limit done))
  pub events : answer_events progress (processed limit done) ≡ whole_events progress done ++ end_events (begun_after progress limit done)

-- the answer goes on with a front of the records that are left, and begins with the whole pieces of those so far
pub record Begins (progress : Bool) (limit : Option ℕ) (done rest : List Yielded) : Type 0 where
  pub answered : List Yielded
  pub unanswered : List Yielded
  pub split : rest ≡ answered ++ unanswered
  pub goes_on : processed limit (done ++ rest) ≡ done ++ answered
  pub more : List Event
  pub events : answer_events progress (processed limit (done ++ rest)) ≡ whole_events progress done ++ more

-- ---- the laws, of records that don't answer the query yet

abbrev pub EachStepsOn : Type 0
EachStepsOn = (progress : Bool) (limit : Option ℕ) (done : List Yielded) (y : Yielded)
    → is_answered limit (done ++ y ∷ []) ≡ false → CountsFit (done ++ y ∷ []) → StepsOn progress limit done y

abbrev pub EachStepsOut : Type 0
EachStepsOut = (progress : Bool) (limit : Option ℕ) (done : List Yielded) (y : Yielded) (rest : List Yielded)
    → is_answered limit done ≡ false → is_answered limit (done ++ y ∷ []) ≡ true → CountsFit (done ++ y ∷ []) → StepsOut progress limit done y rest

abbrev pub EachStops : Type 0
EachStops = (progress : Bool) (limit : Option ℕ) (done : List Yielded)
    → is_answered limit done ≡ false → CountsFit done → Stops progress limit done

abbrev pub EachBegins : Type 0
EachBegins = (progress : Bool) (limit : Option ℕ) (done rest : List Yielded) → is_answered limit done ≡ false → Begins progress limit done rest

-- more records leave the whole pieces of the first ones, and the Progress events behind these, as they are
pub record Extends (progress : Bool) (done rest : List Yielded) : Type 0 where
  pub more : List Event
  pub events : whole_events progress (done ++ rest) ≡ whole_events progress done ++ more

abbrev pub EachExtends : Type 0
EachExtends = (progress : Bool) (done rest : List Yielded) → Extends progress done rest
