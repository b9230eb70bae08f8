-- What a reply over the records of an open object writes.
use Rattle.std.specs.Prelude.{◌≡◌, ℕ, ◌+◌, ◌*◌, nat_le, Bool, List, take_while, Option, Result, MatchResult}
use Rattle.std.specs.Io.KnownBytes.{Appends}
use Rattle.select_ports.specs.Causes.{Rose}
use Rattle.select_ports.specs.Streams.{IsFront, AppendsFront}
use Rattle.event_frame.specs.Event.{Event}
use Rattle.select_reply.specs.declared.outcome.Outcome.{Outcome}
use Rattle.select_reply.specs.Pieces.{piece}
use Rattle.select_reply.specs.Yields.{Yielded}
use Rattle.select_reply.specs.Events.{whole_events, answer_events, wrapped_frames}
use Rattle.select_reply.specs.Replies.{outcome_of}
use Rattle.record_stream.specs.declared.outcome.StreamError.{StreamError}
use Rattle.record_stream.specs.declared.outcome.StreamError.TheVariants.{StoreFault, WriteFault}

-- the frames of the answer over these processed records, each in its wrapping; with Progress events where they were asked for
abbrev pub answer_frames : (List ℕ → List ℕ) → Bool → List Yielded → List ℕ
answer_frames wrap progress done = wrapped_frames wrap (answer_events progress done)

-- the frames of these events, each in its wrapping, were written whole, and the reply ended so; or a front of them was written
abbrev pub WritesReply : {E : Type 0} → (List ℕ → List ℕ) → List Event → Outcome → Option (List ℕ) → Option (List ℕ)
    → Result Outcome E → Type 0
WritesReply wrap es ended before now result =
    MatchResult result (λ outcome. Appends before now (wrapped_frames wrap es) × (outcome ≡ ended))
    (λ _. AppendsFront before now (wrapped_frames wrap es))

-- the reply is the answer over the processed records
abbrev pub Answers : {E : Type 0} → (List ℕ → List ℕ) → Bool → List Yielded → Option (List ℕ) → Option (List ℕ) → Result Outcome E → Type 0
Answers wrap progress done before now result = WritesReply wrap (answer_events progress done) (outcome_of done) before now result

-- the frames of the whole pieces of the records' output, each with its Progress event where these were asked for
abbrev pub whole_frames : (List ℕ → List ℕ) → Bool → List Yielded → List ℕ
whole_frames wrap progress done = wrapped_frames wrap (whole_events progress done)

-- the records that end before a place up to which the object was read, but for twice the record limit and five pieces; records
-- stand in ascending order
abbrev pub early : ℕ → ℕ → List Yielded → List Yielded
early longest upto done = take_while (λ y. nat_le (y.start + y.len + (2 * longest + 5 * piece)) upto) done

-- the whole pieces that the output of the early records reaches have been written
pub record WroteEarly (wrap : List ℕ → List ℕ) (progress : Bool) (longest upto : ℕ) (done : List Yielded)
    (before now : Option (List ℕ)) : Type 0 where
  pub bytes : List ℕ
  pub written : Appends before now bytes
  pub front : IsFront (whole_frames wrap progress (early longest upto done)) bytes

-- a failure has its cause: the store's or the output's count of faults rose
abbrev pub HasStreamCause : ℕ → ℕ → ℕ → ℕ → StreamError → Type 0
HasStreamCause store_before store_now out_before out_now StoreFault = Rose store_before store_now
HasStreamCause store_before store_now out_before out_now WriteFault = Rose out_before out_now
