-- A frame that grows keeps its prelude, and ends where its prelude says.
use Rattle.std.proofs.Common.{◌≡◌, ℕ, ◌+◌, ◌-◌, ◌<◌, ◌≤◌, min, List, [], ◌∷◌, ◌++◌, length, take, drop, Bool, true, false, cond, Option, None, Some, ◌⊎◌, inl, inr, refl, sym, ap, ◌∙◌, arith, append_assoc, length-append, length-take}
use Rattle.std.proofs.Math.Seq.{take-add}
use Rattle.std.proofs.lemmas.List.{take-append-drop, take_all, take-append-le, drop-append-le, length-drop}
use Rattle.std.specs.Int.{w32, from_be_bytes}
use Rattle.event_frame.specs.Reading.{number_at, prelude_fault, HasPrelude, IsBegun, IsWhole, IsFaulty}
use Rattle.event_frame.specs.Steps.{Adds, Steps}
use Rattle.event_frame.specs.declared.intake.Step.{Step}
use Rattle.event_frame.specs.declared.intake.Step.TheVariants.{Begun, Whole, Faulty}
use Rattle.event_frame.specs.declared.fault.FrameFaultCode.{FrameFaultCode}
use Rattle.event_frame.specs.declared.fault.FrameFaultCode.TheVariants.{BadPreludeCrc, BadLengths, TooLarge, BadMessageCrc, BadHeader, UnknownEvent}
use Rattle.event_frame.proofs.FrameLaws.{sizes}

-- a number is read from its own four bytes
four-append : (l more : List ℕ) → 4 ≤ length l → from_be_bytes w32 (l ++ more) ≡ from_be_bytes w32 l
four-append [] more h = absurd (omega arith)
four-append (a ∷ []) more h = absurd (omega arith)
four-append (a ∷ b ∷ []) more h = absurd (omega arith)
four-append (a ∷ b ∷ d ∷ []) more h = absurd (omega arith)
four-append (a ∷ b ∷ d ∷ e ∷ l) more h = refl

pub number_at-append : (bytes more : List ℕ) (at : ℕ) → at + 4 ≤ length bytes → number_at (bytes ++ more) at ≡ number_at bytes at
unfolding number_at
number_at-append bytes more at h =
    ap (from_be_bytes w32) (drop-append-le at bytes more (omega arith))
    ∙ four-append (drop at bytes) more (omega (arith, length-drop at bytes))

-- a prelude is checked by its own twelve bytes
pub prelude_fault-append : (bytes more : List ℕ) → 12 ≤ length bytes → prelude_fault (bytes ++ more) ≡ prelude_fault bytes
unfolding prelude_fault
prelude_fault-append bytes more h =
    rw (
      number_at-append bytes more 0 (omega arith),
      number_at-append bytes more 4 (omega arith),
      number_at-append bytes more 8 (omega arith),
      take-append-le 8 bytes more (omega arith),
    ) refl

has_prelude-append : (bytes more : List ℕ) → HasPrelude bytes → HasPrelude (bytes ++ more)
has_prelude-append bytes more p =
    record {
      whole = omega (arith, length-append bytes more, p.whole);
      sound = prelude_fault-append bytes more p.whole ∙ p.sound;
    }

pub total_fits : (bytes : List ℕ) → HasPrelude bytes → number_at bytes 0 ≤ 16777216
total_fits bytes p = (sizes bytes p.sound).most

-- what a begun message is behind a piece
record Grown (old piece new : List ℕ) (total : ℕ) : Type 0 where
  prelude : HasPrelude new
  total_is : total ≡ number_at new 0
  size : length new ≡ length old + min (total - length old) (length piece)

grown : (old piece new : List ℕ) (total : ℕ) → HasPrelude old → total ≡ number_at old 0
    → new ≡ old ++ take (min (total - length old) (length piece)) piece → Grown old piece new total
grown old piece new total p total_is joined =
    let more : List ℕ = take (min (total - length old) (length piece)) piece in
    record {
      prelude = rw joined (has_prelude-append old more p);
      total_is = total_is ∙ sym (number_at-append old more 0 (omega (arith, p.whole))) ∙ ap (λ (l : List ℕ). number_at l 0) (sym joined);
      size = ap length joined ∙ length-append old more
          ∙ ap (λ n. length old + n) (length-take (min (total - length old) (length piece)) piece ∙ omega arith);
    }

pub begun_more : (old piece new : List ℕ) (total : ℕ) → HasPrelude old → length old < number_at old 0 → total ≡ number_at old 0
    → new ≡ old ++ take (min (total - length old) (length piece)) piece → length new < total → (new ≡ old ++ piece) × IsBegun new
begun_more old piece new total p begun total_is joined short =
    let g : Grown old piece new total = grown old piece new total p total_is joined in
    let all : min (total - length old) (length piece) ≡ length piece = omega (arith, g.size) in (
      joined ∙ ap (λ n. old ++ take n piece) all ∙ ap (λ (l : List ℕ). old ++ l) (take_all (length piece) piece (omega arith)),
      inr (g.prelude, omega (arith, g.total_is)),
    )

pub whole_now : (old piece new : List ℕ) (total : ℕ) → HasPrelude old → length old < number_at old 0 → total ≡ number_at old 0
    → new ≡ old ++ take (min (total - length old) (length piece)) piece → total ≤ length new → IsWhole new
whole_now old piece new total p begun total_is joined enough =
    let g : Grown old piece new total = grown old piece new total p total_is joined in
    record { prelude = g.prelude; size = omega (arith, g.size, g.total_is) }

-- the faults of a prelude
code_in : Option (FrameFaultCode × ℕ) → FrameFaultCode
code_in None = UnknownEvent
code_in (Some f) = f.0

origin : (a b d : Bool) (code : FrameFaultCode) (place : ℕ)
    → cond {A = Option (FrameFaultCode × ℕ)} a (Some (BadPreludeCrc, 8)) (cond {A = Option (FrameFaultCode × ℕ)} b (Some (BadLengths, 0)) (cond {A = Option (FrameFaultCode × ℕ)} d (Some (TooLarge, 0)) None)) ≡ Some (code, place)
    → (BadPreludeCrc ≡ code) ⊎ ((BadLengths ≡ code) ⊎ (TooLarge ≡ code))
unfolding code_in
origin true b d code place e = inl (ap code_in e)
origin false true d code place e = inr (inl (ap code_in e))
origin false false true code place e = inr (inr (ap code_in e))
origin false false false code place e = absurd (cc)

not_of_prelude : (code : FrameFaultCode) → (BadPreludeCrc ≡ code → ⊥) → (BadLengths ≡ code → ⊥) → (TooLarge ≡ code → ⊥)
    → (BadPreludeCrc ≡ code) ⊎ ((BadLengths ≡ code) ⊎ (TooLarge ≡ code)) → ⊥
not_of_prelude code a b d (inl e) = a e
not_of_prelude code a b d (inr (inl e)) = b e
not_of_prelude code a b d (inr (inr e)) = d e

pub prelude_faulty : (bytes : List ℕ) (code : FrameFaultCode) (place : ℕ) → length bytes ≡ 12 → prelude_fault bytes ≡ Some (code, place)
    → IsFaulty bytes code place
unfolding prelude_fault
prelude_faulty bytes BadPreludeCrc place h e = (h, e)
prelude_faulty bytes BadLengths place h e = (h, e)
prelude_faulty bytes TooLarge place h e = (h, e)
prelude_faulty bytes BadMessageCrc place h e = absurd (not_of_prelude BadMessageCrc (λ x. cc) (λ x. cc) (λ x. cc) (origin _ _ _ BadMessageCrc place e))
prelude_faulty bytes BadHeader place h e = absurd (not_of_prelude BadHeader (λ x. cc) (λ x. cc) (λ x. cc) (origin _ _ _ BadHeader place e))
prelude_faulty bytes UnknownEvent place h e = absurd (not_of_prelude UnknownEvent (λ x. cc) (λ x. cc) (λ x. cc) (origin _ _ _ UnknownEvent place e))

pub short_of_total : (bytes : List ℕ) → length bytes ≡ 12 → prelude_fault bytes ≡ None → length bytes < number_at bytes 0
short_of_total bytes h e = omega (arith, (sizes bytes e).least)

-- bytes added behind the first bytes of a piece
adds_after : (old piece mid rest new : List ℕ) (n : ℕ) → n ≤ length piece → mid ≡ old ++ take n piece → rest ≡ drop n piece
    → Adds mid rest new → Adds old piece new
adds_after old piece mid rest new n within first behind a =
    record {
      count = n + a.count;
      within = (let size : length rest ≡ length piece - n = ap length behind ∙ length-drop n piece in omega (arith, a.within));
      joined = a.joined ∙ ap (λ (l : List ℕ). l ++ take a.count rest) first
          ∙ ap (λ (l : List ℕ). old ++ take n piece ++ take a.count l) behind
          ∙ append_assoc old (take n piece) (take a.count (drop n piece))
          ∙ ap (λ (l : List ℕ). old ++ l) (sym (take-add n a.count piece));
    }

-- a step behind the first bytes of a piece is a step behind the piece
pub steps_after : (old piece mid rest new : List ℕ) (n : ℕ) (step : Step) → n ≤ length piece → mid ≡ old ++ take n piece → rest ≡ drop n piece
    → Steps mid rest new step → Steps old piece new step
steps_after old piece mid rest new n Begun within first behind s = (
  s.0 ∙ ap (λ (l : List ℕ). l ++ rest) first ∙ ap (λ (l : List ℕ). old ++ take n piece ++ l) behind
      ∙ append_assoc old (take n piece) (drop n piece) ∙ ap (λ (l : List ℕ). old ++ l) (take-append-drop n piece),
  s.1,
)
steps_after old piece mid rest new n Whole within first behind s = (adds_after old piece mid rest new n within first behind s.0, s.1)
steps_after old piece mid rest new n (Faulty code place) within first behind s =
    (adds_after old piece mid rest new n within first behind s.0, s.1, s.2)
