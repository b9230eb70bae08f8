-- What the answers of a window's `next` say of the object.
use Rattle.std.specs.Prelude.{◌≡◌, ℕ, ◌+◌, ◌-◌, ◌<◌, ◌≤◌, max, true, false, List, [], ◌∷◌, length, Result, Ok, Err, IsErr, is_err}
use Rattle.select_ports.specs.declared.outcome.Failed.{Failed}
use Rattle.select_ports.specs.Stored.{Opened}
use Rattle.line_window.specs.declared.line.Line.{Line}
use Rattle.line_window.specs.declared.line.Line.TheVariants.{At, TooLong, End}
use Rattle.line_window.specs.Cuts.{Cut, content}
use Rattle.line_window.specs.Sliding.{View, left, Tells, Holds, IsSound, SameRules, Took}

-- the cut is lent: its content and its whole length
pub record IsLent (longest : ℕ) (cut : Cut) (lent : List ℕ) (len : ℕ) : Type 0 where
  pub short : length cut.body ≤ longest
  pub bytes : lent ≡ content cut
  pub whole : len ≡ cut.whole

-- what is lent of a line is no longer than the record limit
abbrev pub IsWithin : ℕ → Line → Type 0
IsWithin longest (At start bytes whole) = length bytes.now ≤ longest
IsWithin longest (TooLong start) = Unit {0}
IsWithin longest End = Unit {0}

-- the answer shows this cut: `TooLong` exactly where its body passes the limit
abbrev pub ShowsCut : ℕ → Cut → Line → Type 0
ShowsCut longest cut (At start bytes whole) = (start ≡ cut.start) × IsLent longest cut bytes.now whole
ShowsCut longest cut (TooLong start) = (start ≡ cut.start) × (longest < length cut.body)
ShowsCut longest cut End = ⊥

-- the answer shows the first of the cuts that were left, and those behind it are left now
pub record ShowsFirst (longest : ℕ) (before after : List Cut) (line : Line) : Type 0 where
  pub cut : Cut
  pub first : before ≡ cut ∷ after
  pub shown : ShowsCut longest cut line

-- The next of the cuts that are left: the first of them, or `End` where none is. Whatever cuts an object into records answers so.
abbrev pub IsNextCut : ℕ → List Cut → List Cut → Line → Type 0
IsNextCut longest before after (At start bytes whole) = ShowsFirst longest before after (At start bytes whole)
IsNextCut longest before after (TooLong start) = ShowsFirst longest before after (TooLong start)
IsNextCut longest before after End = (before ≡ []) × (after ≡ [])

-- a failure leaves the cuts that were left
abbrev pub IsNext : ℕ → List Cut → List Cut → Result Line Failed → Type 0
IsNext longest before after (Ok line) = IsNextCut longest before after line
IsNext longest before after (Err failed) = after ≡ before

-- nothing is left of the range
abbrev pub IsDone : View → Type 0
IsDone v = v.stop ≤ v.place

-- a line moves the window's place on; `End` comes at the end of the range, and stays
abbrev pub Ends : View → View → Result Line Failed → Type 0
Ends old new (Ok (At start bytes whole)) = (old.place < old.stop) × (old.place < new.place)
Ends old new (Ok (TooLong start)) = (old.place < old.stop) × (old.place < new.place)
Ends old new (Ok End) = IsDone new
Ends old new (Err failed) = new.failed ≡ true

-- what `next` makes of a window over the open object, whose count of bytes read goes from `before` to `now`
pub record Turns (opened : Opened) (old new : View) (result : Result Line Failed) (before now : ℕ) : Type 0 where
  pub sound : IsSound new
  pub rules : SameRules old new
  pub forward : old.upto ≤ new.upto
  pub onwards : old.place ≤ new.place
  pub taken : Took (new.upto - old.upto) before now
  pub near : new.upto ≤ max old.upto (old.stop + old.longest + 65536)
  pub failed : new.failed ≡ is_err result
  pub stays_failed : old.failed ≡ true → IsErr result × (new ≡ old)
  pub ends : Ends old new result
  pub stays_done : IsDone old → old.failed ≡ false → (result ≡ Ok End) × (new ≡ old)
  pub told : (object : List ℕ) → Tells opened object → Holds object old → Holds object new × IsNext old.longest (left object old) (left object new) result
