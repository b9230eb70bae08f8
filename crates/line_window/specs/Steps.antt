-- What the window's own steps do: reading on, passing to the next start, and finding the end of a line.
use Rattle.std.specs.Prelude.{◌≡◌, ℕ, ◌+◌, ◌-◌, ◌<◌, ◌≤◌, max, Bool, true, false, List, ◌++◌, length, Option, None, Some, Result, Ok, Err, IfOk, IsErr, is_err}
use Rattle.select_ports.specs.declared.outcome.Failed.{Failed}
use Rattle.select_ports.specs.Stored.{Opened}
use Rattle.line_window.specs.declared.window.Sight.{Sight}
use Rattle.line_window.specs.declared.window.Sight.TheVariants.{Start, More, Past}
use Rattle.line_window.specs.declared.window.Body.{Body}
use Rattle.line_window.specs.declared.window.Scan.{Scan}
use Rattle.line_window.specs.declared.window.Scan.TheVariants.{Found, Unended}
use Rattle.line_window.specs.declared.line.Line.{Line}
use Rattle.line_window.specs.declared.line.Line.TheVariants.{At, TooLong, End}
use Rattle.line_window.specs.Starts.{is_start}
use Rattle.line_window.specs.Cuts.{cuts}
use Rattle.line_window.specs.Delimiters.{StandsAt, HasNone}
use Rattle.line_window.specs.Sliding.{View, ahead, left, Tells, Holds, IsSound, SameRules, Took}
use Rattle.line_window.specs.Answers.{IsDone}

-- a piece was read and is kept too
pub record Grows (old new : View) : Type 0 where
  pub sound : IsSound new
  pub rules : SameRules old new
  pub place : new.place ≡ old.place
  pub piece : List ℕ
  pub kept : new.kept ≡ old.kept ++ piece
  pub upto : new.upto ≡ old.upto + length piece

-- the window's place is in the range, and has been read up to
pub record IsNear (v : View) : Type 0 where
  pub range : v.place < v.stop
  pub read : v.place ≤ v.upto

-- what was seen on the way to the next start: one is at the window's place, all that was read has none, or the range is past
abbrev pub Shows : Sight → View → Type 0
Shows Start v = IsNear v
Shows More v = (v.upto < v.place) × (v.place < v.stop) × (length v.kept ≤ 2)
Shows Past v = v.stop ≤ v.place

-- a step towards the next start, in the bytes that are kept
pub record Skips (old new : View) (sight : Sight) : Type 0 where
  pub sound : IsSound new
  pub rules : SameRules old new
  pub upto : new.upto ≡ old.upto
  pub onwards : old.place ≤ new.place
  pub failed : new.failed ≡ old.failed
  pub shown : Shows sight new
  pub past : old.stop ≤ old.place → (sight ≡ Past) × (new ≡ old)
  pub told : (object : List ℕ) → Holds object old → Holds object new × (left object new ≡ left object old)
  pub starts : (object : List ℕ) → Holds object old → sight ≡ Start → is_start new.delimiter object new.place ≡ true

-- whether a start was reached within the range
abbrev pub Reached : Bool → View → Type 0
Reached true v = IsNear v
Reached false v = v.stop ≤ v.place

-- on the way to the next start, after some pieces
pub record Going (opened : Opened) (old now : View) (before after : ℕ) : Type 0 where
  pub rules : SameRules old now
  pub forward : old.upto ≤ now.upto
  pub onwards : old.place ≤ now.place
  pub taken : Took (now.upto - old.upto) before after
  pub near : now.upto ≤ max old.upto (old.stop + 65536)
  pub failed : now.failed ≡ false
  pub past : old.stop ≤ old.place → now ≡ old
  pub told : (object : List ℕ) → Tells opened object → Holds object old → Holds object now × (left object now ≡ left object old)

-- the way to the next start, reading as far as that needs
pub record Goes (opened : Opened) (old new : View) (result : Result Bool Failed) (before now : ℕ) : Type 0 where
  pub sound : IsSound new
  pub rules : SameRules old new
  pub forward : old.upto ≤ new.upto
  pub onwards : old.place ≤ new.place
  pub taken : Took (new.upto - old.upto) before now
  pub near : new.upto ≤ max old.upto (old.stop + 65536)
  pub failed : new.failed ≡ is_err result
  pub shown : IfOk result (λ found. Reached found new)
  pub past : old.stop ≤ old.place → (result ≡ Ok false) × (new ≡ old)
  pub told : (object : List ℕ) → Tells opened object → Holds object old → Holds object new × (left object new ≡ left object old)
  pub starts : (object : List ℕ) → Tells opened object → Holds object old → result ≡ Ok true → is_start new.delimiter object new.place ≡ true

-- the body of the line ahead: up to the delimiter, or as far as was read, which is the object's end or past the record limit
pub record IsBody (v : View) (b : Body) : Type 0 where
  pub clear : HasNone v.delimiter (ahead v) b.len
  pub ended : 0 < b.behind → (b.behind ≡ length v.delimiter) × StandsAt v.delimiter (ahead v) b.len
  pub open_ : b.behind ≡ 0 → (b.len ≡ length (ahead v)) × (b.len < v.longest + length v.delimiter → v.upto ≡ v.size)

-- the line's body was found, or the bytes ahead hold no delimiter and more are to be read
abbrev pub IsScanned : View → Scan → Type 0
IsScanned v (Found b) = IsBody v b
IsScanned v (Unended n) =
    (n ≡ length (ahead v) + 1 - length v.delimiter) × (length (ahead v) < v.longest + length v.delimiter) × (v.upto < v.size)
    × (length v.kept ≤ v.longest + 3) × HasNone v.delimiter (ahead v) (length (ahead v))

-- on the way to the end of the line ahead, after some pieces
pub record Measuring (opened : Opened) (old now : View) (scanned before after : ℕ) : Type 0 where
  pub grows : Grows old now
  pub taken : Took (now.upto - old.upto) before after
  pub near : now.upto ≤ max old.upto (old.stop + old.longest + 65536)
  pub failed : now.failed ≡ false
  pub within : scanned ≤ length (ahead now)
  pub clear : HasNone now.delimiter (ahead now) scanned
  pub told : (object : List ℕ) → Tells opened object → Holds object old → Holds object now

-- the way to the end of the line ahead, reading as far as that needs
pub record Measures (opened : Opened) (old new : View) (result : Result Body Failed) (before now : ℕ) : Type 0 where
  pub grows : Grows old new
  pub taken : Took (new.upto - old.upto) before now
  pub near : new.upto ≤ max old.upto (old.stop + old.longest + 65536)
  pub failed : new.failed ≡ is_err result
  pub body : IfOk result (λ b. IsBody new b)
  pub told : (object : List ℕ) → Tells opened object → Holds object old → Holds object new

-- the kept bytes show that a line starts at the window's place, and its body
pub record IsSeen (v : View) (b : Body) : Type 0 where
  pub near : IsNear v
  pub body : IsBody v b
  pub works : v.failed ≡ false
  pub starts : (object : List ℕ) → Holds object v → is_start v.delimiter object v.place ≡ true

-- the next line's body was found, or none is left
abbrev pub IsFound : View → Result (Option Body) Failed → Type 0
IsFound v (Ok None) = IsDone v
IsFound v (Ok (Some b)) = IsNear v × IsBody v b
IsFound v (Err failed) = Unit {0}

-- a line starts at the window's place
abbrev pub IsAtStart : List ℕ → View → Result (Option Body) Failed → Type 0
IsAtStart object v (Ok None) = Unit {0}
IsAtStart object v (Ok (Some b)) = is_start v.delimiter object v.place ≡ true
IsAtStart object v (Err failed) = Unit {0}

-- the way to the next line and to its end, reading as far as that needs
pub record Finds (opened : Opened) (old new : View) (result : Result (Option Body) Failed) (before now : ℕ) : Type 0 where
  pub sound : IsSound new
  pub rules : SameRules old new
  pub forward : old.upto ≤ new.upto
  pub onwards : old.place ≤ new.place
  pub taken : Took (new.upto - old.upto) before now
  pub near : new.upto ≤ max old.upto (old.stop + old.longest + 65536)
  pub failed : new.failed ≡ is_err result
  pub stays_failed : old.failed ≡ true → IsErr result × (new ≡ old)
  pub stays_done : IsDone old → old.failed ≡ false → (result ≡ Ok None) × (new ≡ old)
  pub found : IsFound new result
  pub told : (object : List ℕ) → Tells opened object → Holds object old
      → Holds object new × (left object new ≡ left object old) × IsAtStart object new result

-- a line is there
abbrev pub IsSomeLine : Line → Type 0
IsSomeLine (At start bytes whole) = Unit {0}
IsSomeLine (TooLong start) = Unit {0}
IsSomeLine End = ⊥

-- a line was passed: behind its start, the cuts are those from the new place on
pub record Leaves (old new : View) : Type 0 where
  pub sound : IsSound new
  pub rules : SameRules old new
  pub upto : new.upto ≡ old.upto
  pub onwards : old.place < new.place
  pub failed : new.failed ≡ old.failed
  pub told : (object : List ℕ) → Holds object old
      → is_start old.delimiter object old.place ≡ true
      → Holds object new × (left object new ≡ cuts old.delimiter object (old.place + 1) (old.stop - (old.place + 1)))
