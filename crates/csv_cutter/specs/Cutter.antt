-- What a cutter of quoted records does with a window: which records are left, and what a call leaves.
use Rattle.std.specs.Prelude.{◌≡◌, ℕ, ◌+◌, ◌-◌, ◌<◌, ◌≤◌, min, true, List, length, take, drop, Result, Ok, Err, IfOk, IsOk, IsErr, is_err}
use Rattle.select_ports.specs.declared.outcome.Failed.{Failed}
use Rattle.select_ports.specs.Stored.{Opened}
use Rattle.line_window.specs.declared.line.Line.{Line}
use Rattle.line_window.specs.declared.line.Line.TheVariants.{At, TooLong, End}
use Rattle.line_window.specs.Cuts.{Cut}
use Rattle.line_window.specs.Sliding.{View, ahead, Tells, Holds, IsSound}
use Rattle.line_window.specs.Answers.{IsNext}
use Rattle.csv_cutter.specs.declared.dialect.Dialect.{Dialect}
use Rattle.csv_cutter.specs.declared.records.Pending.{Pending}
use Rattle.csv_cutter.specs.declared.records.Pending.TheVariants.{Nothing, Passed, Rest}
use Rattle.csv_cutter.specs.declared.records.QuotedRecords.{QuotedRecords}
use Rattle.csv_cutter.specs.declared.looks.Found.{Found}
use Rattle.csv_cutter.specs.declared.looks.Found.TheVariants.{Record, Long, Past}
use Rattle.csv_cutter.specs.Records.{AreRecords, delimiter_of, content_at}
use Rattle.csv_cutter.specs.Stops.{stop_from, body_len}
use Rattle.csv_cutter.specs.Looks.{Moves, Stays}

-- of the answered record that a window still stands at, how many bytes are known
abbrev pub pending_len : Pending → ℕ
pending_len Nothing = 0
pending_len (Passed n) = n
pending_len (Rest s n) = n

-- where the next record starts, behind the one that was answered, or past the object's end
abbrev pub next_start : Dialect → Pending → List ℕ → ℕ → ℕ
next_start d Nothing object place = place
next_start d (Passed n) object place = place + n
next_start d (Rest s n) object place = place + n + stop_from d s (drop (place + n) object) + length (delimiter_of d)

-- These records are left to answer of an object, for a cutter and the window that it works on.
abbrev pub Left : QuotedRecords → List ℕ → View → List Cut → Type 0
Left cutter object window cuts = AreRecords cutter.dialect object (next_start cutter.dialect cutter.pending object window.place) cuts

-- the window is the one that the cutter works on: it has the same record limit, and shows the bytes of the answered record
pub record IsReady (cutter : QuotedRecords) (window : View) : Type 0 where
  pub sound : IsSound window
  pub limit : cutter.longest ≡ window.longest
  pub shown : pending_len cutter.pending ≤ length (ahead window)

-- the window stands at the start of the record that was answered
abbrev pub StandsThere : View → Result Line Failed → Type 0
StandsThere window (Ok (At start bytes whole)) = start ≡ window.place
StandsThere window (Ok (TooLong start)) = start ≡ window.place
StandsThere window (Ok End) = window.place ≡ window.size
StandsThere window (Err failed) = Unit {0}

-- a record moves the place on up to which the bytes of the answered records are known
abbrev pub GoesFurther : QuotedRecords → QuotedRecords → View → View → Result Line Failed → Type 0
GoesFurther cutter later old new (Ok (At start bytes whole)) = old.place + pending_len cutter.pending < new.place + pending_len later.pending
GoesFurther cutter later old new (Ok (TooLong start)) = old.place + pending_len cutter.pending < new.place + pending_len later.pending
GoesFurther cutter later old new (Ok End) = Unit {0}
GoesFurther cutter later old new (Err failed) = Unit {0}

-- the answer is the next of the records that were left, and those behind it are left now
pub record GoesOn (cutter : QuotedRecords) (object : List ℕ) (window : View) (longest : ℕ) (before : List Cut) (result : Result Line Failed) : Type 0 where
  pub after : List Cut
  pub left : Left cutter object window after
  pub next : IsNext longest before after result

-- what `next` makes of a cutter and its window over the open object, whose count of bytes read goes from `before` to `now`
pub record TakesRecord (opened : Opened) (cutter later : QuotedRecords) (old new : View) (result : Result Line Failed) (before now : ℕ) : Type 0 where
  pub moves : Moves opened old new before now
  pub ready : IsReady later new
  pub dialect : later.dialect ≡ cutter.dialect
  pub failed : new.failed ≡ is_err result
  pub place : StandsThere new result
  pub onwards : GoesFurther cutter later old new result
  pub stays : cutter.pending ≡ Nothing → new.place ≡ old.place
  pub told : (object : List ℕ) → Tells opened object → Holds object old
      → (cuts : List Cut) → Left cutter object old cuts → GoesOn later object new old.longest cuts result

-- ---- the contracts of private functions

-- a cutter that has answered nothing yet
pub record IsBegun (d : Dialect) (longest : ℕ) (cutter : QuotedRecords) : Type 0 where
  pub dialect : cutter.dialect ≡ d
  pub limit : cutter.longest ≡ longest
  pub pending : cutter.pending ≡ Nothing

-- ---- the contracts of private functions

-- what passing the answered record makes of the cutter: the same records are left
pub record Settles (opened : Opened) (cutter later : QuotedRecords) (old new : View) (result : Result (Unit {0}) Failed) (before now : ℕ) : Type 0 where
  pub moves : Moves opened old new before now
  pub ready : IsReady later new
  pub dialect : later.dialect ≡ cutter.dialect
  pub failed : IsErr result → new.failed ≡ true
  pub works : IsOk result → new.failed ≡ old.failed
  pub settled : IsOk result → later.pending ≡ Nothing
  pub onwards : IsOk result → old.place + pending_len cutter.pending ≤ new.place
  pub stays : cutter.pending ≡ Nothing → new.place ≡ old.place
  pub told : (object : List ℕ) → Tells opened object → Holds object old → (cuts : List Cut) → Left cutter object old cuts → Left later object new cuts

-- a line with this content and whole length at the window's place
abbrev pub LendsLine : View → ℕ → ℕ → Result Line Failed → List ℕ → Type 0
LendsLine window len behind (Ok (At start bytes whole)) object =
    (start ≡ window.place) × (bytes.now ≡ content_at start (take len (drop window.place object))) × (whole ≡ len + behind)
LendsLine window len behind (Ok (TooLong start)) object = ⊥
LendsLine window len behind (Ok End) object = ⊥
LendsLine window len behind (Err failed) object = Unit {0}

-- what lending a record makes of a cutter and its window
pub record LendsRecord (opened : Opened) (cutter later : QuotedRecords) (old new : View) (len behind : ℕ) (result : Result Line Failed) (before now : ℕ) : Type 0 where
  pub stays : Stays opened old new before now
  pub ready : IsReady later new
  pub dialect : later.dialect ≡ cutter.dialect
  pub failed : new.failed ≡ is_err result
  pub place : StandsThere new result
  pub passed : IsOk result → later.pending ≡ Passed (len + behind)
  pub unpassed : IsErr result → later.pending ≡ Nothing
  pub told : (object : List ℕ) → Tells opened object → Holds object old → LendsLine new len behind result object

-- what was found, without an object
abbrev pub Finds : Dialect → View → Found → Type 0
Finds d v Past = v.place ≡ v.size
Finds d v (Record len behind) = (v.place < v.size) × (len + behind ≤ length (ahead v)) × (len ≤ v.longest) × (behind ≤ 2) × (0 < len + behind)
Finds d v (Long state n) = (v.place < v.size) × (n ≤ length (ahead v)) × (v.longest < n)

-- what was found of an object
abbrev pub ShowsFound : Dialect → List ℕ → View → Found → Type 0
ShowsFound d object v Past = Unit {0}
ShowsFound d object v (Record len behind) =
    (len ≡ body_len d v.place (drop v.place object)) × (len + behind ≡ min (len + length (delimiter_of d)) (length object - v.place))
ShowsFound d object v (Long state n) = body_len d v.place (drop v.place object) ≡ n + stop_from d state (drop (v.place + n) object)

-- what finding the next record makes of a cutter and its window: it stands at the record, and the same records are left
pub record FindsNext (opened : Opened) (cutter later : QuotedRecords) (old new : View) (result : Result Found Failed) (before now : ℕ) : Type 0 where
  pub moves : Moves opened old new before now
  pub ready : IsReady later new
  pub dialect : later.dialect ≡ cutter.dialect
  pub failed : new.failed ≡ is_err result
  pub settled : IsOk result → later.pending ≡ Nothing
  pub onwards : IsOk result → old.place + pending_len cutter.pending ≤ new.place
  pub stays : cutter.pending ≡ Nothing → new.place ≡ old.place
  pub found : IfOk result (Finds later.dialect new)
  pub told : (object : List ℕ) → Tells opened object → Holds object old → (cuts : List Cut) → Left cutter object old cuts → Left later object new cuts
  pub shows : (object : List ℕ) → Tells opened object → Holds object old → IfOk result (ShowsFound later.dialect object new)
