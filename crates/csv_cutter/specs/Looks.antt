-- What looking at the bytes ahead of a window tells of the record at its place.
use Rattle.std.specs.Prelude.{◌≡◌, ℕ, ◌+◌, ◌-◌, ◌<◌, ◌≤◌, max, min, Bool, true, List, [], length, drop, Option, None, Some, Result, Ok, Err}
use Rattle.select_ports.specs.declared.outcome.Failed.{Failed}
use Rattle.select_ports.specs.Stored.{Opened}
use Rattle.line_window.specs.Sliding.{View, ahead, Tells, Holds, IsSound, SameRules, Took}
use Rattle.csv_cutter.specs.declared.dialect.Dialect.{Dialect}
use Rattle.csv_cutter.specs.declared.walk.State.{State}
use Rattle.csv_cutter.specs.declared.looks.Look.{Look}
use Rattle.csv_cutter.specs.declared.looks.Ahead.{Ahead}
use Rattle.csv_cutter.specs.declared.looks.Ahead.TheVariants.{Delimiter, ObjectEnd, More}
use Rattle.csv_cutter.specs.declared.looks.Found.{Found}
use Rattle.csv_cutter.specs.declared.looks.Found.TheVariants.{Record, Long, Past}
use Rattle.csv_cutter.specs.declared.looks.Opening.{Opening}
use Rattle.csv_cutter.specs.Records.{delimiter_of}
use Rattle.csv_cutter.specs.Stops.{stop_from, first_state, mark_len, body_len, Strides, StopsAt}

-- the window moved on: it reads no more than a record's limit and a piece from its place on
pub record Moves (opened : Opened) (old new : View) (before now : ℕ) : Type 0 where
  pub sound : IsSound new
  pub rules : SameRules old new
  pub forward : old.upto ≤ new.upto
  pub onwards : old.place ≤ new.place
  pub taken : Took (new.upto - old.upto) before now
  pub near : new.upto ≤ max old.upto (new.place + old.longest + 65541)
  pub told : (object : List ℕ) → Tells opened object → Holds object old → Holds object new

-- reading on while the window stays at its place
pub record Stays (opened : Opened) (old new : View) (before now : ℕ) : Type 0 where
  pub moves : Moves opened old new before now
  pub place : new.place ≡ old.place

-- how the look ends: before the delimiter, at the object's end, or a byte further at least
abbrev pub Ends : Dialect → View → ℕ → State → ℕ → Ahead → Type 0
Ends d v from s at Delimiter = (at + length (delimiter_of d) ≤ length (ahead v)) × ((object : List ℕ) → Holds object v → stop_from d s (drop (v.place + at) object) ≡ 0)
Ends d v from s at ObjectEnd = v.place + at ≡ v.size
Ends d v from s at More = from < at

-- what a look at the bytes ahead tells of a walk from some place behind the window's
pub record IsLook (d : Dialect) (v : View) (from : ℕ) (s : State) (look : Look) : Type 0 where
  pub low : from ≤ look.at
  pub high : look.at ≤ length (ahead v)
  pub walked : (object : List ℕ) → Holds object v
      → stop_from d s (drop (v.place + from) object) ≡ look.at - from + stop_from d look.state (drop (v.place + look.at) object)
  pub ends : Ends d v from look.state look.at look.end

-- how a look over plain bytes ends
abbrev pub EndsAt : Dialect → List ℕ → Bool → ℕ → State → ℕ → Ahead → Type 0
EndsAt d bytes last from s at Delimiter = StopsAt d bytes s at
EndsAt d bytes last from s at ObjectEnd = (last ≡ true) × (at ≡ length bytes)
EndsAt d bytes last from s at More = from < at

-- a look over plain bytes
pub record LooksAt (d : Dialect) (bytes : List ℕ) (last : Bool) (from : ℕ) (s : State) (look : Look) : Type 0 where
  pub strides : Strides d bytes last from s look.at look.state
  pub ends : EndsAt d bytes last from look.state look.at look.end

-- a record's first bytes: how many of a byte order mark, and the state behind them; or the object ends at the window's place
pub record IsOpening (d : Dialect) (v : View) (o : Opening) : Type 0 where
  pub some : v.place < v.size
  pub shown : o.mark ≤ length (ahead v)
  pub few : o.mark ≤ 3
  pub told : (object : List ℕ) → Holds object v → (o.mark ≡ mark_len v.place (drop v.place object)) × (o.state ≡ first_state d (drop (v.place + o.mark) object))

-- the same of plain bytes at a place
abbrev pub OpensAt : Dialect → ℕ → List ℕ → Option Opening → Type 0
OpensAt d place bytes None = bytes ≡ []
OpensAt d place bytes (Some o) = (0 < length bytes) × (o.mark ≡ mark_len place bytes) × (o.state ≡ first_state d (drop o.mark bytes))

abbrev pub Opens : Dialect → View → Result (Option Opening) Failed → Type 0
Opens d v (Ok (Some o)) = IsOpening d v o
Opens d v (Ok None) = v.place ≡ v.size
Opens d v (Err failed) = Unit {0}

-- on the way to the end of the record at the window's place: the walk came to a place in some state
pub record IsEnding (opened : Opened) (d : Dialect) (old v : View) (at : ℕ) (s : State) : Type 0 where
  pub some : v.place < v.size
  pub shown : at ≤ length (ahead v)
  pub told : (object : List ℕ) → Tells opened object → Holds object old
      → body_len d old.place (drop old.place object) ≡ at + stop_from d s (drop (old.place + at) object)

-- the record at the window's place: its body and the delimiter lie ahead
pub record IsWhole (opened : Opened) (d : Dialect) (old v : View) (len behind : ℕ) : Type 0 where
  pub some : v.place < v.size
  pub shown : len + behind ≤ length (ahead v)
  pub short : len ≤ v.longest
  pub few : behind ≤ 2
  pub onwards : 0 < len + behind
  pub told : (object : List ℕ) → Tells opened object → Holds object old → (len ≡ body_len d old.place (drop old.place object))
      × (len + behind ≡ min (len + length (delimiter_of d)) (length object - old.place))

-- the record at the window's place was found: it lies ahead, or its body is longer than the limit, or the object ends there
abbrev pub IsFound : Opened → Dialect → View → View → Found → Type 0
IsFound opened d old v Past = v.place ≡ v.size
IsFound opened d old v (Record len behind) = IsWhole opened d old v len behind
IsFound opened d old v (Long state n) = IsEnding opened d old v n state × (v.longest < n)
