-- What a cutter of its own does with a window: it looks at the bytes ahead, and passes them.
use Rattle.std.specs.Prelude.{◌≡◌, ℕ, ◌+◌, ◌-◌, ◌<◌, ◌≤◌, max, false, List, length, take, drop}
use Rattle.select_ports.specs.Stored.{Opened}
use Rattle.line_window.specs.Sliding.{View, ahead, Tells, Holds, IsSound, SameRules, Took}

-- what reading ahead makes of a window: its place stays, and it reads no more than is wanted and a piece
pub record Looks (opened : Opened) (old new : View) (want before now : ℕ) : Type 0 where
  pub sound : IsSound new
  pub rules : SameRules old new
  pub place : new.place ≡ old.place
  pub forward : old.upto ≤ new.upto
  pub taken : Took (new.upto - old.upto) before now
  pub near : new.upto ≤ max old.upto (old.place + want + 65536)
  pub told : (object : List ℕ) → Tells opened object → Holds object old → Holds object new

-- the object's bytes from the window's place on are lent: at least as many as are wanted, or all of them
pub record IsAhead (v : View) (want : ℕ) (lent : List ℕ) : Type 0 where
  pub works : v.failed ≡ false
  pub bytes : lent ≡ ahead v
  pub len : length lent ≡ v.upto - v.place
  pub enough : length lent < want → v.place + length lent ≡ v.size
  pub told : (object : List ℕ) → Holds object v → lent ≡ take (length lent) (drop v.place object)

-- n bytes ahead were passed
pub record Passes (n : ℕ) (old new : View) : Type 0 where
  pub sound : IsSound new
  pub rules : SameRules old new
  pub place : new.place ≡ old.place + n
  pub upto : new.upto ≡ old.upto
  pub failed : new.failed ≡ old.failed
  pub rest : ahead new ≡ drop n (ahead old)
  pub told : (object : List ℕ) → Holds object old → Holds object new
