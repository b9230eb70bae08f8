-- What a window over a stored object shows: the place that it has come to, the bytes that it has read and keeps, and which cuts it has
-- still to answer.
use Rattle.std.specs.Prelude.{◌≡◌, ℕ, ◌+◌, ◌-◌, ◌<◌, ◌≤◌, List, length, take, drop, Bool, true, false, Some}
use Rattle.select_ports.specs.Causes.{RoseBy}
use Rattle.select_ports.specs.declared.outcome.Range.{Range}
use Rattle.select_ports.specs.Stored.{Opened}
use Rattle.line_window.specs.Cuts.{Cut, cuts, cuts_in}
use Rattle.line_window.specs.Delimiters.{is_delimiter}

-- the size of the object; the place of the first byte that wasn't passed; the place up to which it has been read; the bytes before
-- that one which are kept; the place behind the range; the record limit; the delimiter; whether a read failed
pub record View : Type 0 where
  pub size : ℕ
  pub place : ℕ
  pub upto : ℕ
  pub kept : List ℕ
  pub stop : ℕ
  pub longest : ℕ
  pub delimiter : List ℕ
  pub failed : Bool

-- the place of the first kept byte: as many before the window's place as the delimiter has
abbrev pub kept_from : View → ℕ
kept_from v = v.place - length v.delimiter

-- the kept bytes from the window's place on
abbrev pub ahead : View → List ℕ
ahead v = drop (v.place - kept_from v) v.kept

-- the cuts of the lines of the range that are left to answer
abbrev pub left : List ℕ → View → List Cut
left object v = cuts v.delimiter object v.place (v.stop - v.place)

-- the store tells these bytes of its open object
abbrev pub Tells : Opened → List ℕ → Type 0
Tells opened object = opened ≡ Some (length object, Some object)

-- the object has the window's size, and the kept bytes before the place read up to
pub record Holds (object : List ℕ) (v : View) : Type 0 where
  pub size : length object ≡ v.size
  pub kept : v.kept ≡ take (length v.kept) (drop (kept_from v) object)

-- what every window keeps: what lies between the delimiter before its place and the place read up to, and no more than its buffer takes
pub record IsSound (v : View) : Type 0 where
  pub kept : kept_from v + length v.kept ≡ v.upto
  pub read : v.upto ≤ v.size
  pub here : v.place ≤ v.size
  pub range : v.stop ≤ v.size
  pub room : length v.kept ≤ v.longest + 131074
  pub delimiter : is_delimiter v.delimiter ≡ true
  pub limit : v.longest ≤ 16777216

-- the limit, the delimiter, the object's size and the range's end stay as they were
pub record SameRules (old new : View) : Type 0 where
  pub size : new.size ≡ old.size
  pub stop : new.stop ≡ old.stop
  pub longest : new.longest ≡ old.longest
  pub delimiter : new.delimiter ≡ old.delimiter

-- a count of bytes rose by n, and at 0 stands as it was
pub record Took (n before now : ℕ) : Type 0 where
  pub none : n ≡ 0 → now ≡ before
  pub some : 0 < n → RoseBy n before now

-- a new window: it has read nothing and has nothing to answer
pub record IsOpened (limit : ℕ) (bytes : List ℕ) (v : View) : Type 0 where
  pub sound : IsSound v
  pub longest : v.longest ≡ limit
  pub delimiter : v.delimiter ≡ bytes
  pub done : v.stop ≤ v.place
  pub failed : v.failed ≡ false

-- a window over a range of an object: it has read nothing of it, and begins as many bytes before the range as the delimiter has
pub record IsSought (old new : View) (object_size : ℕ) (range : Range) : Type 0 where
  pub sound : IsSound new
  pub size : new.size ≡ object_size
  pub stop : new.stop ≡ range.last + 1
  pub longest : new.longest ≡ old.longest
  pub delimiter : new.delimiter ≡ old.delimiter
  pub failed : new.failed ≡ false
  pub begins : new.upto ≡ range.first - length old.delimiter
  pub place : new.place ≡ range.first
  pub cuts : (object : List ℕ) → left object new ≡ cuts_in old.delimiter object range.first range.last
  pub holds : (object : List ℕ) → length object ≡ object_size → Holds object new
