-- The records of an object as a function of its bytes: each one is cut where the walk over it stops.
use Rattle.std.specs.Prelude.{◌≡◌, ℕ, zero, suc, ◌+◌, true, nat_lt, List, [], ◌∷◌, if◌then◌else◌, length}
use Rattle.line_window.specs.Cuts.{Cut}
use Rattle.csv_cutter.specs.declared.dialect.Dialect.{Dialect}
use Rattle.csv_cutter.specs.Dialects.{is_valid}
use Rattle.csv_cutter.specs.Records.{AreRecords}
use Rattle.csv_cutter.specs.Stops.{cut_of}

-- the records from place p on, as many as this at most
abbrev pub quoted_from : Dialect → List ℕ → ℕ → ℕ → List Cut
quoted_from d object p zero = []
quoted_from d object p (suc most) =
    if nat_lt p (length object) then cut_of d object p ∷ quoted_from d object (p + (cut_of d object p).whole) most else []

-- the cuts of an object's records; none has fewer than one byte
unfoldable pub quoted_cuts : Dialect → List ℕ → List Cut
quoted_cuts d object = quoted_from d object 0 (length object)

-- they are the object's records
abbrev pub EachObjectIsCutSo : Type 0
EachObjectIsCutSo = (d : Dialect) → is_valid d ≡ true → (object : List ℕ) → AreRecords d object 0 (quoted_cuts d object)
