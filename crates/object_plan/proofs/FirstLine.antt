-- The first line of a window over a told object, or the first of its records where quoted fields may hold record delimiters.
use Rattle.std.proofs.Common.{◌≡◌, ℕ, zero, suc, ◌+◌, ◌-◌, ◌≤◌, List, length, Result, Ok, refl, sym, ap, subst, ◌∙◌, arith}
use Rattle.select_ports.specs.Stored.{Opened, IsOpen}
use Rattle.select_ports.specs.declared.outcome.Failed.{Failed}
use Rattle.std.specs.Prelude.{Some}
use Rattle.line_window.specs.Cuts.{Cut}
use Rattle.line_window.specs.Sliding.{View, Tells, Holds, IsSound, Took, left}
use Rattle.line_window.specs.Answers.{Turns, IsNext, IsNextCut}
use Rattle.line_window.specs.declared.line.Line.{Line}
use Rattle.csv_cutter.specs.declared.dialect.Dialect.{Dialect}
use Rattle.csv_cutter.specs.declared.records.Pending.{Pending}
use Rattle.csv_cutter.specs.declared.records.QuotedRecords.{QuotedRecords}
use Rattle.csv_cutter.specs.Records.{AreRecords}
use Rattle.csv_cutter.specs.Cutter.{pending_len, next_start, Left, IsBegun, IsReady, GoesOn, TakesRecord}

-- the told object has the size
pub size_is : (opened : Opened) (object : List ℕ) (size : ℕ) → IsOpen opened size → Tells opened object → length object ≡ size
size_is opened object size open_ tells =
    let held : IsOpen (Some (length object, Some object)) size = subst (λ (o : Opened). IsOpen o size) tells open_ in
    held.0

-- a line was given
pub given : (opened : Opened) (v w : View) (result : Result Line Failed) (line : Line) (before now : ℕ) (object : List ℕ) → Turns opened v w result before now
    → result ≡ Ok line → (told : Opened) → opened ≡ told → Tells told object → Holds object v → IsNextCut v.longest (left object v) (left object w) line
given opened v w result line before now object turns is told same tells holds =
    let next = turns.told object (same ∙ tells) holds in
    subst (λ (r : Result Line Failed). IsNext v.longest (left object v) (left object w) r) is next.1

-- a new cutter at the front of an object gives the first of its records
pub first_given : (opened : Opened) (d : Dialect) (longest : ℕ) (cutter later : QuotedRecords) (v w : View) (result : Result Line Failed) (line : Line) (before now : ℕ)
    (object : List ℕ) (cuts : List Cut) → IsBegun d longest cutter → v.place ≡ 0 → AreRecords d object 0 cuts
    → TakesRecord opened cutter later v w result before now → result ≡ Ok line → (told : Opened) → opened ≡ told → Tells told object → Holds object v
    → (after : List Cut) × IsNextCut v.longest cuts after line
first_given opened d longest cutter later v w result line before now object cuts begun place records takes is told same tells holds =
    let P : Dialect → Type 0 = λ e. AreRecords e object (next_start e cutter.pending object v.place) cuts in
    let Q : Pending → Type 0 = λ q. AreRecords d object (next_start d q object v.place) cuts in
    let R : ℕ → Type 0 = λ p. AreRecords d object p cuts in
    let left : Left cutter object v cuts = subst P (sym begun.dialect) (subst Q (sym begun.pending) (subst R (sym place) records)) in
    let on = subst (λ (r : Result Line Failed). GoesOn later object w v.longest cuts r) is (takes.told object (same ∙ tells) holds cuts left) in
    (on.after, on.next)

-- a new cutter is ready in a window that was sought
pub begun_ready : (d : Dialect) (longest : ℕ) (cutter : QuotedRecords) (v : View) → IsBegun d longest cutter → IsSound v → v.longest ≡ longest → IsReady cutter v
begun_ready d longest cutter v begun sound limit =
    record { sound = sound; limit = begun.limit ∙ sym limit; shown = omega (arith, ap pending_len begun.pending) }

took_at_most : (n a b : ℕ) → Took n a b → b ≤ a + n
took_at_most zero a b took = let same = took.none refl in omega arith
took_at_most (suc n) a b took = let rose = took.some (omega arith) in omega arith

-- how much is read of it
pub first_read : (opened : Opened) (d : Dialect) (longest : ℕ) (cutter later : QuotedRecords) (v w : View) (result : Result Line Failed) (before now : ℕ)
    → IsBegun d longest cutter → v.place ≡ 0 → v.upto ≡ 0 → TakesRecord opened cutter later v w result before now
    → (now ≤ before + (v.longest + 65541)) × (now ≤ before + v.size)
first_read opened d longest cutter later v w result before now begun place none takes =
    let took = took_at_most (w.upto - v.upto) before now takes.moves.taken in
    let stays = takes.stays begun.pending in (
      omega (arith, took, takes.moves.near, stays, place, none),
      omega (arith, took, takes.moves.sound.read, takes.moves.rules.size, none),
    )
