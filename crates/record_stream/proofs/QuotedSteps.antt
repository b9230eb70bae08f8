-- A cutter of quoted records and its window from one record to the next.
use Rattle.std.proofs.Common.{◌≡◌, ℕ, ◌+◌, ◌-◌, ◌^◌, ◌<◌, ◌≤◌, min, true, List, [], ◌∷◌, length, drop, Option, None, Some, Result, Ok, Err, sym, ap, ◌∙◌, subst, arith}
use Rattle.select_ports.specs.Stored.{Opened}
use Rattle.select_ports.specs.declared.outcome.Failed.{Failed}
use Rattle.line_window.specs.Cuts.{Cut}
use Rattle.line_window.specs.Sliding.{View, Tells, Holds, IsSound}
use Rattle.line_window.specs.declared.line.Line.{Line}
use Rattle.line_window.specs.declared.line.Line.TheVariants.{At, TooLong, End}
use Rattle.csv_cutter.specs.declared.dialect.Dialect.{Dialect}
use Rattle.csv_cutter.specs.declared.records.Pending.{Pending}
use Rattle.csv_cutter.specs.declared.records.Pending.TheVariants.{Nothing, Passed, Rest}
use Rattle.csv_cutter.specs.declared.records.QuotedRecords.{QuotedRecords}
use Rattle.csv_cutter.specs.Dialects.{is_valid}
use Rattle.csv_cutter.specs.Records.{AreRecords, delimiter_of}
use Rattle.csv_cutter.specs.Stops.{body_len}
use Rattle.csv_cutter.specs.Cutter.{pending_len, next_start, Left, IsBegun, IsReady, GoesFurther, GoesOn, TakesRecord}
use Rattle.csv_cutter.specs.Cuttings.{quoted_from, quoted_cuts}
use Rattle.csv_cutter.proofs.Characters.{apart, delimits}
use Rattle.csv_cutter.proofs.Stopping.{record_alone, width_some}
use Rattle.csv_cutter.proofs.Moving.{ahead_len}
use Rattle.select_reply.specs.Begun.{Begun}
use Rattle.record_stream.specs.Lines.{Lines, IsShort}
use Rattle.record_stream.specs.LineTurns.{turn_of, turn_at_end}
use Rattle.record_stream.specs.Turns.{turn_outcome}
use Rattle.select_reply.specs.Yields.{Yield}
use Rattle.record_stream.proofs.BoundLaws.{Within, CutsFrom, EachFits, counts-fit}

-- ---- the records of an object

-- a record has a byte at least, and ends within the object
whole_is : (d : Dialect) → is_valid d ≡ true → (object : List ℕ) (p : ℕ) (cut : Cut) (cuts : List Cut) → AreRecords d object p (cut ∷ cuts)
    → (0 < cut.whole) × (p + cut.whole ≤ length object)
whole_is d valid object p cut cuts r =
    let same : cut.whole ≡ min (body_len d p (drop p object) + length (delimiter_of d)) (length object - p) =
    ap (λ (c : Cut). c.whole) (record_alone d (apart d valid) (delimits d valid) object p cut r.0) in
    let some = r.0.some in
    let width = width_some d (delimits d valid) in
    (omega (arith, same, some, width), omega (arith, same, some))

within_object : (d : Dialect) → is_valid d ≡ true → (object : List ℕ) (p : ℕ) (cuts : List Cut) → AreRecords d object p cuts → Within (length object) cuts
within_object d valid object p [] r = tt
within_object d valid object p (cut ∷ cuts) r =
    let whole = whole_is d valid object p cut cuts r in
    (omega (arith, whole.1), within_object d valid object (p + cut.whole) cuts r.1)

few_records : (d : Dialect) → is_valid d ≡ true → (object : List ℕ) (p : ℕ) (cuts : List Cut) → AreRecords d object p cuts → length cuts ≤ length object - p
few_records d valid object p [] r = omega arith
few_records d valid object p (cut ∷ cuts) r =
    let whole = whole_is d valid object p cut cuts r in
    omega (arith, whole.0, whole.1, few_records d valid object (p + cut.whole) cuts r.1)

records_from : (d : Dialect) (object : List ℕ) (n p : ℕ) (cuts : List Cut) → n ≤ p → AreRecords d object p cuts → CutsFrom n cuts
records_from d object n p [] le r = tt
records_from d object n p (cut ∷ cuts) le r = (omega (arith, le, r.0.start), records_from d object n (p + cut.whole) cuts (omega (arith, le)) r.1)

-- an object without a byte has none
pub quoted_none : (d : Dialect) (object : List ℕ) → length object ≡ 0 → quoted_cuts d object ≡ []
unfolding quoted_cuts
quoted_none d object none = ap (quoted_from d object 0) none

-- ---- the records that a cutter has left

start_from : (d : Dialect) (pending : Pending) (object : List ℕ) (place : ℕ) → place ≤ next_start d pending object place
start_from d Nothing object place = omega arith
start_from d (Passed n) object place = omega arith
start_from d (Rest s n) object place = omega arith

-- they start at the window's place or behind it
pub left_later : (cutter : QuotedRecords) (object : List ℕ) (v : View) (cuts : List Cut) → Left cutter object v cuts → CutsFrom v.place cuts
left_later cutter object v cuts left =
    records_from cutter.dialect object v.place (next_start cutter.dialect cutter.pending object v.place) cuts
    (start_from cutter.dialect cutter.pending object v.place) left

-- they fit the counts
pub quoted_fits : (lines : Lines) (longest : ℕ) (object : List ℕ) (cutter : QuotedRecords) (v : View) (cuts : List Cut) → IsShort lines → longest ≤ 16777216
    → v.size < 2 ^ 64 → Holds object v → Left cutter object v cuts → EachFits lines longest cuts
quoted_fits lines longest object cutter v cuts short limit small holds left =
    let p = next_start cutter.dialect cutter.pending object v.place in
    let bytes : length object < 2 ^ 64 = omega (arith, small, holds.size) in
    counts-fit lines longest short limit object cuts (within_object cutter.dialect cutter.valid object p cuts left)
    (omega (arith, few_records cutter.dialect cutter.valid object p cuts left, bytes)) bytes

-- a new cutter at the front of an object has all its records left
pub left_begins : (d : Dialect) (longest : ℕ) (cutter : QuotedRecords) (object : List ℕ) (v : View) (cuts : List Cut) → IsBegun d longest cutter → v.place ≡ 0
    → AreRecords d object 0 cuts → Left cutter object v cuts
left_begins d longest cutter object v cuts begun place records =
    let P : Dialect → Type 0 = λ e. AreRecords e object (next_start e cutter.pending object v.place) cuts in
    let Q : Pending → Type 0 = λ q. AreRecords d object (next_start d q object v.place) cuts in
    let R : ℕ → Type 0 = λ p. AreRecords d object p cuts in
    subst P (sym begun.dialect) (subst Q (sym begun.pending) (subst R (sym place) records))

pub ready_begins : (d : Dialect) (longest : ℕ) (cutter : QuotedRecords) (v : View) → IsBegun d longest cutter → IsSound v → v.longest ≡ longest → IsReady cutter v
ready_begins d longest cutter v begun sound limit =
    record { sound = sound; limit = begun.limit ∙ sym limit; shown = omega (arith, ap pending_len begun.pending) }

-- ---- one call

-- a record was given, or the end
pub quoted_given : (opened : Opened) (cutter later : QuotedRecords) (v w : View) (result : Result Line Failed) (line : Line) (before now : ℕ) (object : List ℕ) (cuts : List Cut)
    → TakesRecord opened cutter later v w result before now → result ≡ Ok line → (told : Opened) → opened ≡ told → Tells told object → Holds object v
    → Left cutter object v cuts → Holds object w × GoesOn later object w v.longest cuts (Ok line)
quoted_given opened cutter later v w result line before now object cuts takes is told same tells holds left = (
  takes.moves.told object (same ∙ tells) holds,
  subst (λ (r : Result Line Failed). GoesOn later object w v.longest cuts r) is (takes.told object (same ∙ tells) holds cuts left),
)

-- none was given
pub quoted_not_given : (opened : Opened) (cutter later : QuotedRecords) (v w : View) (result : Result Line Failed) (failed : Failed) (before now : ℕ) (object : List ℕ) (cuts : List Cut)
    → TakesRecord opened cutter later v w result before now → result ≡ Err failed → (told : Opened) → opened ≡ told → Tells told object → Holds object v
    → Left cutter object v cuts → Left later object w cuts
quoted_not_given opened cutter later v w result failed before now object cuts takes is told same tells holds left =
    let on = subst (λ (r : Result Line Failed). GoesOn later object w v.longest cuts r) is (takes.told object (same ∙ tells) holds cuts left) in
    subst (λ (l : List Cut). Left later object w l) on.next on.left

-- the known bytes lie within the object
known_within : (cutter : QuotedRecords) (v : View) → IsReady cutter v → v.place + pending_len cutter.pending ≤ v.size
known_within cutter v ready = omega (arith, ready.shown, ahead_len v ready.sound, ready.sound.read, ready.sound.here)

end_ends : (begun : Begun) (last : ℕ) (e : Option Yield) → turn_outcome begun (turn_at_end last e) ≡ None → ⊥
end_ends begun last None none = absurd (cc)
end_ends begun last (Some g) none = absurd (cc)

-- where the reply goes on, fewer bytes are left
pub fewer_left : (cutter later : QuotedRecords) (v w : View) (result : Result Line Failed) (line : Line) (now : Lines) (last : ℕ) (begun : Begun) → result ≡ Ok line
    → GoesFurther cutter later v w result → IsReady later w → w.size ≡ v.size → turn_outcome begun (turn_of now last line) ≡ None
    → w.size - (w.place + pending_len later.pending) < v.size - (v.place + pending_len cutter.pending)
fewer_left cutter later v w result line now last begun is further ready size goes =
    by_line line (subst (λ (r : Result Line Failed). GoesFurther cutter later v w r) is further) goes
  where
    by_line : (line : Line) → GoesFurther cutter later v w (Ok line) → turn_outcome begun (turn_of now last line) ≡ None
        → w.size - (w.place + pending_len later.pending) < v.size - (v.place + pending_len cutter.pending)
    by_line (At start bytes whole) more goes = omega (arith, more, known_within later w ready, size)
    by_line (TooLong start) more goes = omega (arith, more, known_within later w ready, size)
    by_line End more goes = absurd (end_ends begun last (now.of_end []) goes)
