-- Additions in a row, and a loop of additions.
use Rattle.std.proofs.Common.{◌≡◌, ℕ, ◌+◌, ◌≤◌, List, [], ◌++◌, length, take, drop, refl, sym, ap, subst, ◌∙◌, append_assoc, append-nil, length-append, arith}
use Rattle.std.specs.Prelude.{Result, Ok, Err, IsOk, ◌↔◌}
use Rattle.std.proofs.lemmas.List.{take-append-drop}
use Rattle.std.proofs.Math.Seq.{take-append_seam}
use Rattle.text_view.specs.Room.{Room}
use Rattle.text_view.specs.declared.output.Full.{Full}
use Rattle.record_output.specs.Appending.{Appends, Adds}

-- a front of a front
take_front : (front more new : List ℕ) → take (length (front ++ more)) new ≡ front ++ more → take (length front) new ≡ front
take_front front more new e =
    let n : ℕ = length (front ++ more) in
    let whole : (front ++ more) ++ drop n new ≡ new = ap (λ l. l ++ drop n new) (sym e) ∙ take-append-drop n new in
    ap (take (length front)) (sym whole ∙ append_assoc front more (drop n new)) ∙ take-append_seam front (more ++ drop n new)

kept_on : (old new : Room) (front : List ℕ) → record new { bytes = take (length (old.bytes ++ front)) new.bytes } ≡ record old { bytes = old.bytes ++ front }
    → record new { bytes = take (length old.bytes) new.bytes } ≡ old
kept_on old new front e =
    let room : new.room ≡ old.room = ap (λ r. r.room) e in
    let bytes = take_front old.bytes front new.bytes (ap (λ r. r.bytes) e) in
    ap (λ n. record { room = n; bytes = take (length old.bytes) new.bytes }) room ∙ ap (λ b. record { room = old.room; bytes = b }) bytes

-- what is added behind a front is added with it
behind : (r : Result (Unit {0}) Full) (old new : Room) (front more : List ℕ) → Appends r (record old { bytes = old.bytes ++ front }) new more → Appends r old new (front ++ more)
behind (Ok x) old new front more h = record {
  fits = (λ ok. omega (arith, h.fits.0 ok, length-append old.bytes front, length-append front more), λ le. h.fits.1 (omega (arith, length-append old.bytes front, length-append front more)));
  ok = h.ok ∙ ap (λ b. record { room = old.room; bytes = b }) (append_assoc old.bytes front more);
  kept = h.kept;
}
behind (Err x) old new front more h = record {
  fits = (λ ok. omega (arith, h.fits.0 ok, length-append old.bytes front, length-append front more), λ le. h.fits.1 (omega (arith, length-append old.bytes front, length-append front more)));
  ok = h.ok;
  kept = kept_on old new front h.kept;
}

-- one addition, and then another
pub both : (r : Result (Unit {0}) Full) (old mid new : Room) (first second : List ℕ) → Appends (Ok tt) old mid first → Appends r mid new second → Appends r old new (first ++ second)
both r old mid new first second a b = behind r old new first second (subst (λ m. Appends r m new second) a.ok b)

-- where the first doesn't fit, both don't
pub first_full : (e : Full) (old new : Room) (first second : List ℕ) → Appends (Err e) old new first → Appends (Err e) old new (first ++ second)
first_full e old new first second h = record {
  fits = (λ ok. absurd (cc), λ le. h.fits.1 (omega (arith, length-append first second)));
  ok = h.ok;
  kept = h.kept;
}

-- ---- a loop of additions

pub nothing_yet : (old : Room) (was : List ℕ) → Adds old old was was
nothing_yet old was = record {
  front = [];
  added = ap (λ b. record { room = old.room; bytes = b }) (sym (append-nil old.bytes));
  whole = refl;
}

pub one_more : (old mid new : Room) (was left part more : List ℕ) → Adds old mid was left → Appends (Ok tt) mid new part → left ≡ part ++ more → Adds old new was more
one_more old mid new was left part more a b e = record {
  front = a.front ++ part;
  added = b.ok ∙ ap (λ m. record { room = m.room; bytes = m.bytes ++ part }) a.added ∙ ap (λ l. record { room = old.room; bytes = l }) (append_assoc old.bytes a.front part);
  whole = a.whole ∙ ap (λ l. a.front ++ l) e ∙ sym (append_assoc a.front part more);
}

pub the_rest : (r : Result (Unit {0}) Full) (old mid new : Room) (was left : List ℕ) → Adds old mid was left → Appends r mid new left → Appends r old new was
the_rest r old mid new was left a b =
    subst (λ l. Appends r old new l) (sym a.whole) (behind r old new a.front left (subst (λ m. Appends r m new left) a.added b))

-- the error alone is another
other_error : (e e' : Full) (old new : Room) (bytes : List ℕ) → Appends (Err e) old new bytes → Appends (Err e') old new bytes
other_error e e' old new bytes h = record { fits = h.fits; ok = h.ok; kept = h.kept }

pub full_between : (e e' : Full) (old mid new : Room) (was left part more : List ℕ) → Adds old mid was left → Appends (Err e) mid new part → left ≡ part ++ more → Appends (Err e') old new was
full_between e e' old mid new was left part more a b is =
    other_error e e' old new was (the_rest (Err e) old mid new was left a (subst (λ l. Appends (Err e) mid new l) (sym is) (first_full e mid new part more b)))

-- ---- a text that is written elsewhere first

-- what doesn't fit there doesn't fit here, where it takes no less room
pub full_elsewhere : (e : Full) (old : Room) (room : ℕ) (text field : List ℕ) → old.room ≤ room → (length text ≤ room → ⊥) → length text ≤ length field → Appends (Err e) old old field
full_elsewhere e old room text field enough over longer = record {
  fits = (λ ok. absurd (cc), λ le. absurd (over (omega arith)));
  ok = tt;
  kept = ap (λ b. record { room = old.room; bytes = b }) (ap (λ b. take (length old.bytes) b) (sym (append-nil old.bytes)) ∙ take-append_seam old.bytes []);
}

abbrev failed : Full → Result (Unit {0}) Full
failed e = Err e

pub scratch_full : (e e' : Full) (old scratch cleared : Room) (text field : List ℕ) → old.room ≤ scratch.room → cleared ≡ record scratch { bytes = [] }
    → (IsOk (failed e) ↔ (length cleared.bytes + length text ≤ cleared.room)) → length text ≤ length field → Appends (Err e') old old field
scratch_full e e' old scratch cleared text field enough is fits longer =
    let here : (length text ≤ scratch.room) → length cleared.bytes + length text ≤ cleared.room =
    λ le. subst (λ c. length c.bytes + length text ≤ c.room) (sym is) (omega arith) in
    full_elsewhere e' old scratch.room text field enough (λ le. absurd (cc (fits.1 (here le)))) longer

-- what was put into a buffer that was cleared is all that it holds
pub copied : (buffer cleared out : Room) (text bytes : List ℕ) → cleared ≡ record buffer { bytes = [] } → out ≡ record cleared { bytes = cleared.bytes ++ text } → bytes ≡ out.bytes → bytes ≡ text
copied buffer cleared out text bytes is ok value = value ∙ ap (λ r. r.bytes) ok ∙ ap (λ r. r.bytes ++ text) is
