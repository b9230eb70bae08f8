-- What lending a record makes of a cutter and its window.
use Rattle.std.proofs.Common.{◌≡◌, ℕ, ◌+◌, ◌≤◌, ◌==◌, Bool, true, false, List, [], ◌∷◌, take, drop, length, refl, sym, ◌∙◌, ap, arith, length-drop, Ok, Err}
use Rattle.std.specs.Prelude.{bytes_eq, if◌then◌else◌}
use Rattle.std.proofs.lemmas.List.{length-take, take-take}
use Rattle.select_ports.specs.declared.outcome.Failed.{Failed}
use Rattle.select_ports.specs.Stored.{Opened}
use Rattle.line_window.specs.declared.line.Line.{Line}
use Rattle.line_window.specs.Cuts.{without_mark}
use Rattle.line_window.specs.Sliding.{View, ahead, IsSound}
use Rattle.line_window.specs.Ahead.{Looks, IsAhead}
use Rattle.csv_cutter.specs.declared.records.Pending.TheVariants.{Nothing, Passed}
use Rattle.csv_cutter.specs.declared.records.QuotedRecords.{QuotedRecords}
use Rattle.csv_cutter.specs.Records.{content_at}
use Rattle.csv_cutter.specs.Looks.{Stays}
use Rattle.csv_cutter.specs.Cutter.{pending_len, IsReady, LendsLine, LendsRecord, StandsThere}
use Rattle.csv_cutter.proofs.Characters.{clash}
use Rattle.csv_cutter.proofs.Moving.{ahead_len}

looks_stays : (opened : Opened) (old new : View) (want before now : ℕ) → Looks opened old new want before now → want ≤ old.longest + 5 → Stays opened old new before now
looks_stays opened old new want before now l few = record {
  moves = record {
    sound = l.sound;
    rules = l.rules;
    forward = l.forward;
    onwards = omega (arith, l.place);
    taken = l.taken;
    near = omega (arith, l.near, l.place);
    told = l.told;
  };
  place = l.place;
}

more_ahead : (opened : Opened) (old new : View) (want before now : ℕ) → IsSound old → Looks opened old new want before now → length (ahead old) ≤ length (ahead new)
more_ahead opened old new want before now s l = omega (arith, ahead_len old s, ahead_len new l.sound, l.place, l.forward)

pub lent_ok : (opened : Opened) (cutter later : QuotedRecords) (old new : View) (len behind start : ℕ) (bytes content : List ℕ) (line : Line) (before now : ℕ)
    → IsSound old → IsReady cutter old → len + behind ≤ length (ahead old) → len + behind ≤ old.longest + 2 → Looks opened old new (len + behind) before now → IsAhead new (len + behind) bytes
    → later.dialect ≡ cutter.dialect → later.longest ≡ cutter.longest → later.pending ≡ Passed (len + behind)
    → ((object : List ℕ) → content ≡ content_at start (take len (drop new.place object)) → LendsLine new len behind (Ok line) object)
    → content ≡ content_at start (take len bytes) → StandsThere new (Ok line)
    → LendsRecord opened cutter later old new len behind (Ok line) before now
lent_ok opened cutter later old new len behind start bytes content line before now sound ready shown short looks lent d l p shows same stands = record {
  stays = looks_stays opened old new (len + behind) before now looks (omega (arith, short));
  ready = record {
    sound = looks.sound;
    limit = l ∙ ready.limit ∙ sym looks.rules.longest;
    shown = omega (arith, ap pending_len p, shown, more_ahead opened old new (len + behind) before now sound looks);
  };
  dialect = d;
  failed = lent.works;
  place = stands;
  passed = λ _. p;
  unpassed = λ e. absurd (clash (sym e));
  told = λ object t h.
      let here = looks.told object t h in
      let enough : len ≤ length bytes = omega (arith, ap length lent.bytes, shown, more_ahead opened old new (len + behind) before now sound looks) in
      shows object (same ∙ ap (λ b. content_at start (take len b)) (lent.told object here) ∙ ap (content_at start) (take-take len (length bytes) (drop new.place object) enough));
}

pub lent_err : (opened : Opened) (cutter : QuotedRecords) (old new : View) (len behind : ℕ) (failed : Failed) (before now : ℕ)
    → IsSound old → IsReady cutter old → cutter.pending ≡ Nothing → len + behind ≤ old.longest + 2 → Looks opened old new (len + behind) before now → new.failed ≡ true
    → LendsRecord opened cutter cutter old new len behind (Err failed) before now
lent_err opened cutter old new len behind failed before now sound ready none short looks fails = record {
  stays = looks_stays opened old new (len + behind) before now looks (omega (arith, short));
  ready = record {
    sound = looks.sound;
    limit = ready.limit ∙ sym looks.rules.longest;
    shown = omega (arith, ap pending_len none);
  };
  dialect = refl;
  failed = fails;
  place = tt;
  passed = λ e. absurd (clash (sym e));
  unpassed = λ _. none;
  told = λ object t h. tt;
}

-- ---- a content is no longer than its body

unmarked_within : (xs : List ℕ) → length (without_mark xs) ≤ length xs
unmarked_within xs =
    let P : Bool → Type 0 = λ b. length (if b then drop 3 xs else xs) ≤ length xs in
    elim (bytes_eq (take 3 xs) (0xef ∷ 0xbb ∷ 0xbf ∷ [])) as P [ true ↦ rw length-drop (omega arith) | false ↦ omega arith ]

content_within : (place : ℕ) (body : List ℕ) → length (content_at place body) ≤ length body
content_within place body =
    let shorter = unmarked_within body in
    let P : Bool → Type 0 = λ b. length (if b then without_mark body else body) ≤ length body in
    elim (place == 0) as P [ true ↦ shorter | false ↦ omega arith ]

pub lent_within : (place len longest : ℕ) (bytes content : List ℕ) → content ≡ content_at place (take len bytes) → len ≤ longest → length content ≤ longest
lent_within place len longest bytes content is short =
    omega (arith, ap length is, content_within place (take len bytes), length-take len bytes, short)
