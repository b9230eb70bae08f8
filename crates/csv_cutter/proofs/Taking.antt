-- The answers of a cutter are the next of the records that are left.
use Rattle.std.proofs.Common.{◌≡◌, ℕ, ◌+◌, ◌-◌, ◌≤◌, ◌<◌, Bool, true, false, List, [], ◌∷◌, take, drop, length, refl, sym, ◌∙◌, ap, subst, arith, min, Result, Ok, Err, IfOk, IsOk, IsErr, OnErr, is_err, ⊎_elim}
use Rattle.std.proofs.lemmas.Bool.{cases_lt}
use Rattle.std.proofs.lemmas.List.{length-take}
use Rattle.select_ports.specs.declared.outcome.Failed.{Failed}
use Rattle.select_ports.specs.Causes.{Rose}
use Rattle.select_ports.specs.Stored.{Opened}
use Rattle.line_window.specs.Cuts.{Cut}
use Rattle.line_window.specs.Sliding.{View, ahead, Tells, Holds, IsSound}
use Rattle.line_window.specs.Ahead.{Passes}
use Rattle.line_window.specs.Answers.{IsNextCut, IsWithin}
use Rattle.csv_cutter.specs.declared.dialect.Dialect.{Dialect}
use Rattle.csv_cutter.specs.declared.walk.State.{State}
use Rattle.csv_cutter.specs.declared.looks.Look.{Look}
use Rattle.csv_cutter.specs.declared.looks.Ahead.TheVariants.{Delimiter}
use Rattle.csv_cutter.specs.declared.records.Pending.{Pending}
use Rattle.csv_cutter.specs.declared.records.Pending.TheVariants.{Nothing, Passed, Rest}
use Rattle.csv_cutter.specs.declared.records.QuotedRecords.{QuotedRecords}
use Rattle.csv_cutter.specs.Records.{AreRecords, delimiter_of, content_at}
use Rattle.csv_cutter.specs.Stops.{stop_from, body_len, cut_of}
use Rattle.csv_cutter.specs.Looks.{Moves, Stays, IsLook, Ends, IsFound}
use Rattle.csv_cutter.specs.Cutter.{pending_len, next_start, Left, IsReady, Settles, Finds, ShowsFound, FindsNext, TakesRecord, GoesFurther, GoesOn, LendsLine, LendsRecord}
use Rattle.csv_cutter.specs.Dialects.{is_valid}
use Rattle.csv_cutter.specs.declared.looks.Found.{Found}
use Rattle.csv_cutter.specs.declared.looks.Found.TheVariants.{Record, Long, Past}
use Rattle.line_window.specs.declared.line.Line.{Line}
use Rattle.line_window.specs.declared.line.Line.TheVariants.{At, TooLong, End}
use Rattle.csv_cutter.proofs.Characters.{clash, apart, delimits}
use Rattle.csv_cutter.proofs.Stopping.{record_alone, body_within}
use Rattle.csv_cutter.proofs.Moving.{moves_on, stays_none}

-- ---- passing bytes

pub pass_moves : (opened : Opened) (old new : View) (n before : ℕ) → IsSound old → Passes n old new → Moves opened old new before before
pass_moves opened old new n before s p = record {
  sound = p.sound;
  rules = p.rules;
  forward = omega (arith, p.upto);
  onwards = omega (arith, p.place);
  taken = record { none = λ _. refl; some = λ lt. absurd (omega (arith, p.upto)) };
  near = omega (arith, p.upto);
  told = λ object t h. p.told object h;
}

-- behind the object's end no record is left
pub past_records : (d : Dialect) (object : List ℕ) (p q : ℕ) (cuts : List Cut) → length object ≤ p → length object ≤ q → AreRecords d object p cuts → AreRecords d object q cuts
past_records d object p q [] h g r = g
past_records d object p q (cut ∷ cuts) h g r = absurd (omega (arith, h, r.0.some))

pub records_at : (d : Dialect) (object : List ℕ) (p q : ℕ) (cuts : List Cut) → p ≡ q → AreRecords d object p cuts → AreRecords d object q cuts
records_at d object p q cuts e r = let P : ℕ → Type 0 = λ n. AreRecords d object n cuts in subst P e r

-- ---- the rest of a record that is too long

-- on the way through it: where the next record starts stays the same
pub record Passing (opened : Opened) (d : Dialect) (old v : View) (s : State) (n : ℕ) (t : State) (m : ℕ) : Type 0 where
  pub shown : m ≤ length (ahead v)
  pub onwards : old.place + n ≤ v.place + m
  pub same : (object : List ℕ) → Tells opened object → Holds object old
      → old.place + n + stop_from d s (drop (old.place + n) object) ≡ v.place + m + stop_from d t (drop (v.place + m) object)

-- a pass, and then a look from there
pub record PassesOn (opened : Opened) (d : Dialect) (old v w x : View) (s : State) (n : ℕ) (t : State) (m : ℕ) (before between now : ℕ) : Type 0 where
  pub before_it : Moves opened old v before between
  pub passing : Passing opened d old v s n t m
  pub passes : Passes m v w
  pub looks : Stays opened w x between now

pub passed_moves : (opened : Opened) (d : Dialect) (old v w x : View) (s : State) (n : ℕ) (t : State) (m before between now : ℕ) → PassesOn opened d old v w x s n t m before between now → Moves opened old x before now
passed_moves opened d old v w x s n t m before between now p =
    moves_on opened old w x before between now (moves_on opened old v w before between between p.before_it (pass_moves opened v w m between p.before_it.sound p.passes)) p.looks.moves

-- behind a pass the walk starts at the window's place
pub passed_same : (opened : Opened) (d : Dialect) (old v w x : View) (s : State) (n : ℕ) (t : State) (m before between now : ℕ) → PassesOn opened d old v w x s n t m before between now
    → (object : List ℕ) → Tells opened object → Holds object old → old.place + n + stop_from d s (drop (old.place + n) object) ≡ x.place + 0 + stop_from d t (drop (x.place + 0) object)
passed_same opened d old v w x s n t m before between now p object told holds =
    let place : v.place + m ≡ x.place + 0 = omega (arith, p.passes.place, p.looks.place) in
    p.passing.same object told holds ∙ ap (λ q. q + stop_from d t (drop q object)) place

pub look_on : (opened : Opened) (d : Dialect) (old v w x : View) (s : State) (n : ℕ) (t : State) (m : ℕ) (look : Look) (before between now : ℕ) → PassesOn opened d old v w x s n t m before between now
    → IsLook d x 0 t look → Passing opened d old x s n look.state look.at
look_on opened d old v w x s n t m look before between now p l = record {
  shown = l.high;
  onwards = omega (arith, p.passing.onwards, p.passes.place, p.looks.place);
  same = λ object told holds.
      let here = (passed_moves opened d old v w x s n t m before between now p).told object told holds in
      omega (arith, passed_same opened d old v w x s n t m before between now p object told holds, l.walked object here);
}

-- ---- the answered record is passed

not_passed : (q : Pending) (n : ℕ) → q ≡ Passed n → q ≡ Nothing → ⊥
not_passed q n is none = absurd (cc)

not_rest : (q : Pending) (s : State) (n : ℕ) → q ≡ Rest s n → q ≡ Nothing → ⊥
not_rest q s n is none = absurd (cc)

pub settle_none : (opened : Opened) (cutter : QuotedRecords) (v : View) (before : ℕ) → IsSound v → IsReady cutter v → cutter.pending ≡ Nothing → Settles opened cutter cutter v v (Ok tt) before before
settle_none opened cutter v before s r p = record {
  moves = (stays_none opened v before s).moves;
  ready = r;
  dialect = refl;
  failed = λ e. absurd (clash (sym e));
  works = λ _. refl;
  settled = λ _. p;
  onwards = λ _. omega (arith, ap pending_len p);
  stays = λ _. refl;
  told = λ object t h cuts l. l;
}

pub settle_passed : (opened : Opened) (cutter later : QuotedRecords) (old new : View) (n before : ℕ) → IsSound old → IsReady cutter old → cutter.pending ≡ Passed n → Passes n old new
    → later.dialect ≡ cutter.dialect → later.longest ≡ cutter.longest → later.pending ≡ Nothing → Settles opened cutter later old new (Ok tt) before before
settle_passed opened cutter later old new n before s r p passes d l none = record {
  moves = pass_moves opened old new n before s passes;
  ready = record { sound = passes.sound; limit = l ∙ r.limit ∙ sym passes.rules.longest; shown = omega (arith, ap pending_len none) };
  dialect = d;
  failed = λ e. absurd (clash (sym e));
  works = λ _. passes.failed;
  settled = λ _. none;
  onwards = λ _. omega (arith, passes.place, ap pending_len p);
  stays = λ none. absurd (not_passed cutter.pending n p none);
  told = λ object t h cuts left.
      let before_it : AreRecords cutter.dialect object (old.place + n) cuts = records_at cutter.dialect object _ _ cuts (ap (λ q. next_start cutter.dialect q object old.place) p) left in
      let same : old.place + n ≡ next_start later.dialect later.pending object new.place = sym passes.place ∙ ap (λ q. next_start later.dialect q object new.place) (sym none) in
      let P : Dialect → Type 0 = λ x. AreRecords x object (next_start later.dialect later.pending object new.place) cuts in
      subst P (sym d) (records_at cutter.dialect object _ _ cuts same before_it);
}

works_same : (b : Bool) → (b ≡ true → ⊥) → false ≡ b
works_same true h = absurd (h refl)
works_same false h = refl

-- what a pass of the whole rest leaves, where it goes from place `old` to place `new`
pub settle_rest : (opened : Opened) (cutter later : QuotedRecords) (old v w x new : View) (s : State) (n : ℕ) (t : State) (m k before between now : ℕ)
    → PassesOn opened cutter.dialect old v w x s n t m before between now → Passes k x new
    → cutter.longest ≡ old.longest → cutter.pending ≡ Rest s n → later.dialect ≡ cutter.dialect → later.longest ≡ cutter.longest → later.pending ≡ Nothing
    → (old.failed ≡ true → ⊥) → x.failed ≡ false
    → ((object : List ℕ) → Holds object x → (cuts : List Cut) → AreRecords cutter.dialect object (x.place + 0 + stop_from cutter.dialect t (drop (x.place + 0) object) + length (delimiter_of cutter.dialect)) cuts
    → AreRecords cutter.dialect object (x.place + k) cuts)
    → Settles opened cutter later old new (Ok tt) before now
settle_rest opened cutter later old v w x new s n t m k before between now p passes limit pending d l none works fine ends =
    let moved = passed_moves opened cutter.dialect old v w x s n t m before between now p in
    let moves = moves_on opened old x new before now now moved (pass_moves opened x new k now moved.sound passes) in
    record {
      moves = moves;
      ready = record { sound = moves.sound; limit = l ∙ limit ∙ sym moves.rules.longest; shown = omega (arith, ap pending_len none) };
      dialect = d;
      failed = λ e. absurd (clash (sym e));
      works = λ _. passes.failed ∙ fine ∙ works_same old.failed works;
      settled = λ _. none;
      onwards = λ _. omega (arith, p.passing.onwards, p.passes.place, p.looks.place, passes.place, ap pending_len pending);
      stays = λ none. absurd (not_rest cutter.pending s n pending none);
      told = λ object told holds cuts left.
          let width = length (delimiter_of cutter.dialect) in
          let start : next_start cutter.dialect cutter.pending object old.place ≡ x.place + 0 + stop_from cutter.dialect t (drop (x.place + 0) object) + width =
          ap (λ q. next_start cutter.dialect q object old.place) pending ∙ ap (λ q. q + width) (passed_same opened cutter.dialect old v w x s n t m before between now p object told holds) in
          let behind = ends object (moved.told object told holds) cuts (records_at cutter.dialect object _ _ cuts start left) in
          let place : x.place + k ≡ next_start later.dialect later.pending object new.place = sym passes.place ∙ ap (λ q. next_start later.dialect q object new.place) (sym none) in
          let P : Dialect → Type 0 = λ y. AreRecords y object (next_start later.dialect later.pending object new.place) cuts in
          subst P (sym d) (records_at cutter.dialect object _ _ cuts place behind);
    }

-- the walk stops before the delimiter, or comes to the object's end
pub rest_delimiter : (d : Dialect) (x : View) (t : State) (look : Look) (object : List ℕ) (cuts : List Cut) → IsLook d x 0 t look → Ends d x 0 look.state look.at Delimiter → Holds object x
    → AreRecords d object (x.place + 0 + stop_from d t (drop (x.place + 0) object) + length (delimiter_of d)) cuts → AreRecords d object (x.place + (look.at + length (delimiter_of d))) cuts
rest_delimiter d x t look object cuts l e h r = records_at d object _ _ cuts (omega (arith, l.walked object h, e.1 object h)) r

pub rest_object : (d : Dialect) (x : View) (t : State) (look : Look) (object : List ℕ) (cuts : List Cut) → IsLook d x 0 t look → x.place + look.at ≡ x.size → Holds object x
    → AreRecords d object (x.place + 0 + stop_from d t (drop (x.place + 0) object) + length (delimiter_of d)) cuts → AreRecords d object (x.place + look.at) cuts
rest_object d x t look object cuts l e h r = past_records d object _ _ cuts (omega (arith, l.walked object h, h.size, e)) (omega (arith, h.size, e)) r

-- a read failed on the way
pub settle_failed : (opened : Opened) (cutter later : QuotedRecords) (old v w x : View) (s : State) (n : ℕ) (t : State) (m before between now : ℕ) (failed : Failed)
    → PassesOn opened cutter.dialect old v w x s n t m before between now
    → cutter.longest ≡ old.longest → cutter.pending ≡ Rest s n → later.dialect ≡ cutter.dialect → later.longest ≡ cutter.longest → later.pending ≡ Rest t 0 → x.failed ≡ true
    → Settles opened cutter later old x (Err failed) before now
settle_failed opened cutter later old v w x s n t m before between now failed p limit pending d l rest fails =
    let moved = passed_moves opened cutter.dialect old v w x s n t m before between now p in
    record {
      moves = moved;
      ready = record { sound = moved.sound; limit = l ∙ limit ∙ sym moved.rules.longest; shown = omega (arith, ap pending_len rest) };
      dialect = d;
      failed = λ _. fails;
      works = λ e. absurd (clash (sym e));
      settled = λ e. absurd (clash (sym e));
      onwards = λ e. absurd (clash (sym e));
      stays = λ none. absurd (not_rest cutter.pending s n pending none);
      told = λ object told holds cuts left.
          let width = length (delimiter_of cutter.dialect) in
          let start : next_start cutter.dialect cutter.pending object old.place ≡ x.place + 0 + stop_from cutter.dialect t (drop (x.place + 0) object) + width =
          ap (λ q. next_start cutter.dialect q object old.place) pending ∙ ap (λ q. q + width) (passed_same opened cutter.dialect old v w x s n t m before between now p object told holds) in
          let place : next_start cutter.dialect cutter.pending object old.place ≡ next_start later.dialect later.pending object x.place =
          start ∙ ap (λ y. next_start y (Rest t 0) object x.place) (sym d) ∙ ap (λ q. next_start later.dialect q object x.place) (sym rest) in
          let P : Dialect → Type 0 = λ y. AreRecords y object (next_start later.dialect later.pending object x.place) cuts in
          subst P (sym d) (records_at cutter.dialect object _ _ cuts place left);
    }

-- ---- the next record is found

settled_records : (cutter : QuotedRecords) (object : List ℕ) (v : View) (cuts : List Cut) → cutter.pending ≡ Nothing → Left cutter object v cuts → AreRecords cutter.dialect object v.place cuts
settled_records cutter object v cuts p l = records_at cutter.dialect object _ _ cuts (ap (λ q. next_start cutter.dialect q object v.place) p) l

records_left : (cutter : QuotedRecords) (object : List ℕ) (v : View) (cuts : List Cut) (pending : Pending) → cutter.pending ≡ pending
    → AreRecords cutter.dialect object (next_start cutter.dialect pending object v.place) cuts → Left cutter object v cuts
records_left cutter object v cuts pending p r = records_at cutter.dialect object _ _ cuts (ap (λ q. next_start cutter.dialect q object v.place) (sym p)) r

finds : (opened : Opened) (d : Dialect) (mid new : View) (found : Found) → IsFound opened d mid new found → Finds d new found
finds opened d mid new Past h = h
finds opened d mid new (Record len behind) h = (h.some, h.shown, h.short, h.few, h.onwards)
finds opened d mid new (Long state n) h = (h.0.some, h.0.shown, h.1)

shows_found : (opened : Opened) (d : Dialect) (mid new : View) (found : Found) (object : List ℕ) → new.place ≡ mid.place → Tells opened object → Holds object mid → IsFound opened d mid new found → ShowsFound d object new found
shows_found opened d mid new Past object e t h f = tt
shows_found opened d mid new (Record len behind) object e t h f =
    let P : ℕ → Type 0 = λ p. (len ≡ body_len d p (drop p object)) × (len + behind ≡ min (len + length (delimiter_of d)) (length object - p)) in
    subst P (sym e) (f.told object t h)
shows_found opened d mid new (Long state n) object e t h f =
    let P : ℕ → Type 0 = λ p. body_len d p (drop p object) ≡ n + stop_from d state (drop (p + n) object) in
    subst P (sym e) (f.0.told object t h)

pub found_next : (opened : Opened) (cutter later : QuotedRecords) (old mid new : View) (result : Result Found Failed) (before between now : ℕ)
    → Settles opened cutter later old mid (Ok tt) before between → Stays opened mid new between now → new.failed ≡ is_err result
    → IfOk result (IsFound opened later.dialect mid new) → FindsNext opened cutter later old new result before now
found_next opened cutter later old mid new result before between now s stays failed found = record {
  moves = moves_on opened old mid new before between now s.moves stays.moves;
  ready = record {
    sound = stays.moves.sound;
    limit = s.ready.limit ∙ sym stays.moves.rules.longest;
    shown = omega (arith, ap pending_len (s.settled refl));
  };
  dialect = s.dialect;
  failed = failed;
  settled = λ _. s.settled refl;
  onwards = λ _. omega (arith, s.onwards refl, stays.place);
  stays = λ none. stays.place ∙ s.stays none;
  found = by_found result found;
  told = λ object t h cuts l.
      let here = settled_records later object mid cuts (s.settled refl) (s.told object t h cuts l) in
      records_left later object new cuts Nothing (s.settled refl) (records_at later.dialect object _ _ cuts (sym stays.place) here);
  shows = λ object t h. by_object object t (s.moves.told object t h) result found;
}
  where
    by_found : (result : Result Found Failed) → IfOk result (IsFound opened later.dialect mid new) → IfOk result (Finds later.dialect new)
    by_found (Ok found) h = finds opened later.dialect mid new found h
    by_found (Err failed) h = tt

    by_object : (object : List ℕ) → Tells opened object → Holds object mid → (result : Result Found Failed) → IfOk result (IsFound opened later.dialect mid new) → IfOk result (ShowsFound later.dialect object new)
    by_object object t h (Ok found) f = shows_found opened later.dialect mid new found object stays.place t h f
    by_object object t h (Err failed) f = tt

-- ---- the answers

pub took_end : (opened : Opened) (cutter later : QuotedRecords) (old new : View) (before now : ℕ) → FindsNext opened cutter later old new (Ok Past) before now
    → TakesRecord opened cutter later old new (Ok End) before now
took_end opened cutter later old new before now f = record {
  moves = f.moves;
  ready = f.ready;
  dialect = f.dialect;
  failed = f.failed;
  place = f.found;
  onwards = tt;
  stays = f.stays;
  told = λ object t h cuts l.
      let here = settled_records later object new cuts (f.settled refl) (f.told object t h cuts l) in
      let size : length object ≤ new.place = omega (arith, (f.moves.told object t h).size, f.found) in
      record {
        after = [];
        left = records_left later object new [] Nothing (f.settled refl) size;
        next = (no_records later.dialect object new.place cuts size here, refl);
      };
}
  where
    no_records : (d : Dialect) (object : List ℕ) (p : ℕ) (cuts : List Cut) → length object ≤ p → AreRecords d object p cuts → cuts ≡ []
    no_records d object p [] h r = refl
    no_records d object p (cut ∷ cuts) h r = absurd (omega (arith, h, r.0.some))

-- the first of the records that are left
record IsFirst (d : Dialect) (object : List ℕ) (p : ℕ) (cuts : List Cut) : Type 0 where
  others : List Cut
  is : cuts ≡ cut_of d object p ∷ others
  rest : AreRecords d object (p + (cut_of d object p).whole) others

first_record : (d : Dialect) → is_valid d ≡ true → (object : List ℕ) (p : ℕ) (cuts : List Cut) → p < length object → AreRecords d object p cuts → IsFirst d object p cuts
first_record d valid object p [] l r = absurd (omega arith)
first_record d valid object p (cut ∷ cuts) l r =
    let same = record_alone d (apart d valid) (delimits d valid) object p cut r.0 in
    record { others = cuts; is = ap (λ c. c ∷ cuts) same; rest = records_at d object _ _ cuts (ap (λ c. p + c.whole) same) r.1 }

-- where the record ends at the object's end, so does what is behind it
behind_record : (d : Dialect) (object : List ℕ) (p n w q : ℕ) (cuts : List Cut) → w ≡ min (n + length (delimiter_of d)) (length object - p) → q ≡ p + n + length (delimiter_of d)
    → AreRecords d object (p + w) cuts → AreRecords d object q cuts
behind_record d object p n w q cuts e f r =
    ⊎_elim
    (λ l. records_at d object _ _ cuts (omega arith) r)
    (λ past. past_records d object (p + w) q cuts (omega arith) (omega arith) r) (cases_lt (p + n + length (delimiter_of d)) (length object))

pub took_long : (opened : Opened) (cutter found later : QuotedRecords) (old new : View) (state : State) (n start before now : ℕ) → is_valid found.dialect ≡ true
    → FindsNext opened cutter found old new (Ok (Long state n)) before now → start ≡ new.place
    → later.dialect ≡ found.dialect → later.longest ≡ found.longest → later.pending ≡ Rest state n
    → TakesRecord opened cutter later old new (Ok (TooLong start)) before now
took_long opened cutter found later old new state n start before now valid f s d l p = record {
  moves = f.moves;
  ready = record { sound = f.moves.sound; limit = l ∙ f.ready.limit; shown = omega (arith, ap pending_len p, f.found.1) };
  dialect = d ∙ f.dialect;
  failed = f.failed;
  place = s;
  onwards = omega (arith, f.onwards refl, f.found.2, ap pending_len p);
  stays = f.stays;
  told = λ object t h cuts left.
      let here = f.moves.told object t h in
      let there = settled_records found object new cuts (f.settled refl) (f.told object t h cuts left) in
      let first = first_record found.dialect valid object new.place cuts (omega (arith, f.found.0, here.size)) there in
      let len = body_len found.dialect new.place (drop new.place object) in
      let shows = f.shows object t h in
      let behind : AreRecords found.dialect object (next_start found.dialect (Rest state n) object new.place) first.others =
      behind_record found.dialect object new.place len (cut_of found.dialect object new.place).whole _ first.others refl (omega (arith, shows)) first.rest in
      let P : Dialect → Type 0 = λ x. AreRecords x object (next_start x (Rest state n) object new.place) first.others in
      record {
        after = first.others;
        left = records_left later object new first.others (Rest state n) p (subst P (sym d) behind);
        next = record {
          cut = cut_of found.dialect object new.place;
          first = first.is;
          shown = (s, omega (arith, f.found.2, f.moves.rules.longest, shows, length-take len (drop new.place object), body_within found.dialect (delimits found.dialect valid) new.place (drop new.place object)));
        };
      };
}

-- the line that was lent shows the first record
shows_record : (d : Dialect) → is_valid d ≡ true → (object : List ℕ) (mid new : View) (len behind longest : ℕ) (line : Line) (cuts after : List Cut) → new.place ≡ mid.place
    → ShowsFound d object mid (Record len behind) → len ≤ longest → cuts ≡ cut_of d object mid.place ∷ after → LendsLine new len behind (Ok line) object → IsNextCut longest cuts after line
shows_record d valid object mid new len behind longest (At start bytes whole) cuts after e shows short is line =
    let same : start ≡ mid.place = line.0 ∙ e in
    let body : take len (drop new.place object) ≡ (cut_of d object mid.place).body = ap (λ p. take len (drop p object)) e ∙ ap (λ n. take n (drop mid.place object)) shows.0 in
    record {
      cut = cut_of d object mid.place;
      first = is;
      shown = (
        same,
        record {
          short = omega (arith, short, shows.0, length-take (body_len d mid.place (drop mid.place object)) (drop mid.place object));
          bytes = line.1 ∙ ap (content_at start) body ∙ ap (λ p. content_at p (cut_of d object mid.place).body) same;
          whole = line.2 ∙ shows.1 ∙ ap (λ n. min (n + length (delimiter_of d)) (length object - mid.place)) shows.0;
        },
      );
    }
shows_record d valid object mid new len behind longest (TooLong start) cuts after e shows short is line = absurd line
shows_record d valid object mid new len behind longest End cuts after e shows short is line = absurd line

pub took_record : (opened : Opened) (cutter found later : QuotedRecords) (old mid new : View) (len behind : ℕ) (result : Result Line Failed) (before between now : ℕ) → is_valid found.dialect ≡ true
    → FindsNext opened cutter found old mid (Ok (Record len behind)) before between → LendsRecord opened found later mid new len behind result between now
    → TakesRecord opened cutter later old new result before now
took_record opened cutter found later old mid new len behind result before between now valid f lends = record {
  moves = moves_on opened old mid new before between now f.moves lends.stays.moves;
  ready = lends.ready;
  dialect = lends.dialect ∙ f.dialect;
  failed = lends.failed;
  place = lends.place;
  onwards = further result (lends.passed);
  stays = λ none. lends.stays.place ∙ f.stays none;
  told = λ object t h cuts left. by_result result (lends.passed) (lends.unpassed) object t h cuts left (lends.told object t (f.moves.told object t h));
}
  where
    further : (result : Result Line Failed) → (IsOk result → later.pending ≡ Passed (len + behind)) → GoesFurther cutter later old new result
    further (Ok (At start bytes whole)) passed = omega (arith, f.onwards refl, f.found.4, lends.stays.place, ap pending_len (passed refl))
    further (Ok (TooLong start)) passed = omega (arith, f.onwards refl, f.found.4, lends.stays.place, ap pending_len (passed refl))
    further (Ok End) passed = tt
    further (Err failed) passed = tt

    by_result : (result : Result Line Failed) → (IsOk result → later.pending ≡ Passed (len + behind)) → (IsErr result → later.pending ≡ Nothing)
        → (object : List ℕ) → Tells opened object → Holds object old → (cuts : List Cut) → Left cutter object old cuts → LendsLine new len behind result object
        → GoesOn later object new old.longest cuts result
    by_result (Ok line) passed unpassed object t h cuts left shown =
        let here = f.moves.told object t h in
        let there = settled_records found object mid cuts (f.settled refl) (f.told object t h cuts left) in
        let first = first_record found.dialect valid object mid.place cuts (omega (arith, f.found.0, here.size)) there in
        let shows = f.shows object t h in
        let whole : mid.place + (cut_of found.dialect object mid.place).whole ≡ new.place + (len + behind) =
        omega (arith, shows.1, ap (λ n. min (n + length (delimiter_of found.dialect)) (length object - mid.place)) shows.0, lends.stays.place) in
        let P : Dialect → Type 0 = λ x. AreRecords x object (next_start x (Passed (len + behind)) object new.place) first.others in
        record {
          after = first.others;
          left = records_left later object new first.others (Passed (len + behind)) (passed refl) (subst P (sym lends.dialect) (records_at found.dialect object _ _ first.others whole first.rest));
          next = shows_record found.dialect valid object mid new len behind old.longest line cuts first.others lends.stays.place shows (omega (arith, f.found.2, f.moves.rules.longest)) first.is shown;
        }
    by_result (Err failed) passed unpassed object t h cuts left shown =
        let there = settled_records found object mid cuts (f.settled refl) (f.told object t h cuts left) in
        let P : Dialect → Type 0 = λ x. AreRecords x object (next_start x Nothing object new.place) cuts in
        record {
          after = cuts;
          left = records_left later object new cuts Nothing (unpassed refl) (subst P (sym lends.dialect) (records_at found.dialect object _ _ cuts (sym lends.stays.place) there));
          next = refl;
        }

-- a cause that came in the second of two calls
pub later_cause : {A : Type 0} (result : Result A Failed) (P Q : Type 0) (before between now : ℕ) → P → before ≤ between → OnErr result (P → Rose between now) → OnErr result (Q → Rose before now)
later_cause (Ok a) P Q before between now p l h = tt
later_cause (Err failed) P Q before between now p l h = λ _. let rose = h p in omega (arith, l, rose)

-- the record limit, as the window has it before and after
pub within_same : (result : Result Line Failed) (n m : ℕ) → n ≡ m → IfOk result (IsWithin n) → IfOk result (IsWithin m)
within_same result n m same within = subst (λ k. IfOk result (IsWithin k)) same within
