-- How a cutter moves its window.
use Rattle.std.proofs.Common.{◌≡◌, ℕ, zero, suc, ◌+◌, ◌-◌, ◌≤◌, ◌<◌, List, [], drop, length, refl, sym, ◌∙◌, ap, arith, length-drop}
use Rattle.std.proofs.lemmas.List.{drop-drop, drop_all}
use Rattle.select_ports.specs.Causes.{RoseBy}
use Rattle.select_ports.specs.Stored.{Opened}
use Rattle.line_window.specs.Sliding.{View, ahead, kept_from, IsSound, SameRules, Took}
use Rattle.csv_cutter.specs.declared.dialect.Dialect.{Dialect}
use Rattle.csv_cutter.specs.declared.walk.State.{State}
use Rattle.csv_cutter.specs.declared.looks.Look.{Look}
use Rattle.csv_cutter.specs.declared.looks.Ahead.TheVariants.{Delimiter}
use Rattle.csv_cutter.specs.declared.looks.Opening.{Opening}
use Rattle.select_request.specs.declared.request.Delimiter.{Delimiter as RecordDelimiter}
use Rattle.select_request.specs.declared.request.Delimiter.TheVariants.{One, Two}
use Rattle.csv_cutter.specs.Dialects.{delimiter_bytes}
use Rattle.csv_cutter.specs.Records.{delimiter_of}
use Rattle.csv_cutter.specs.Stops.{stop_from, first_state, mark_len}
use Rattle.csv_cutter.specs.Looks.{Moves, Stays, IsLook, Ends, IsOpening, IsEnding, IsWhole}
use Rattle.csv_cutter.proofs.Stopping.{stop_nil, body_is}

pub ahead_len : (v : View) → IsSound v → length (ahead v) ≡ v.upto - v.place
ahead_len v s = omega (arith, s.kept, length-drop (v.place - kept_from v) v.kept)

same_rules : (a b c : View) → SameRules a b → SameRules b c → SameRules a c
same_rules a b c h g = record { size = g.size ∙ h.size; stop = g.stop ∙ h.stop; longest = g.longest ∙ h.longest; delimiter = g.delimiter ∙ h.delimiter }

took_more : (a b n before mid now : ℕ) → n ≡ a + b → Took a before mid → Took b mid now → Took n before now
took_more a b n before mid now sum first second = record {
  none = λ e. second.none (omega arith) ∙ first.none (omega arith);
  some = λ lt. by_parts a b first second sum lt;
}
  where
    by_parts : (a b : ℕ) → Took a before mid → Took b mid now → n ≡ a + b → 0 < n → RoseBy n before now
    by_parts zero zero first second e lt = absurd (omega arith)
    by_parts zero (suc b) first second e lt = omega (arith, first.none refl, second.some (omega arith))
    by_parts (suc a) zero first second e lt = omega (arith, first.some (omega arith), second.none refl)
    by_parts (suc a) (suc b) first second e lt = omega (arith, first.some (omega arith), second.some (omega arith))

-- one move after another
pub moves_on : (opened : Opened) (a b c : View) (before between now : ℕ) → Moves opened a b before between → Moves opened b c between now → Moves opened a c before now
moves_on opened a b c before between now h g = record {
  sound = g.sound;
  rules = same_rules a b c h.rules g.rules;
  forward = omega (arith, h.forward, g.forward);
  onwards = omega (arith, h.onwards, g.onwards);
  taken =
      took_more (b.upto - a.upto) (c.upto - b.upto) (c.upto - a.upto) before between now (omega (arith, h.forward, g.forward)) h.taken g.taken;
  near = omega (arith, h.near, g.near, h.rules.longest, g.onwards);
  told = λ object t o. g.told object t (h.told object t o);
}

pub stays_on : (opened : Opened) (a b c : View) (before between now : ℕ) → Stays opened a b before between → Stays opened b c between now → Stays opened a c before now
stays_on opened a b c before between now h g = record { moves = moves_on opened a b c before between now h.moves g.moves; place = g.place ∙ h.place }

pub opening_ends : (opened : Opened) (d : Dialect) (v : View) (o : Opening) → IsOpening d v o → IsEnding opened d v v o.mark o.state
opening_ends opened d v o h = record {
  some = h.some;
  shown = h.shown;
  told = λ object t holds.
      let told = h.told object holds in
      let rest : List ℕ = drop v.place object in
      let place : drop (mark_len v.place rest) rest ≡ drop (v.place + o.mark) object = ap (λ n. drop n rest) (sym told.0) ∙ drop-drop o.mark v.place object in
      omega (
        arith,
        body_is d v.place rest,
        told.0,
        ap (λ l. stop_from d (first_state d l) l) place,
        ap (λ s. stop_from d s (drop (v.place + o.mark) object)) told.1,
      );
}

-- a look further
pub ending_on : (opened : Opened) (d : Dialect) (old v w : View) (from : ℕ) (s : State) (look : Look) (before between now : ℕ) → Stays opened old v before between → Stays opened v w between now
    → IsEnding opened d old v from s → IsLook d w from s look → IsEnding opened d old w look.at look.state
ending_on opened d old v w from s look before between now a b e l = record {
  some = omega (arith, e.some, b.place, b.moves.rules.size);
  shown = l.high;
  told = λ object t holds.
      let place : w.place ≡ old.place = b.place ∙ a.place in
      let walked = l.walked object (b.moves.told object t (a.moves.told object t holds)) in
      omega (
        arith,
        e.told object t holds,
        walked,
        ap (λ p. stop_from d s (drop (p + from) object)) place,
        ap (λ p. stop_from d look.state (drop (p + look.at) object)) place,
        l.low,
      );
}

width_few : (delimiter : RecordDelimiter) → length (delimiter_bytes delimiter) ≤ 2
width_few (One a) = omega arith
width_few (Two a b) = omega arith

width_any : (delimiter : RecordDelimiter) → 0 < length (delimiter_bytes delimiter)
width_any (One a) = omega arith
width_any (Two a b) = omega arith

pub ended_delimiter : (opened : Opened) (d : Dialect) (old v w : View) (from : ℕ) (s : State) (look : Look) (before between now : ℕ) → Stays opened old v before between → Stays opened v w between now
    → IsEnding opened d old v from s → IsLook d w from s look → look.at ≤ w.longest → Ends d w from look.state look.at Delimiter
    → IsWhole opened d old w look.at (length (delimiter_of d))
ended_delimiter opened d old v w from s look before between now a b e l short ends =
    let later = ending_on opened d old v w from s look before between now a b e l in
    record {
      some = later.some;
      shown = ends.0;
      short = short;
      few = width_few d.delimiter;
      onwards = omega (arith, width_any d.delimiter);
      told = λ object t holds.
          let place : w.place ≡ old.place = b.place ∙ a.place in
          let here = b.moves.told object t (a.moves.told object t holds) in (
            omega (arith, later.told object t holds, ends.1 object here, ap (λ p. stop_from d look.state (drop (p + look.at) object)) place),
            omega (arith, ends.0, ahead_len w b.moves.sound, b.moves.sound.read, here.size, place),
          );
    }

pub ended_object : (opened : Opened) (d : Dialect) (old v w : View) (from : ℕ) (s : State) (look : Look) (before between now : ℕ) → Stays opened old v before between → Stays opened v w between now
    → IsEnding opened d old v from s → IsLook d w from s look → look.at ≤ w.longest → w.place + look.at ≡ w.size
    → IsWhole opened d old w look.at 0
ended_object opened d old v w from s look before between now a b e l short ends =
    let later = ending_on opened d old v w from s look before between now a b e l in
    record {
      some = later.some;
      shown = omega (arith, l.high);
      short = short;
      few = omega arith;
      onwards = omega (arith, later.some, ends);
      told = λ object t holds.
          let place : w.place ≡ old.place = b.place ∙ a.place in
          let here = b.moves.told object t (a.moves.told object t holds) in
          let none : drop (old.place + look.at) object ≡ [] = drop_all (old.place + look.at) object (omega (arith, here.size, ends, place)) in (
            omega (arith, later.told object t holds, ap (stop_from d look.state) none, stop_nil d look.state),
            omega (arith, here.size, ends, place),
          );
    }

pub stays_none : (opened : Opened) (v : View) (before : ℕ) → IsSound v → Stays opened v v before before
stays_none opened v before s = record {
  moves = record {
    sound = s;
    rules = record { size = refl; stop = refl; longest = refl; delimiter = refl };
    forward = omega arith;
    onwards = omega arith;
    taken = record { none = λ _. refl; some = λ lt. absurd (omega arith) };
    near = omega arith;
    told = λ object t h. h;
  };
  place = refl;
}
