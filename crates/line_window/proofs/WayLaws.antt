-- The loops of a window: the way to the next start, to the end of a line, and to as many bytes as are wanted.
use Rattle.std.proofs.Common.{◌≡◌, ℕ, ◌+◌, ◌-◌, ◌<◌, ◌≤◌, true, false, List, ◌++◌, length, drop, take, Result, Ok, Err, refl, ap, ◌∙◌, subst, inl, inr, arith, length-append}
use Rattle.std.proofs.lemmas.List.{append_assoc, drop-append-le, take-append-le, take_all}
use Rattle.std.proofs.lemmas.Bool.{cases_lt}
use Rattle.std.specs.Prelude.{IsErr}
use Rattle.select_ports.specs.declared.outcome.Failed.{Failed}
use Rattle.select_ports.specs.Stored.{Opened}
use Rattle.line_window.specs.Delimiters.{StandsAt, HasNone}
use Rattle.line_window.specs.Sliding.{View, ahead, kept_from, Tells, Holds, IsSound, SameRules, Took}
use Rattle.line_window.specs.Steps.{Grows, IsNear, Measuring, Measures}
use Rattle.line_window.specs.declared.window.Body.{Body}
use Rattle.line_window.proofs.DelimiterLaws.{width, stands_of_front}
use Rattle.line_window.proofs.KeptLaws.{ahead_len}

pub took_none : (n before : ℕ) → n ≡ 0 → Took n before before
took_none n before none = record { none = λ e. refl; some = λ lt. absurd (omega arith) }

pub took_more : (a b n before mid now : ℕ) → n ≡ a + b → Took a before mid → Took b mid now → Took n before now
took_more a b n before mid now sum first second = record {
  none = λ e. second.none (omega arith) ∙ first.none (omega arith);
  some = λ lt.
      elim (cases_lt 0 a) [
        | inl more ↦
            let at_mid = first.some more in
            elim (cases_lt 0 b) [
              | inl again ↦ let at_end = second.some again in omega arith
              | inr still ↦ let at_end = second.none (omega arith) in omega arith
            ]
        | inr still ↦
            let at_mid = first.none (omega arith) in
            let again = second.some (omega arith) in omega arith
      ];
}

pub same_rules : (v : View) → SameRules v v
same_rules v = record { size = refl; stop = refl; longest = refl; delimiter = refl }

pub more_rules : (a b c : View) → SameRules a b → SameRules b c → SameRules a c
more_rules a b c first second = record {
  size = second.size ∙ first.size;
  stop = second.stop ∙ first.stop;
  longest = second.longest ∙ first.longest;
  delimiter = second.delimiter ∙ first.delimiter;
}

pub grows_more : (a b c : View) → Grows a b → Grows b c → Grows a c
grows_more a b c first second = record {
  sound = second.sound;
  rules = more_rules a b c first.rules second.rules;
  place = second.place ∙ first.place;
  piece = first.piece ++ second.piece;
  kept = second.kept ∙ ap (λ l. l ++ second.piece) first.kept ∙ append_assoc a.kept first.piece second.piece;
  upto = omega (arith, length-append first.piece second.piece, first.upto, second.upto);
}

pub near_grown : (old new : View) → Grows old new → IsNear old → IsNear new
near_grown old new grows near =
    let stop = grows.rules.stop in
    let place = grows.place in
    let upto = grows.upto in
    let range = near.range in
    let read = near.read in
    record { range = omega arith; read = omega arith }

-- more bytes are ahead
ahead_grown : (old new : View) → IsSound old → old.place ≤ old.upto → (grows : Grows old new) → ahead new ≡ ahead old ++ grows.piece
ahead_grown old new sound read grows =
    let width : length new.delimiter ≡ length old.delimiter = ap length grows.rules.delimiter in
    let place = grows.place in
    let fits = sound.kept in
    let lead : new.place - kept_from new ≡ old.place - kept_from old = omega arith in
    ap (λ n. drop n new.kept) lead
    ∙ ap (drop (old.place - kept_from old)) grows.kept
    ∙ drop-append-le (old.place - kept_from old) old.kept grows.piece (omega arith)

-- what begins no delimiter begins none when more was read, but for the last bytes
pub clear_grown : (old new : View) (n : ℕ) → IsSound old → old.place ≤ old.upto → Grows old new → n ≡ length (ahead old) + 1 - length old.delimiter
    → HasNone old.delimiter (ahead old) (length (ahead old)) → HasNone new.delimiter (ahead new) n
clear_grown old new n sound read grows all clear k lt stands =
    let wide = (width old.delimiter sound.delimiter).0 in
    let shown = ahead_grown old new sound read grows in
    let whole : StandsAt old.delimiter (ahead old ++ grows.piece) k =
    subst (λ l. StandsAt old.delimiter l k) shown (subst (λ d. StandsAt d (ahead new) k) grows.rules.delimiter stands) in
    let front : take (length (ahead old)) (ahead old ++ grows.piece) ≡ ahead old =
    take-append-le (length (ahead old)) (ahead old) grows.piece (omega arith) ∙ take_all (length (ahead old)) (ahead old) (omega arith) in
    clear k (omega arith)
    (subst (λ l. StandsAt old.delimiter l k) front
    (stands_of_front old.delimiter (ahead old ++ grows.piece) (length (ahead old)) k (omega arith) whole))

pub measuring_more : (opened : Opened) (old mid new : View) (scanned n before between after : ℕ) → Measuring opened old mid scanned before between
    → IsNear mid → n ≡ length (ahead mid) + 1 - length mid.delimiter → length (ahead mid) < mid.longest + length mid.delimiter
    → HasNone mid.delimiter (ahead mid) (length (ahead mid))
    → Grows mid new → new.upto ≤ mid.upto + 65536 → new.failed ≡ false → ((object : List ℕ) → Tells opened object → Holds object mid → Holds object new)
    → Took (new.upto - mid.upto) between after → Measuring opened old new n before after
measuring_more opened old mid new scanned n before between after measuring at all short clear grows piece failed holds took =
    let sound = measuring.grows.sound in
    let first = measuring.grows.upto in
    let second = grows.upto in
    let rules = measuring.grows.rules in
    let stop = rules.stop in
    let longest = rules.longest in
    let read = at.read in
    let range = at.range in
    let wide = width mid.delimiter sound.delimiter in
    let len = ahead_len mid sound in
    let len_new = ahead_len new grows.sound in
    let place = grows.place in
    record {
      grows = grows_more old mid new measuring.grows grows;
      taken = took_more (mid.upto - old.upto) (new.upto - mid.upto) _ before between after (omega arith) measuring.taken took;
      near = omega (arith, wide.1);
      failed = failed;
      within = omega (arith, wide.0);
      clear = clear_grown mid new n sound read grows all clear;
      told = λ object tells h. holds object tells (measuring.told object tells h);
    }

pub measured_failed : (opened : Opened) (old mid new : View) (scanned : ℕ) (result : Result Body Failed) (before between after : ℕ)
    → Measuring opened old mid scanned before between → IsErr result → Grows mid new → new.upto ≡ mid.upto → new.failed ≡ true
    → ((object : List ℕ) → Tells opened object → Holds object mid → Holds object new)
    → Took (new.upto - mid.upto) between after → Measures opened old new result before after
measured_failed opened old mid new scanned (Ok body) before between after measuring failed grows still is_failed holds took = absurd (cc)
measured_failed opened old mid new scanned (Err e) before between after measuring failed grows still is_failed holds took =
    let first = measuring.grows.upto in
    let second = grows.upto in
    let near = measuring.near in
    record {
      grows = grows_more old mid new measuring.grows grows;
      taken = took_more (mid.upto - old.upto) (new.upto - mid.upto) _ before between after (omega arith) measuring.taken took;
      near = omega arith;
      failed = is_failed;
      body = tt;
      told = λ object tells h. holds object tells (measuring.told object tells h);
    }
