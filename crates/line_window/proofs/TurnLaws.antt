-- One call of `next`: the way to the next line, and the line that is lent. And the bytes that are lent ahead.
use Rattle.std.proofs.Common.{◌≡◌, ℕ, ◌-◌, ◌<◌, false, List, ◌∷◌, length, take, drop, Result, Ok, Err, sym, ap, ◌∙◌, subst, inl, inr, arith}
use Rattle.std.proofs.lemmas.List.{nil_from_length}
use Rattle.std.proofs.lemmas.Bool.{cases_lt}
use Rattle.std.specs.Prelude.{Option, None, Some}
use Rattle.select_ports.specs.declared.outcome.Failed.{Failed}
use Rattle.select_ports.specs.Stored.{Opened}
use Rattle.line_window.specs.declared.line.Line.{Line}
use Rattle.line_window.specs.declared.line.Line.TheVariants.{At, TooLong, End}
use Rattle.line_window.specs.declared.window.Body.{Body}
use Rattle.line_window.specs.Cuts.{Cut, cut_at}
use Rattle.line_window.specs.Sliding.{View, left, ahead, Holds, IsSound, Took}
use Rattle.line_window.specs.Ahead.{IsAhead}
use Rattle.line_window.specs.Answers.{ShowsCut, IsNextCut, Ends, Turns}
use Rattle.line_window.specs.Steps.{IsSomeLine, Finds, Leaves}
use Rattle.line_window.proofs.StartLaws.{first_cut}
use Rattle.line_window.proofs.KeptLaws.{ahead_len, ahead_is}
use Rattle.line_window.proofs.WayLaws.{more_rules}

-- the cut at the first start that was left
next_cut : (longest : ℕ) (before after : List Cut) (cut : Cut) (line : Line) → IsSomeLine line → before ≡ cut ∷ after → ShowsCut longest cut line
    → IsNextCut longest before after line
next_cut longest before after cut (At start bytes whole) some first shown = record { cut = cut; first = first; shown = shown }
next_cut longest before after cut (TooLong start) some first shown = record { cut = cut; first = first; shown = shown }
next_cut longest before after cut End some first shown = absurd some

-- a line that is there ends nothing
not_ended : (old new : View) (line : Line) → IsSomeLine line → old.place < old.stop → old.place < new.place → Ends old new (Ok line)
not_ended old new (At start bytes whole) some near onwards = (near, onwards)
not_ended old new (TooLong start) some near onwards = (near, onwards)
not_ended old new End some near onwards = absurd some

-- the next line was found, lent and passed
pub turn_line : (opened : Opened) (old mid new : View) (b : Body) (found : Result (Option Body) Failed) (line : Line) (before now : ℕ)
    → Finds opened old mid found before now → found ≡ Ok (Some b) → Leaves mid new → IsSomeLine line
    → ((object : List ℕ) → Holds object mid → ShowsCut mid.longest (cut_at mid.delimiter object mid.place) line)
    → Turns opened old new (Ok line) before now
turn_line opened old mid new b (Ok None) line before now finds is leaves some shown = absurd (cc)
turn_line opened old mid new b (Err failed) line before now finds is leaves some shown = absurd (cc)
turn_line opened old mid new b (Ok (Some c)) line before now finds is leaves some shown =
    let near = finds.found.0 in
    let range = near.range in
    let rules = more_rules old mid new finds.rules leaves.rules in
    let stop = finds.rules.stop in
    let forward = finds.forward in
    let upto = leaves.upto in
    let onwards = finds.onwards in
    let further = leaves.onwards in
    let reach = finds.near in
    let works = finds.failed in
    record {
      sound = leaves.sound;
      rules = rules;
      forward = omega arith;
      onwards = omega arith;
      taken = subst (λ n. Took (n - old.upto) before now) (sym upto) finds.taken;
      near = omega arith;
      failed = leaves.failed ∙ works;
      stays_failed = λ e. let same = (finds.stays_failed e).1 in absurd (cc);
      ends = not_ended old new line some (omega arith) (omega arith);
      stays_done = λ done fine. let none = (finds.stays_done done fine).0 in absurd (cc);
      told = λ object tells h.
          let at = finds.told object tells h in
          let behind = leaves.told object at.0 at.2 in (
            behind.0,
            next_cut old.longest (left object old) (left object new) (cut_at mid.delimiter object mid.place) line some
                (sym at.1 ∙ first_cut mid.delimiter object mid.place mid.stop at.2 range ∙ ap (λ l. cut_at mid.delimiter object mid.place ∷ l) (sym behind.1))
                (subst (λ n. ShowsCut n (cut_at mid.delimiter object mid.place) line) finds.rules.longest (shown object at.0)),
          );
    }

-- the bytes that are lent ahead
pub is_ahead : (v : View) (want : ℕ) (lent : List ℕ) → IsSound v → v.failed ≡ false → lent ≡ ahead v
    → (v.upto - v.place < want → v.upto ≡ v.size) → IsAhead v want lent
is_ahead v want lent sound works is enough =
    let len : length lent ≡ v.upto - v.place = ap length is ∙ ahead_len v sound in
    let here = sound.here in
    record {
      works = works;
      bytes = is;
      len = len;
      enough = λ short. let full = enough (omega arith) in omega arith;
      told = λ object h.
          elim (cases_lt v.upto v.place) [
            | inr read ↦ is ∙ ahead_is object v h sound read ∙ ap (λ l. take (length l) (drop v.place object)) (sym is)
            | inl unread ↦
                let none : length lent ≡ 0 = omega arith in
                nil_from_length lent none ∙ sym (ap (λ n. take n (drop v.place object)) none)
          ];
    }
