-- The window's own steps keep what a window keeps.
use Rattle.std.proofs.Common.{◌≡◌, ℕ, ◌+◌, ◌-◌, ◌<◌, ◌≤◌, true, List, ◌++◌, length, take, drop, sym, ap, ◌∙◌, subst, inl, inr, ◌⊎◌, arith, length-append, length-drop}
use Rattle.std.proofs.lemmas.List.{drop-drop, length-take-le}
use Rattle.line_window.specs.Starts.{is_start}
use Rattle.line_window.specs.Delimiters.{is_delimiter, StandsAt, HasNone, IsFirstAt}
use Rattle.line_window.specs.Sliding.{View, Holds, IsSound, SameRules, kept_from, ahead}
use Rattle.line_window.specs.Ahead.{Passes}
use Rattle.line_window.specs.Steps.{Grows, Shows, Skips}
use Rattle.line_window.specs.declared.window.Sight.{Sight}
use Rattle.line_window.specs.declared.window.Sight.TheVariants.{Start}
use Rattle.line_window.proofs.DelimiterLaws.{width, stands_front}
use Rattle.line_window.proofs.StartLaws.{start_behind}
use Rattle.line_window.proofs.KeptLaws.{holds_passed, stands_kept, left_passed, searched}

-- a window that read on
pub grown : (old new : View) (piece : List ℕ) → IsSound old → SameRules old new → new.place ≡ old.place
    → new.kept ≡ old.kept ++ piece → new.upto ≡ old.upto + length piece → new.upto ≤ new.size → length piece ≤ 65536
    → length old.kept ≤ old.longest + 65538 → Grows old new
grown old new piece sound rules place kept upto within short room =
    let len : length new.kept ≡ length old.kept + length piece = ap length kept ∙ length-append old.kept piece in
    let width : length new.delimiter ≡ length old.delimiter = ap length rules.delimiter in
    record {
      sound = record {
        kept = omega arith;
        read = within;
        here = omega arith;
        range = omega arith;
        room = omega arith;
        delimiter = subst (λ d. is_delimiter d ≡ true) (sym rules.delimiter) sound.delimiter;
        limit = omega arith;
      };
      rules = rules;
      place = place;
      piece = piece;
      kept = kept;
      upto = upto;
    }

-- a window that went on to a later place
pub moved : (old new : View) (i : ℕ) → IsSound old → SameRules old new → new.upto ≡ old.upto → kept_from new ≡ kept_from old + i
    → new.kept ≡ drop i old.kept → i ≤ length old.kept → new.place ≤ new.size → IsSound new
moved old new i sound rules upto from kept within here =
    let len : length new.kept ≡ length old.kept - i = ap length kept ∙ length-drop i old.kept in
    record {
      kept = omega arith;
      read = omega arith;
      here = here;
      range = omega arith;
      room = omega arith;
      delimiter = subst (λ d. is_delimiter d ≡ true) (sym rules.delimiter) sound.delimiter;
      limit = omega arith;
    }

-- bytes ahead were passed
pub passes : (old new : View) (n i : ℕ) → IsSound old → SameRules old new → new.upto ≡ old.upto → new.failed ≡ old.failed
    → new.place ≡ old.place + n → kept_from new ≡ kept_from old + i → new.kept ≡ drop i old.kept → n ≤ length (ahead old) → Passes n old new
passes old new n i sound rules upto failed place from kept within =
    let width : length new.delimiter ≡ length old.delimiter = ap length rules.delimiter in
    let fits = sound.kept in
    let len = length-drop (old.place - kept_from old) old.kept in
    let lead : i + (new.place - kept_from new) ≡ (old.place - kept_from old) + n = omega arith in
    record {
      sound = moved old new i sound rules upto from kept (omega arith) (omega (arith, sound.read, sound.here));
      rules = rules;
      place = place;
      upto = upto;
      failed = failed;
      rest =
          ap (drop (new.place - kept_from new)) kept
          ∙ drop-drop (new.place - kept_from new) i old.kept
          ∙ ap (λ k. drop k old.kept) lead
          ∙ sym (drop-drop n (old.place - kept_from old) old.kept);
      told = λ object h. holds_passed object old new i rules.size from kept (omega arith) h;
    }

-- the next start was found among the first n kept bytes
pub skip_found : (old new : View) (n at : ℕ) → IsSound old → SameRules old new → new.upto ≡ old.upto → new.failed ≡ old.failed
    → 0 < old.place → old.place < old.stop → n ≤ length old.kept → IsFirstAt old.delimiter (take n old.kept) at
    → new.place ≡ kept_from old + at + length old.delimiter → old.place ≤ new.place → new.place < new.stop → kept_from new ≡ kept_from old + at
    → new.kept ≡ drop at old.kept → Skips old new Start
skip_found old new n at sound rules upto failed behind near within first place onwards range from kept =
    let some = (width old.delimiter sound.delimiter).0 in
    let stands = stands_front old.delimiter old.kept n at some first.here in
    let fits = sound.kept in
    let same : length new.delimiter ≡ length old.delimiter = ap length rules.delimiter in
    let inside = stands.1 in
    let hold : (object : List ℕ) → Holds object old → Holds object new =
    λ object h. holds_passed object old new at rules.size from kept (omega arith) h in
    record {
      sound = moved old new at sound rules upto from kept (omega arith) (omega (arith, sound.range, rules.stop, rules.size));
      rules = rules;
      upto = upto;
      onwards = onwards;
      failed = failed;
      shown = record { range = range; read = omega arith };
      past = λ done. absurd (omega arith);
      told = λ object h. (
        hold object h,
        left_passed object old new rules onwards (λ r low high.
            searched object old n at r h some behind within first.before low (omega arith) (omega arith)),
      );
      starts = λ object h e.
          let size = h.size in
          let range_old = sound.range in
          let stop = rules.stop in
          let back : new.place - length old.delimiter ≡ kept_from old + at = omega arith in
          subst (λ d. is_start d object new.place ≡ true) (sym rules.delimiter)
          (start_behind old.delimiter object new.place (omega arith) (omega arith)
          (subst (StandsAt old.delimiter object) (sym back) (stands_kept object old.delimiter old at h some stands.0)));
    }

-- none was found
pub skip_none : (old new : View) (n i : ℕ) (sight : Sight) → IsSound old → SameRules old new → new.upto ≡ old.upto → new.failed ≡ old.failed
    → 0 < old.place → old.place < old.stop → n ≤ length old.kept → HasNone old.delimiter (take n old.kept) (length (take n old.kept))
    → old.place ≤ new.place → (new.place ≡ old.place ⊎ new.place ≡ kept_from old + n + 1) → new.place ≤ new.size → kept_from new ≡ kept_from old + i
    → new.kept ≡ drop i old.kept → i ≤ length old.kept → Shows sight new → (sight ≡ Start → ⊥) → Skips old new sight
skip_none old new n i sight sound rules upto failed behind near within none onwards reach here from kept passed shown not_start =
    let some = (width old.delimiter sound.delimiter).0 in
    let all : length (take n old.kept) ≡ n = length-take-le n old.kept within in
    record {
      sound = moved old new i sound rules upto from kept passed here;
      rules = rules;
      upto = upto;
      onwards = onwards;
      failed = failed;
      shown = shown;
      past = λ done. absurd (omega arith);
      told = λ object h. (
        holds_passed object old new i rules.size from kept passed h,
        left_passed object old new rules onwards (λ r low high.
            elim reach [
              | inl same ↦ absurd (omega arith)
              | inr far ↦ searched object old n (length (take n old.kept)) r h some behind within none low (omega arith) (omega arith)
            ]),
      );
      starts = λ object h e. absurd (not_start e);
    }
