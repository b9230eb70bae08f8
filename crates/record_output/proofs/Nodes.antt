-- What is told of a node's trees holds of its bytes.
use Rattle.std.specs.Prelude.{◌≡◌, ℕ, ◌+◌, ◌≤◌, List, ◌++◌, length, take, Result, Ok, Err, IsOk, OnOk, OnErr, ◌↔◌, refl}
use Rattle.std.proofs.Common.{◌∙◌, ap, ap₂, sym, subst}
use Rattle.std.proofs.Math.Logic.{∥∥₁_elim}
use Rattle.std.proofs.Math.Bridge.{le_prop}
use Rattle.std.proofs.Math.Nat.{ℕ_set}
use mathlib.Core.List.{is_set as List-set}
use Rattle.std.proofs.Math.Seq.{take-length}
use Rattle.text_view.specs.Room.{Room}
use Rattle.text_view.specs.declared.output.Full.{Full}
use Rattle.json_text.specs.Grammar.{Json}
use Rattle.json_text.specs.Nodes.{IsNode, Spells}
use Rattle.json_text.specs.Skipped.{outside}
use Rattle.json_text.specs.Compact.{compact, squeezed}
use Rattle.json_text.proofs.Squeezing.{compact_is}
use Rattle.record_output.specs.Appending.{Appends}

module _ (old new : Room) (bytes raw : List ℕ) (same : raw ≡ bytes) (node : ∥ IsNode raw ∥₁) where
  here : ∥ IsNode bytes ∥₁
  here = subst (λ b. ∥ IsNode b ∥₁) same node

  written : ((tree : Json) → Spells bytes tree → new ≡ record old { bytes = old.bytes ++ compact tree }) → new ≡ record old { bytes = old.bytes ++ squeezed outside bytes }
  written told =
      let room : new.room ≡ old.room = ∥∥₁_elim here (hlevel ℕ_set) (λ x. ap (λ r. r.room) (told x.tree x.spells)) in
      let added : new.bytes ≡ old.bytes ++ squeezed outside bytes =
      ∥∥₁_elim here (hlevel (ℕ_set, List-set)) (λ x. ap (λ r. r.bytes) (told x.tree x.spells) ∙ ap (λ l. old.bytes ++ l) (sym (compact_is bytes x.tree x.spells))) in
      ap₂ (λ n b. record { room = n; bytes = b }) room added

  fitted : ((tree : Json) → Spells bytes tree → length old.bytes + length (compact tree) ≤ old.room) → length old.bytes + length (squeezed outside bytes) ≤ old.room
  fitted told =
      ∥∥₁_elim here le_prop (λ x. subst (λ l. length old.bytes + length l ≤ old.room) (sym (compact_is bytes x.tree x.spells)) (told x.tree x.spells))

  overfull : ((tree : Json) → Spells bytes tree → length old.bytes + length (compact tree) ≤ old.room → ⊥) → length old.bytes + length (squeezed outside bytes) ≤ old.room → ⊥
  overfull told le =
      ∥∥₁_elim here (hlevel) (λ x. told x.tree x.spells (subst (λ l. length old.bytes + length l ≤ old.room) (compact_is bytes x.tree x.spells) le))

  unchanged : new ≡ old → record new { bytes = take (length old.bytes) new.bytes } ≡ old
  unchanged e =
      ap (λ r. record { room = r.room; bytes = take (length old.bytes) r.bytes }) e ∙ ap (λ b. record { room = old.room; bytes = b }) (take-length old.bytes)

  -- the tokens of each of its trees without blanks between them are its own bytes without them
  pub compacted : (r : Result (Unit {0}) Full) → ((tree : Json) → Spells bytes tree → IsOk r ↔ (length old.bytes + length (compact tree) ≤ old.room))
      → ((tree : Json) → Spells bytes tree → OnOk r (new ≡ record old { bytes = old.bytes ++ compact tree })) → OnErr r (new ≡ old) → Appends r old new (squeezed outside bytes)
  compacted (Ok x) fits ok full = record {
    fits = (λ _. fitted (λ tree s. (fits tree s).0 refl), λ _. refl);
    ok = written ok;
    kept = tt;
  }
  compacted (Err x) fits ok full = record {
    fits = (λ no. absurd (cc), λ le. absurd (overfull (λ tree s within. cc ((fits tree s).1 within)) le));
    ok = tt;
    kept = unchanged full;
  }
