-- An outcome that is right for all members of a growing family from one on is right for the family.
use Rattle.std.proofs.Common.{◌≡◌, ℕ, suc, ◌+◌, List, ◌∷◌, ◌++◌, Some, None, sym, ◌∙◌, subst, inl, inr}
use mathlib.Core.List.{append_cancel_right}
use Rattle.grammar_rules.specs.Rules.{Rule, alternatives, Within}
use Rattle.grammar_rules.specs.Readers.{Outcome, found, failed}
use Rattle.grammar_rules.proofs.Alternatives.{cons_not_nil, to_sum_right}
use Rattle.grammar_rules.proofs.Right.{Stops, Right}

module _ {T K A : Type 0} (G : ℕ → Rule T K A) (grows : (n : ℕ) → Within (G n) (G (suc n))) (ts : List T) (n : ℕ) where
  stops_family : (pre left : List T) → ts ≡ pre ++ left → ((k : ℕ) → (p : List T) × (ts ≡ p ++ left) × Stops (G (n + k)) p left) → Stops (alternatives G) pre left
  stops_family pre left is st t r m x e (inl f) = cons_not_nil pre t x f.1
  stops_family pre left is st t r m x e (inr f) =
      let w = st f.0 in
      let p : pre ≡ w.0 = append_cancel_right pre w.0 left (sym is ∙ w.1) in
      w.2 t r m x e (subst (λ l. (G (n + f.0)).Front m (l ++ t ∷ x)) p ((to_sum_right G grows n f.0).front m (pre ++ t ∷ x) f.1))

  unspelled_family : (pre left : List T) → ts ≡ pre ++ left → ((k : ℕ) → (p : List T) × (ts ≡ p ++ left) × ((a : A) → (G (n + k)).Spells a p → ⊥)) → (a : A) → (alternatives G).Spells a pre → ⊥
  unspelled_family pre left is un a v =
      let w = un v.0 in
      let p : pre ≡ w.0 = append_cancel_right pre w.0 left (sym is ∙ w.1) in
      w.2 a (subst (λ l. (G (n + v.0)).Spells a l) p ((to_sum_right G grows n v.0).spells a pre v.1))

  pub right-growing : (o : Outcome T K A) → ((k : ℕ) → Right (G (n + k)) ts o) → Right (alternatives G) ts o
  right-growing (found a left) w =
      let v = w 0 in
      record {
        pre = v.pre;
        is = v.is;
        spells = (n + 0, v.spells);
        stops = stops_family v.pre left v.is (λ k. ((w k).pre, (w k).is, (w k).stops));
      }
  right-growing (failed None left) w =
      let v = w 0 in
      record {
        pre = v.pre;
        is = v.is;
        front = inr (n + 0, v.front);
        stops = stops_family v.pre left v.is (λ k. ((w k).pre, (w k).is, (w k).stops));
        unspelled = unspelled_family v.pre left v.is (λ k. ((w k).pre, (w k).is, (w k).unspelled));
      }
  right-growing (failed (Some e) left) w =
      let v = w 0 in
      record { pre = v.pre; at = v.at; behind = v.behind; is = v.is; stands = v.stands; front = inr (n + 0, v.front) }
