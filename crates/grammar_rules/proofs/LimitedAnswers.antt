-- What the answers of a rule with limits say of the rule without.
use Rattle.std.proofs.Common.{◌≡◌, ℕ, zero, suc, ◌<◌, List, [], ◌∷◌, ◌++◌, length, take, drop, refl, sym, ap, ◌∙◌, subst, inl, inr, append_assoc, append-nil, arith, add-one, take-append-drop}
use Rattle.grammar_rules.specs.Rules.{Rule, Last, fits, faulty, MeetsFault, Limits}
use Rattle.grammar_rules.specs.Places.{RefusedThere}
use Rattle.grammar_rules.proofs.Lists.{Cut, beyond, equal, inside, cut}
use Rattle.grammar_rules.proofs.Clear.{Sight, Clear}
use Rattle.grammar_rules.proofs.Right.{Stops}

take_next : {T : Type 0} (p : ℕ) (ts : List T) (t : T) (r : List T) → drop p ts ≡ t ∷ r → (take (suc p) ts ≡ take p ts ++ t ∷ []) × (p < length ts)
take_next zero [] t r e = cc
take_next zero (u ∷ ts) t r e = (cc, omega arith)
take_next (suc p) [] t r e = cc
take_next (suc p) (u ∷ ts) t r e = let w = take_next p ts t r e in (ap (λ z. u ∷ z) w.0, omega arith)

drop_some : {T : Type 0} (p : ℕ) (ts : List T) → p < length ts → (t : T) × (r : List T) × (drop p ts ≡ t ∷ r)
drop_some p [] l = absurd (omega arith)
drop_some zero (t ∷ ts) l = (t, ts, refl)
drop_some (suc p) (t ∷ ts) l = drop_some p ts (omega arith)

module _ {T K A : Type 0} (G H : Rule T K A) (s : Sight T) (g : Clear G s) (l : Limits G H) (ts : List T) (p : ℕ) (x : RefusedThere G ts p) where
  stop_more : (t : T) (y : List T) (m : Last K) → ((n : Last K) → G.Front n (take p ts ++ t ∷ []) → ⊥) → G.Front m (take p ts ++ t ∷ y) → ⊥
  stop_more t [] m no_more f = no_more m f
  stop_more t (u ∷ y) m no_more f =
      no_more fits (g.fronts.closed m (take p ts ++ t ∷ []) u y (subst (λ z. G.Front m z) (sym (append_assoc (take p ts) (t ∷ []) (u ∷ y))) f))

  stops : Stops G (take p ts) (drop p ts)
  stops t r m y e f =
      let w = take_next p ts t r e in
      stop_more t y m (λ n h. x.refused w.1 n (rw (add-one, w.0) h)) f

  no_fault_cut : (b : List T) → ((u : T) (y : List T) → b ≡ u ∷ y → (r : List T) × (drop p ts ≡ u ∷ r)) → (w : MeetsFault G (take p ts ++ b)) → Cut (take p ts) b (w.pre ++ w.at ∷ []) w.rest → ⊥
  no_fault_cut b lead w (beyond u y e f) =
      let k = lead u (y ++ w.rest) f in
      stops u k.0 (faulty w.kind) y k.1 (subst (λ z. G.Front (faulty w.kind) z) e w.front)
  no_fault_cut b lead w (equal e f) =
      let q : fits ≡ faulty w.kind = (g.last w.kind (w.pre ++ w.at ∷ []) fits [] w.front (rw append-nil (subst (λ z. G.Front fits z) e x.front))).1 in cc
  no_fault_cut b lead w (inside u y e f) =
      let q : u ∷ y ≡ [] = (g.last w.kind (w.pre ++ w.at ∷ []) fits (u ∷ y) w.front (subst (λ z. G.Front fits z) e x.front)).0 in cc

  no_fault : (b : List T) → ((u : T) (y : List T) → b ≡ u ∷ y → (r : List T) × (drop p ts ≡ u ∷ r)) → MeetsFault G (take p ts ++ b) → ⊥
  no_fault b lead w = no_fault_cut b lead w (cut (take p ts) b (w.pre ++ w.at ∷ []) w.rest (w.is ∙ sym (append_assoc w.pre (w.at ∷ []) w.rest)))

  refused_too : (t : T) (r : List T) → drop p ts ≡ t ∷ r → (m : Last K) → H.Front m (take p ts ++ t ∷ []) → ⊥
  refused_too t r e m f =
      elim (l.fronted m (take p ts ++ t ∷ []) f) [
        | inl h ↦ stops t r m [] e h
        | inr w ↦ no_fault (t ∷ []) (λ u y q. let k : t ≡ u = cc in (r, e ∙ ap (λ z. z ∷ r) k)) w
      ]

  unspelled_too : (a : A) → H.Spells a ts → ⊥
  unspelled_too a h =
      elim (l.spelled a ts h) [
        | inl w ↦ x.unspelled a w
        | inr w ↦ no_fault (drop p ts) (λ u y q. (y, q)) (subst (λ z. MeetsFault G z) (sym (take-append-drop p ts)) w)
      ]

  -- what the limited rule refuses the other refuses, at the same place
  pub refused_without_limits : RefusedThere H ts p
  refused_without_limits = record {
    within = x.within;
    front = l.front (take p ts) x.front;
    refused = λ q m f.
        let d = drop_some p ts q in
        refused_too d.0 d.1 d.2 m (subst (λ z. H.Front m z) (ap (λ n. take n ts) (add-one p) ∙ (take_next p ts d.0 d.1 d.2).0) f);
    unspelled = unspelled_too;
  }
