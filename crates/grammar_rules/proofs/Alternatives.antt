-- The laws of alternatives: of members that begin apart, and of a growing family.
use Rattle.std.proofs.Common.{◌≡◌, ℕ, zero, suc, ◌+◌, true, List, [], ◌∷◌, ◌++◌, refl, subst, inl, inr, zero-add, suc-add, add_comm}
use Rattle.grammar_rules.specs.Rules.{Rule, Last, fits, faulty, alternatives, Within}
use Rattle.grammar_rules.proofs.Clear.{Closed, Sight, Clear, fault-nil}

pub cons_not_nil : {T : Type 0} (pre : List T) (t : T) (r : List T) → pre ++ t ∷ r ≡ [] → ⊥
cons_not_nil [] t r e = cc
cons_not_nil (u ∷ pre) t r e = cc

module _ {T K A I : Type 0} (G : I → Rule T K A) (g : (i : I) → Closed (G i)) where
  closed-alternative : (m : Last K) (pre : List T) (t : T) (r : List T) → (alternatives G).Front m (pre ++ t ∷ r) → (alternatives G).Front fits pre
  closed-alternative m pre t r (inl e) = absurd (cons_not_nil pre t r e.1)
  closed-alternative m pre t r (inr f) = inr (f.0, (g f.0).closed m pre t r f.1)

  pub closed-alternatives : Closed (alternatives G)
  closed-alternatives = record {
    nil = inl (refl, refl);
    spelled = λ a ts w. inr (w.0, (g w.0).spelled a ts w.1);
    closed = closed-alternative;
  }

-- the members begin apart and at most one may be empty, and s is the lookahead of all together
pub record Parted {T I : Type 0} (each : I → Sight T) (s : Sight T) : Type 0 where
  pub distinct : (i j : I) (x : T) → (each i).first x ≡ true → (each j).first x ≡ true → i ≡ j
  pub one_null : (i j : I) → (each i).null ≡ true → (each j).null ≡ true → i ≡ j
  pub first : (i : I) (x : T) → (each i).first x ≡ true → s.first x ≡ true
  pub null : (i : I) → (each i).null ≡ true → s.null ≡ true
  pub more : (i : I) (x : T) → (each i).more x ≡ true → s.more x ≡ true
  pub cross : (i j : I) (x : T) → (each i).null ≡ true → (each j).first x ≡ true → s.more x ≡ true

module _ {T K A I : Type 0} (G : I → Rule T K A) (each : I → Sight T) (s : Sight T) (g : (i : I) → Clear (G i) (each i)) (p : Parted each s) where
  -- members with a front that begins with one symbol are one
  pub same_member : (i j : I) (m m' : Last K) (t : T) (r r' : List T) → (G i).Front m (t ∷ r) → (G j).Front m' (t ∷ r') → i ≡ j
  same_member i j m m' t r r' f f' = p.distinct i j t ((g i).starts m t r f) ((g j).starts m' t r' f')

  starts-alternatives : (m : Last K) (t : T) (r : List T) → (alternatives G).Front m (t ∷ r) → s.first t ≡ true
  starts-alternatives m t r (inl e) = absurd (cons_not_nil [] t r e.1)
  starts-alternatives m t r (inr f) = p.first f.0 t ((g f.0).starts m t r f.1)

  on_member : (i j : I) (a : A) (pre : List T) (m : Last K) (t : T) (r : List T) → (G i).Spells a pre → (G j).Front m (pre ++ t ∷ r) → s.more t ≡ true
  on_member i j a [] m t r w f = p.cross i j t ((g i).empty a w) ((g j).starts m t r f)
  on_member i j a (u ∷ pre) m t r w f =
      let e = same_member i j fits m u pre (pre ++ t ∷ r) ((g i).fronts.spelled a (u ∷ pre) w) f in
      p.more j t ((g j).goes_on a (u ∷ pre) m t r (subst (λ z. (G z).Spells a (u ∷ pre)) e w) f)

  on_alternatives : (a : A) (pre : List T) (m : Last K) (t : T) (r : List T) → (alternatives G).Spells a pre → (alternatives G).Front m (pre ++ t ∷ r) → s.more t ≡ true
  on_alternatives a pre m t r w (inl e) = absurd (cons_not_nil pre t r e.1)
  on_alternatives a pre m t r w (inr f) = on_member w.0 f.0 a pre m t r w.1 f.1

  single_member : (i j : I) (a b : A) (ts : List T) → (G i).Spells a ts → (G j).Spells b ts → a ≡ b
  single_member i j a b [] w v =
      let e = p.one_null i j ((g i).empty a w) ((g j).empty b v) in
      (g j).single a b [] (subst (λ z. (G z).Spells a []) e w) v
  single_member i j a b (t ∷ r) w v =
      let e = same_member i j fits fits t r r ((g i).fronts.spelled a (t ∷ r) w) ((g j).fronts.spelled b (t ∷ r) v) in
      (g j).single a b (t ∷ r) (subst (λ z. (G z).Spells a (t ∷ r)) e w) v

  last_member : (k : K) (i j : I) (pre : List T) (m : Last K) (r : List T) → (G i).Front (faulty k) pre → (G j).Front m (pre ++ r) → (r ≡ []) × (m ≡ faulty k)
  last_member k i j [] m r f x = absurd (fault-nil (G i) (each i) (g i) k f)
  last_member k i j (u ∷ pre) m r f x =
      let e = same_member i j (faulty k) m u pre (pre ++ r) f x in
      (g j).last k (u ∷ pre) m r (subst (λ z. (G z).Front (faulty k) (u ∷ pre)) e f) x

  last_nil : (k : K) (i : I) (pre r : List T) → (G i).Front (faulty k) pre → pre ++ r ≡ [] → ⊥
  last_nil k i [] r f e = fault-nil (G i) (each i) (g i) k f
  last_nil k i (u ∷ pre) r f e = cc

  last_alternatives : (k : K) (pre : List T) (m : Last K) (r : List T) → (alternatives G).Front (faulty k) pre → (alternatives G).Front m (pre ++ r) → (r ≡ []) × (m ≡ faulty k)
  last_alternatives k pre m r (inl e) x = let z = e.0 in cc
  last_alternatives k pre m r (inr f) (inl e) = absurd (last_nil k f.0 pre r f.1 e.1)
  last_alternatives k pre m r (inr f) (inr x) = last_member k f.0 x.0 pre m r f.1 x.1

  pub clear-alternatives : Clear (alternatives G) s
  clear-alternatives = record {
    fronts = closed-alternatives G (λ i. (g i).fronts);
    starts = starts-alternatives;
    empty = λ a w. p.null w.0 ((g w.0).empty a w.1);
    goes_on = on_alternatives;
    single = λ a b ts w v. single_member w.0 v.0 a b ts w.1 v.1;
    last = last_alternatives;
  }

pub Within_refl : {T K A : Type 0} (G : Rule T K A) → Within G G
Within_refl G = record { spells = λ a ts w. w; front = λ m ts f. f }

pub Within_trans : {T K A : Type 0} (G H J : Rule T K A) → Within G H → Within H J → Within G J
Within_trans G H J p q = record {
  spells = λ a ts w. q.spells a ts (p.spells a ts w);
  front = λ m ts f. q.front m ts (p.front m ts f);
}

-- a family that grows
module _ {T K A : Type 0} (G : ℕ → Rule T K A) (grows : (n : ℕ) → Within (G n) (G (suc n))) where
  pub grown : (n d : ℕ) → Within (G n) (G (d + n))
  grown n zero = rw zero-add (Within_refl (G n))
  grown n (suc d) = rw suc-add (Within_trans (G n) (G (d + n)) (G (suc (d + n))) (grown n d) (grows (d + n)))

  -- each member says no more than the one at their sum
  pub to_sum_left : (n k : ℕ) → Within (G n) (G (n + k))
  to_sum_left n k = rw add_comm (grown n k)

  pub to_sum_right : (n k : ℕ) → Within (G k) (G (n + k))
  to_sum_right n k = grown k n

  module _ (s : Sight T) (g : (n : ℕ) → Clear (G n) s) where
    starts_grown : (m : Last K) (t : T) (r : List T) → (alternatives G).Front m (t ∷ r) → s.first t ≡ true
    starts_grown m t r (inl e) = absurd (cons_not_nil [] t r e.1)
    starts_grown m t r (inr f) = (g f.0).starts m t r f.1

    on_grown : (a : A) (pre : List T) (m : Last K) (t : T) (r : List T) → (alternatives G).Spells a pre → (alternatives G).Front m (pre ++ t ∷ r) → s.more t ≡ true
    on_grown a pre m t r w (inl e) = absurd (cons_not_nil pre t r e.1)
    on_grown a pre m t r w (inr f) =
        (g (w.0 + f.0)).goes_on a pre m t r
        ((to_sum_left w.0 f.0).spells a pre w.1) ((to_sum_right w.0 f.0).front m (pre ++ t ∷ r) f.1)

    last_grown_nil : (k : K) (i : ℕ) (pre r : List T) → (G i).Front (faulty k) pre → pre ++ r ≡ [] → ⊥
    last_grown_nil k i [] r f e = fault-nil (G i) s (g i) k f
    last_grown_nil k i (u ∷ pre) r f e = cc

    last_grown : (k : K) (pre : List T) (m : Last K) (r : List T) → (alternatives G).Front (faulty k) pre → (alternatives G).Front m (pre ++ r) → (r ≡ []) × (m ≡ faulty k)
    last_grown k pre m r (inl e) x = let z = e.0 in cc
    last_grown k pre m r (inr f) (inl e) = absurd (last_grown_nil k f.0 pre r f.1 e.1)
    last_grown k pre m r (inr f) (inr x) =
        (g (f.0 + x.0)).last k pre m r
        ((to_sum_left f.0 x.0).front (faulty k) pre f.1) ((to_sum_right f.0 x.0).front m (pre ++ r) x.1)

    pub clear-growing : Clear (alternatives G) s
    clear-growing = record {
      fronts = closed-alternatives G (λ n. (g n).fronts);
      starts = starts_grown;
      empty = λ a w. (g w.0).empty a w.1;
      goes_on = on_grown;
      single = λ a b ts w v.
          (g (w.0 + v.0)).single a b ts
          ((to_sum_left w.0 v.0).spells a ts w.1) ((to_sum_right w.0 v.0).spells b ts v.1);
      last = last_grown;
    }
