-- A rule that one symbol of lookahead can tell gives each text at most one answer.
use Rattle.std.proofs.Common.{◌≡◌, ℕ, zero, suc, ◌+◌, ◌<◌, ◌≤◌, List, [], ◌∷◌, length, take, Some, None, refl, sym, ap, subst, append-nil, arith, Option, ◌∙◌, take_all, le_refl}
use Rattle.grammar_rules.specs.Rules.{Rule, Last, fits, faulty}
use Rattle.grammar_rules.specs.Places.{RefusedThere, FaultyThere, Answer, value, refusal, Answers, named, AnswersNamed}
use Rattle.grammar_rules.proofs.Clear.{Sight, Clear}
use Rattle.grammar_rules.proofs.Answering.{longer_front}

-- one place is before, at or behind another
data Order (p q : ℕ) : Type 0 where
  before : p < q → Order p q
  at : p ≡ q → Order p q
  behind : q < p → Order p q

order_suc : (p q : ℕ) → Order p q → Order (suc p) (suc q)
order_suc p q (before l) = before (omega arith)
order_suc p q (at e) = at (ap suc e)
order_suc p q (behind l) = behind (omega arith)

order : (p q : ℕ) → Order p q
order zero zero = at refl
order zero (suc q) = before (omega arith)
order (suc p) zero = behind (omega arith)
order (suc p) (suc q) = order_suc p q (order p q)

faulty_kind : {K : Type 0} (k j : K) → faulty j ≡ faulty k → Some k ≡ Some j
faulty_kind k j e = cc

module _ {T K A : Type 0} (G : Rule T K A) (s : Sight T) (g : Clear G s) (ts : List T) where
  -- a front that is longer makes the shorter one a front
  front_before : (p q : ℕ) (m : Last K) → p < q → q ≤ length ts → G.Front m (take q ts) → G.Front fits (take p ts)
  front_before p q m l k f =
      let w = longer_front p q ts l k in
      g.fronts.closed m (take p ts) w.0 w.1 (subst (λ z. G.Front m z) w.2 f)

  -- nothing is a front that goes on from a fault
  fault_ends : (k : K) (p q : ℕ) (m : Last K) → p < q → q ≤ length ts → G.Front (faulty k) (take p ts) → G.Front m (take q ts) → ⊥
  fault_ends k p q m l n f x =
      let w = longer_front p q ts l n in
      let e : w.0 ∷ w.1 ≡ [] = (g.last k (take p ts) m (w.0 ∷ w.1) f (subst (λ z. G.Front m z) w.2 x)).0 in cc

  fault_at_once : (k : K) (p : ℕ) (m : Last K) → G.Front (faulty k) (take p ts) → G.Front m (take p ts) → m ≡ faulty k
  fault_at_once k p m f x = (g.last k (take p ts) m [] f (subst (λ z. G.Front m z) (sym (append-nil (take p ts))) x)).1

  all_taken : take (length ts) ts ≡ ts
  all_taken = take_all (length ts) ts (le_refl (length ts))

  whole_front : (a : A) → G.Spells a ts → G.Front fits (take (length ts) ts)
  whole_front a w = rw all_taken (g.fronts.spelled a ts w)

  -- no front reaches behind a refused symbol
  not_refused_cases : (p q : ℕ) → RefusedThere G ts p → p < q → q ≤ length ts → (m : Last K) → G.Front m (take q ts) → Order (p + 1) q → ⊥
  not_refused_cases p q x l n m f (before o) = x.refused (omega arith) fits (front_before (p + 1) q m o n f)
  not_refused_cases p q x l n m f (at e) = x.refused (omega arith) m (rw e f)
  not_refused_cases p q x l n m f (behind o) = omega arith

  not_refused : (p q : ℕ) → RefusedThere G ts p → p < q → q ≤ length ts → (m : Last K) → G.Front m (take q ts) → ⊥
  not_refused p q x l n m f = not_refused_cases p q x l n m f (order (p + 1) q)

  one_refusal : (p q : ℕ) → RefusedThere G ts p → RefusedThere G ts q → Order p q → p ≡ q
  one_refusal p q x y (before l) = absurd (not_refused p q x l y.within fits y.front)
  one_refusal p q x y (at e) = e
  one_refusal p q x y (behind l) = absurd (not_refused q p y l x.within fits x.front)

  no_fault_too : (p : ℕ) (k : K) (q : ℕ) → RefusedThere G ts p → FaultyThere G ts k q → Order (q + 1) p → ⊥
  no_fault_too p k q x y (before l) = fault_ends k (q + 1) p fits l x.within y.front x.front
  no_fault_too p k q x y (at e) = let m = fault_at_once k (q + 1) fits y.front (rw e x.front) in cc
  no_fault_too p k q x y (behind l) =
      let h = y.within in
      not_refused p (q + 1) x l (omega arith) (faulty k) y.front

  no_text_too : (a : A) (k : K) (q : ℕ) → G.Spells a ts → FaultyThere G ts k q → Order (q + 1) (length ts) → ⊥
  no_text_too a k q w y (before l) = fault_ends k (q + 1) (length ts) fits l (le_refl (length ts)) y.front (whole_front a w)
  no_text_too a k q w y (at e) = let m = fault_at_once k (q + 1) fits y.front (rw e (whole_front a w)) in cc
  no_text_too a k q w y (behind l) = let h = y.within in omega arith

  one_fault_place : (k : K) (p : ℕ) (j : K) (q : ℕ) → FaultyThere G ts k p → FaultyThere G ts j q → Order p q → p ≡ q
  one_fault_place k p j q x y (before l) =
      let h = y.within in
      absurd (fault_ends k (p + 1) (q + 1) (faulty j) (omega arith) (omega arith) x.front y.front)
  one_fault_place k p j q x y (at e) = e
  one_fault_place k p j q x y (behind l) =
      let h = x.within in
      absurd (fault_ends j (q + 1) (p + 1) (faulty k) (omega arith) (omega arith) y.front x.front)

  one_fault : (k : K) (p : ℕ) (j : K) (q : ℕ) → FaultyThere G ts k p → FaultyThere G ts j q → p ≡ q → ◌≡◌ {A = Answer K A} (refusal (Some k) p) (refusal (Some j) q)
  one_fault k p j q x y e =
      let f : G.Front (faulty j) (take (p + 1) ts) = rw e y.front in
      let m : Some k ≡ Some j = faulty_kind k j (fault_at_once k (p + 1) (faulty j) x.front f) in cc

  pub one_answer : (x y : Answer K A) → Answers G ts x → Answers G ts y → x ≡ y
  one_answer (value a) (value b) w v = ap value (g.single a b ts w v)
  one_answer (value a) (refusal None q) w v = absurd (v.unspelled a w)
  one_answer (value a) (refusal (Some k) q) w v = absurd (no_text_too a k q w v (order (q + 1) (length ts)))
  one_answer (refusal None p) (value b) w v = absurd (w.unspelled b v)
  one_answer (refusal None p) (refusal None q) w v = ap (refusal None) (one_refusal p q w v (order p q))
  one_answer (refusal None p) (refusal (Some k) q) w v = absurd (no_fault_too p k q w v (order (q + 1) p))
  one_answer (refusal (Some k) p) (value b) w v = absurd (no_text_too b k p v w (order (p + 1) (length ts)))
  one_answer (refusal (Some k) p) (refusal None q) w v = absurd (no_fault_too q k p v w (order (p + 1) q))
  one_answer (refusal (Some k) p) (refusal (Some j) q) w v = one_fault k p j q w v (one_fault_place k p j q w v (order p q))

  -- the same where refusals have names
  pub one_named_answer : (name : T → Option K) (x y : Answer K A) → AnswersNamed name G ts x → AnswersNamed name G ts y → x ≡ y
  one_named_answer name x y w v = sym w.2 ∙ (ap (named name ts) (one_answer w.0 v.0 w.1 v.1) ∙ v.2)
