-- An alternative of two rules that begin alike, of which the second is tried ahead: where one reader goes further than
-- another that fails, it reads both.
use Rattle.std.proofs.Common.{◌≡◌, ◌||◌, ◌⊎◌, Bool, true, false, List, [], ◌∷◌, ◌++◌, Some, None, refl, sym, ap, ◌∙◌, subst, inl, inr, append-nil, append_assoc}
use Rattle.grammar_rules.specs.Rules.{Rule, Last, fits, faulty, either, one_of_two}
use Rattle.grammar_rules.specs.Readers.{Outcome, found, failed, unless_found, read_ahead}
use Rattle.grammar_rules.proofs.Lists.{Cut, beyond, equal, inside, cut, or_left, or_right}
use Rattle.grammar_rules.proofs.Clear.{Sight, Clear}
use Rattle.grammar_rules.proofs.Alternatives.{cons_not_nil}
use Rattle.grammar_rules.proofs.Right.{Stops, RefusedAt, Right}
use Rattle.grammar_rules.proofs.Reading.{Reads, or_cases}
use Rattle.grammar_rules.proofs.Choices.{closed-either}

-- what tells H from G: a front of H is one of G or a text of H, no front of G begins with a text of H, and H has no fault. `more` passes
-- the last symbol of a text of H before which a text of G ends
pub record Ahead {T K A : Type 0} (G H : Rule T K A) (more : T → Bool) : Type 0 where
  pub shared : (ts : List T) → H.Front fits ts → G.Front fits ts ⊎ ((a : A) × H.Spells a ts)
  pub own : (a : A) (pre : List T) (m : Last K) (r : List T) → H.Spells a pre → G.Front m (pre ++ r) → ⊥
  pub faultless : (k : K) (ts : List T) → H.Front (faulty k) ts → ⊥
  pub ends : (a b : A) (pre : List T) (t : T) → G.Spells a pre → H.Spells b (pre ++ t ∷ []) → more t ≡ true

-- the lookahead of both
abbrev pub ahead_sight : {T : Type 0} → Sight T → Sight T → (T → Bool) → Sight T
ahead_sight s t more = record { first = λ x. s.first x || t.first x; null = s.null; more = λ x. (s.more x || t.more x) || more x }

module _ {T K A : Type 0} (G H : Rule T K A) (s t : Sight T) (more : T → Bool) (g : Clear G s) (h : Clear H t) (w : Ahead G H more) (wants : t.null ≡ false) where
  starts_two : (m : Last K) (x : T) (r : List T) (i : Bool) → (one_of_two G H i).Front m (x ∷ r) → (s.first x || t.first x) ≡ true
  starts_two m x r true f = or_left (s.first x) (t.first x) (g.starts m x r f)
  starts_two m x r false f = or_right (s.first x) (t.first x) (h.starts m x r f)

  starts_ahead : (m : Last K) (x : T) (r : List T) → (either G H).Front m (x ∷ r) → (s.first x || t.first x) ≡ true
  starts_ahead m x r (inl e) = absurd (cons_not_nil [] x r e.1)
  starts_ahead m x r (inr f) = starts_two m x r f.0 f.1

  not_empty : (a : A) → H.Spells a [] → ⊥
  not_empty a v = let e = h.empty a v in cc

  empty_two : (a : A) (i : Bool) → (one_of_two G H i).Spells a [] → s.null ≡ true
  empty_two a true v = g.empty a v
  empty_two a false v = absurd (not_empty a v)

  -- no text of H is one of G
  apart_texts : (a b : A) (ts : List T) → H.Spells a ts → G.Spells b ts → ⊥
  apart_texts a b ts v u = w.own a ts fits [] v (rw append-nil (g.fronts.spelled b ts u))

  single_two : (a b : A) (ts : List T) (i j : Bool) → (one_of_two G H i).Spells a ts → (one_of_two G H j).Spells b ts → a ≡ b
  single_two a b ts true true v u = g.single a b ts v u
  single_two a b ts true false v u = absurd (apart_texts b a ts u v)
  single_two a b ts false true v u = absurd (apart_texts a b ts v u)
  single_two a b ts false false v u = h.single a b ts v u

  -- a front of H fits
  front_fits : (m : Last K) (ts : List T) → H.Front m ts → H.Front fits ts
  front_fits fits ts f = f
  front_fits (faulty k) ts f = absurd (w.faultless k ts f)

  front_of_longer : (m : Last K) (pre r : List T) → H.Front m (pre ++ r) → H.Front fits pre
  front_of_longer m pre [] f = subst (λ l. H.Front fits l) (append-nil pre) (front_fits m (pre ++ []) f)
  front_of_longer m pre (x ∷ r) f = h.fronts.closed m pre x r f

  -- no front of H goes on from a fault of G
  unfaulted : (k : K) (pre : List T) → G.Front (faulty k) pre → G.Front fits pre ⊎ ((a : A) × H.Spells a pre) → ⊥
  unfaulted k pre f (inl x) = let e = (g.last k pre fits [] f (rw append-nil x)).1 in cc
  unfaulted k pre f (inr v) = w.own v.0 pre (faulty k) [] v.1 (rw append-nil f)

  -- with what a text of G goes on to a front of H
  goes_on_cases : (a : A) (pre : List T) (x : T) → G.Spells a pre → G.Front fits (pre ++ x ∷ []) ⊎ ((b : A) × H.Spells b (pre ++ x ∷ [])) → (ahead_sight s t more).more x ≡ true
  goes_on_cases a pre x v (inl f) = or_left (s.more x || t.more x) (more x) (or_left (s.more x) (t.more x) (g.goes_on a pre fits x [] v f))
  goes_on_cases a pre x v (inr u) = or_right (s.more x || t.more x) (more x) (w.ends a u.0 pre x v u.1)

  longer_front : (m : Last K) (pre : List T) (x : T) (r : List T) → H.Front m (pre ++ x ∷ r) → H.Front fits (pre ++ x ∷ [])
  longer_front m pre x r f = front_of_longer m (pre ++ x ∷ []) r (subst (λ l. H.Front m l) (sym (append_assoc pre (x ∷ []) r)) f)

  goes_on_two : (a : A) (pre : List T) (m : Last K) (x : T) (r : List T) (i j : Bool) → (one_of_two G H i).Spells a pre → (one_of_two G H j).Front m (pre ++ x ∷ r) → (ahead_sight s t more).more x ≡ true
  goes_on_two a pre m x r true true v f = or_left (s.more x || t.more x) (more x) (or_left (s.more x) (t.more x) (g.goes_on a pre m x r v f))
  goes_on_two a pre m x r true false v f = goes_on_cases a pre x v (w.shared (pre ++ x ∷ []) (longer_front m pre x r f))
  goes_on_two a pre m x r false true v f = absurd (w.own a pre m (x ∷ r) v f)
  goes_on_two a pre m x r false false v f = or_left (s.more x || t.more x) (more x) (or_right (s.more x) (t.more x) (h.goes_on a pre m x r v f))

  goes_on_ahead : (a : A) (pre : List T) (m : Last K) (x : T) (r : List T) → (either G H).Spells a pre → (either G H).Front m (pre ++ x ∷ r) → (ahead_sight s t more).more x ≡ true
  goes_on_ahead a pre m x r v (inl e) = absurd (cons_not_nil pre x r e.1)
  goes_on_ahead a pre m x r v (inr f) = goes_on_two a pre m x r v.0 f.0 v.1 f.1

  last_two : (k : K) (pre : List T) (m : Last K) (r : List T) (i j : Bool) → (one_of_two G H i).Front (faulty k) pre → (one_of_two G H j).Front m (pre ++ r) → (r ≡ []) × (m ≡ faulty k)
  last_two k pre m r true true f x = g.last k pre m r f x
  last_two k pre m r true false f x = absurd (unfaulted k pre f (w.shared pre (front_of_longer m pre r x)))
  last_two k pre m r false j f x = absurd (w.faultless k pre f)

  ends_nil : (k : K) (pre r : List T) (i : Bool) → (one_of_two G H i).Front (faulty k) pre → pre ++ r ≡ [] → ⊥
  ends_nil k [] r true f e = let q = (g.last k [] fits [] f g.fronts.nil).1 in cc
  ends_nil k [] r false f e = w.faultless k [] f
  ends_nil k (u ∷ pre) r i f e = cc

  last_ahead : (k : K) (pre : List T) (m : Last K) (r : List T) → (either G H).Front (faulty k) pre → (either G H).Front m (pre ++ r) → (r ≡ []) × (m ≡ faulty k)
  last_ahead k pre m r (inl e) x = let q = e.0 in cc
  last_ahead k pre m r (inr f) (inl e) = absurd (ends_nil k pre r f.0 f.1 e.1)
  last_ahead k pre m r (inr f) (inr x) = last_two k pre m r f.0 x.0 f.1 x.1

  clear-ahead : Clear (either G H) (ahead_sight s t more)
  clear-ahead = record {
    fronts = closed-either G H g.fronts h.fronts;
    starts = starts_ahead;
    empty = λ a v. empty_two a v.0 v.1;
    goes_on = goes_on_ahead;
    single = λ a b ts v u. single_two a b ts v.0 u.0 v.1 u.1;
    last = last_ahead;
  }

  -- ---- H is found

  stops_found : (a : A) (pre left : List T) → H.Spells a pre → Stops H pre left → Stops (either G H) pre left
  stops_found a pre left v st x r m y e (inl f) = cons_not_nil pre x y f.1
  stops_found a pre left v st x r m y e (inr (true, f)) = w.own a pre m (x ∷ y) v f
  stops_found a pre left v st x r m y e (inr (false, f)) = st x r m y e f

  -- ---- H is refused: G's outcome goes as far, and is the outcome of both
  module _ (ts left_behind : List T) (v : RefusedAt H ts left_behind) where
    -- the front that H was refused behind is a front of G
    shared_front : G.Front fits v.pre
    shared_front = elim (w.shared v.pre v.front) [ inl f ↦ f | inr u ↦ absurd (v.unspelled u.0 u.1) ]

    module _ (pre left : List T) (is : ts ≡ pre ++ left) (st : Stops G pre left) where
      -- no front of H goes on where G's doesn't
      ahead_stops_cut : (x : T) (r : List T) (m : Last K) (y : List T) → left ≡ x ∷ r → H.Front m (pre ++ x ∷ y) → Cut v.pre left_behind pre left → ⊥
      ahead_stops_cut x r m y e f (beyond u z p q) = v.stops u (z ++ left) m (z ++ x ∷ y) q (subst (λ l. H.Front m l) (ap (λ l. l ++ x ∷ y) p ∙ append_assoc v.pre (u ∷ z) (x ∷ y)) f)
      ahead_stops_cut x r m y e f (equal p q) = v.stops x r m y (q ∙ e) (subst (λ l. H.Front m (l ++ x ∷ y)) (sym p) f)
      ahead_stops_cut x r m y e f (inside u z p q) = st u (z ++ left_behind) fits z q (subst (λ l. G.Front fits l) p shared_front)

      ahead_stops : Stops H pre left
      ahead_stops x r m y e f = ahead_stops_cut x r m y e f (cut v.pre left_behind pre left (sym v.is ∙ is))

      both_stop : Stops (either G H) pre left
      both_stop x r m y e (inl f) = cons_not_nil pre x y f.1
      both_stop x r m y e (inr (true, f)) = st x r m y e f
      both_stop x r m y e (inr (false, f)) = ahead_stops x r m y e f

      -- and no text of H ends there
      ahead_unspelled_cut : (a : A) → H.Spells a pre → Cut v.pre left_behind pre left → ⊥
      ahead_unspelled_cut a u (beyond x z p q) = v.stops x (z ++ left) fits z q (subst (λ l. H.Front fits l) p (h.fronts.spelled a pre u))
      ahead_unspelled_cut a u (equal p q) = v.unspelled a (subst (λ l. H.Spells a l) (sym p) u)
      ahead_unspelled_cut a u (inside x z p q) = st x (z ++ left_behind) fits z q (subst (λ l. G.Front fits l) p shared_front)

      both_unspelled : ((a : A) → G.Spells a pre → ⊥) → (a : A) (i : Bool) → (one_of_two G H i).Spells a pre → ⊥
      both_unspelled un a true u = un a u
      both_unspelled un a false u = ahead_unspelled_cut a u (cut v.pre left_behind pre left (sym v.is ∙ is))

    right_refused : (o : Outcome T K A) → Right G ts o → Right (either G H) ts o
    right_refused (found a left) u = record { pre = u.pre; is = u.is; spells = (true, u.spells); stops = both_stop u.pre left u.is u.stops }
    right_refused (failed None left) u = record {
      pre = u.pre;
      is = u.is;
      front = inr (true, u.front);
      stops = both_stop u.pre left u.is u.stops;
      unspelled = λ a x. both_unspelled u.pre left u.is u.stops u.unspelled a x.0 x.1;
    }
    right_refused (failed (Some k) left) u = record { pre = u.pre; at = u.at; behind = u.behind; is = u.is; stands = u.stands; front = inr (true, u.front) }

  pub right-ahead : (ts : List T) (o q : Outcome T K A) → Right G ts o → Right H ts q → Right (either G H) ts (unless_found q o)
  right-ahead ts o (found a left) u v = record { pre = v.pre; is = v.is; spells = (false, v.spells); stops = stops_found a v.pre left v.spells v.stops }
  right-ahead ts o (failed None left) u v = right_refused ts left v o u
  right-ahead ts o (failed (Some k) left) u v = absurd (w.faultless k (v.pre ++ v.at ∷ []) v.front)

module _ {T K A : Type 0} (G H : Rule T K A) (s t : Sight T) (more : T → Bool) (read ahead : List T → Outcome T K A) (g : Reads G s read) (h : Reads H t ahead) (w : Ahead G H more) (wants : t.null ≡ false) where
  exact_ahead : (x : T) → (s.first x ≡ true) ⊎ (t.first x ≡ true) → (m : Last K) × (either G H).Front m (x ∷ [])
  exact_ahead x (inl e) = let f = g.exact x e in (f.0, inr (true, f.1))
  exact_ahead x (inr e) = let f = h.exact x e in (f.0, inr (false, f.1))

  pub reads-ahead : Reads (either G H) (ahead_sight s t more) (read_ahead read ahead)
  reads-ahead = record {
    clear = clear-ahead G H s t more g.clear h.clear w wants;
    exact = λ x e. exact_ahead x (or_cases (s.first x) (t.first x) e);
    empty = λ e. let v = g.empty e in (v.0, (true, v.1));
    right = λ ts. right-ahead G H s t more g.clear h.clear w wants ts (read ts) (ahead ts) (g.right ts) (h.right ts);
  }

-- a list is no front where the reader refuses one of its symbols
pub refused_no_front : {T K A : Type 0} (G : Rule T K A) (ts : List T) (t : T) (r : List T) (m : Last K) → RefusedAt G ts (t ∷ r) → G.Front m ts → ⊥
refused_no_front G ts t r m w f = w.stops t r m r refl (subst (λ l. G.Front m l) w.is f)
