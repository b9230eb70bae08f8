-- The laws of a sequence.
use Rattle.std.proofs.Common.{◌≡◌, ◌||◌, ◌&&◌, Bool, true, false, List, [], ◌∷◌, ◌++◌, refl, sym, ap, ◌∙◌, subst, inl, inr, append_assoc, append-nil}
use Rattle.grammar_rules.specs.Rules.{Rule, Last, fits, faulty, Joined, sequence}
use Rattle.grammar_rules.proofs.Lists.{Cut, beyond, equal, inside, cut, or_left, or_right, and_both, apart}
use Rattle.grammar_rules.proofs.Clear.{Closed, Sight, Clear, fault-nil}

-- fronts
module _ {T K A B : Type 0} (G : Rule T K A) (H : A → Rule T K B) (g : Closed G) (h : (a : A) → Closed (H a)) where
  closed-joined : (m : Last K) (pre : List T) (t : T) (r : List T) (j : Joined G (λ a. (H a).Front m) (pre ++ t ∷ r)) → Cut pre (t ∷ r) j.left j.right → (sequence G H).Front fits pre
  closed-joined m pre t r j (beyond u x e f) = inl (g.closed fits pre u x (subst (λ l. G.Front fits l) e (g.spelled j.value j.left j.whole)))
  closed-joined m pre t r j (equal e f) = inl (subst (λ l. G.Front fits l) (sym e) (g.spelled j.value j.left j.whole))
  closed-joined m pre t r j (inside u x e f) =
      inr (record { value = j.value; left = j.left; right = u ∷ x; joined = e; whole = j.whole; after = (h j.value).closed m (u ∷ x) t r (subst (λ l. (H j.value).Front m l) f j.after) })

  closed-front : (m : Last K) (pre : List T) (t : T) (r : List T) → (sequence G H).Front m (pre ++ t ∷ r) → (sequence G H).Front fits pre
  closed-front m pre t r (inl x) = inl (g.closed m pre t r x)
  closed-front m pre t r (inr j) = closed-joined m pre t r j (cut pre (t ∷ r) j.left j.right j.joined)

  pub closed-sequence : Closed (sequence G H)
  closed-sequence = record {
    nil = inl g.nil;
    spelled = λ b ts j. inr (record { value = j.value; left = j.left; right = j.right; joined = j.joined; whole = j.whole; after = (h j.value).spelled b j.right j.after });
    closed = closed-front;
  }

-- the lookahead of a sequence, the same for every second rule
abbrev pub sequence_sight : {T : Type 0} → Sight T → Sight T → Sight T
sequence_sight s t = record {
  first = λ x. s.first x || (s.null && t.first x);
  null = s.null && t.null;
  more = λ x. t.more x || (t.null && s.more x);
}

-- no symbol both goes on with the first rule and begins the second
abbrev pub Apart : {T : Type 0} → Sight T → Sight T → Type 0
Apart {T = T} s t = (x : T) → (s.more x && t.first x) ≡ false

-- b, where it isn't empty, begins as the test says
abbrev pub Leads : {T : Type 0} → (T → Bool) → List T → Type 0
Leads {T = T} test b = (u : T) (x : List T) → b ≡ u ∷ x → test u ≡ true

nil_left : {T : Type 0} (l r : List T) → [] ≡ l ++ r → (l ≡ []) × (r ≡ [])
nil_left [] r e = (refl, sym e)
nil_left (u ∷ l) r e = cc

module _ {T K A B : Type 0} (G : Rule T K A) (H : A → Rule T K B) (s t : Sight T) (g : Clear G s) (h : (a : A) → Clear (H a) t) (off : Apart s t) where
  -- a whole text of the first rule doesn't go on with what begins the second
  pub clash : (a : A) (l : List T) (m : Last K) (u : T) (x : List T) → G.Spells a l → G.Front m (l ++ u ∷ x) → t.first u ≡ true → ⊥
  clash a l m u x w e f = apart (s.more u) (t.first u) (off u) (g.goes_on a l m u x w e) f

  -- a front of the second rule begins as its lookahead says
  leads : (a : A) (m : Last K) (b r : List T) → (H a).Front m b → (b ≡ [] → ⊥) → Leads t.first (b ++ r)
  leads a m [] r f n u x e = absurd (n refl)
  leads a m (v ∷ b) r f n u x e =
      let p : v ≡ u = cc in
      subst (λ y. t.first y ≡ true) p ((h a).starts m v b f)

  -- the same of a front alone
  leads_front : (a : A) (m : Last K) (b : List T) → (H a).Front m b → Leads t.first b
  leads_front a m b f u x e = (h a).starts m u x (subst (λ l. (H a).Front m l) e f)

  -- two cuts behind whole texts of the first rule are one
  meet : (a a' : A) (l b l' d : List T) → G.Spells a l → G.Spells a' l' → Leads t.first b → Leads t.first d → Cut l b l' d → (l ≡ l') × (b ≡ d)
  meet a a' l b l' d w w' lb ld (beyond u x e f) =
      absurd (clash a l fits u x w (subst (λ z. G.Front fits z) e (g.fronts.spelled a' l' w')) (lb u (x ++ d) f))
  meet a a' l b l' d w w' lb ld (equal e f) = (e, f)
  meet a a' l b l' d w w' lb ld (inside u x e f) =
      absurd (clash a' l' fits u x w' (subst (λ z. G.Front fits z) e (g.fronts.spelled a l w)) (ld u (x ++ b) f))

  -- their values are one too
  pub same_first : (a a' : A) (l b l' d : List T) → l ++ b ≡ l' ++ d → G.Spells a l → G.Spells a' l' → Leads t.first b → Leads t.first d → (a ≡ a') × (l ≡ l') × (b ≡ d)
  same_first a a' l b l' d e w w' lb ld =
      let m = meet a a' l b l' d w w' lb ld (cut l b l' d e) in
      (g.single a a' l' (subst (λ z. G.Spells a z) m.0 w) w', m.0, m.1)

  starts-go : (m : Last K) (u : T) (r : List T) (a : A) (l b : List T) → u ∷ r ≡ l ++ b → G.Spells a l → (H a).Front m b → (sequence_sight s t).first u ≡ true
  starts-go m u r a [] b e w f =
      or_right (s.first u) _ (and_both s.null (t.first u) (g.empty a w) (leads_front a m b f u r (sym e)))
  starts-go m u r a (v ∷ l) b e w f =
      let p : v ≡ u = cc in
      or_left (s.first u) _ (subst (λ y. s.first y ≡ true) p (g.starts fits v l (g.fronts.spelled a (v ∷ l) w)))

  starts-sequence : (m : Last K) (u : T) (r : List T) → (sequence G H).Front m (u ∷ r) → (sequence_sight s t).first u ≡ true
  starts-sequence m u r (inl f) = or_left (s.first u) _ (g.starts m u r f)
  starts-sequence m u r (inr j) = starts-go m u r j.value j.left j.right j.joined j.whole j.after

  empty-sequence : (b : B) → (sequence G H).Spells b [] → (sequence_sight s t).null ≡ true
  empty-sequence b j =
      let n = nil_left j.left j.right j.joined in
      and_both s.null t.null
      (g.empty j.value (subst (λ z. G.Spells j.value z) n.0 j.whole))
      ((h j.value).empty b (subst (λ z. (H j.value).Spells b z) n.1 j.after))

  -- a whole sequence goes on: first rule's front
  on_first : (a : A) (b : B) (l p : List T) (m : Last K) (u : T) (r : List T) → G.Spells a l → (H a).Spells b p → G.Front m (l ++ (p ++ u ∷ r)) → (sequence_sight s t).more u ≡ true
  on_first a b l [] m u r w v f = or_right (t.more u) _ (and_both t.null (s.more u) ((h a).empty b v) (g.goes_on a l m u r w f))
  on_first a b l (y ∷ p) m u r w v f =
      absurd (clash a l m y (p ++ u ∷ r) w f ((h a).starts fits y p ((h a).fronts.spelled b (y ∷ p) v)))

  -- a whole sequence goes on: second rule's front, after the same first text
  on_second : (a a' : A) (b : B) (l p l' d : List T) (m : Last K) (u : T) (r : List T) → G.Spells a l → (H a).Spells b p → G.Spells a' l' → (H a').Front m d → a ≡ a' → p ++ u ∷ r ≡ d → (sequence_sight s t).more u ≡ true
  on_second a a' b l p l' d m u r w v w' f e q =
      or_left (t.more u) _ ((h a').goes_on b p m u r (subst (λ z. (H z).Spells b p) e v) (subst (λ z. (H a').Front m z) (sym q) f))

  -- the second rule's text is empty
  on_empty : (a a' : A) (b : B) (l l' d : List T) (m : Last K) (u : T) (r : List T) → G.Spells a l → (H a).Spells b [] → G.Spells a' l' → (H a').Front m d → Cut l (u ∷ r) l' d → (sequence_sight s t).more u ≡ true
  on_empty a a' b l l' d m u r w v w' f (beyond y x e q) =
      let p : y ≡ u = cc in
      let k = g.goes_on a l fits y x w (subst (λ z. G.Front fits z) e (g.fronts.spelled a' l' w')) in
      or_right (t.more u) _ (and_both t.null (s.more u) ((h a).empty b v) (subst (λ z. s.more z ≡ true) p k))
  on_empty a a' b l l' d m u r w v w' f (equal e q) =
      on_second a a' b l [] l' d m u r w v w' f (g.single a a' l' (subst (λ z. G.Spells a z) e w) w') q
  on_empty a a' b l l' d m u r w v w' f (inside y x e q) =
      absurd (clash a' l' fits y x w' (subst (λ z. G.Front fits z) e (g.fronts.spelled a l w)) (leads_front a' m d f y (x ++ u ∷ r) q))

  on_joined : (a a' : A) (b : B) (l p l' d : List T) (m : Last K) (u : T) (r : List T) → G.Spells a l → (H a).Spells b p → G.Spells a' l' → (H a').Front m d → l ++ (p ++ u ∷ r) ≡ l' ++ d → (sequence_sight s t).more u ≡ true
  on_joined a a' b l [] l' d m u r w v w' f e = on_empty a a' b l l' d m u r w v w' f (cut l (u ∷ r) l' d e)
  on_joined a a' b l (y ∷ p) l' d m u r w v w' f e =
      let k = same_first a a' l ((y ∷ p) ++ u ∷ r) l' d e w w' (leads a fits (y ∷ p) (u ∷ r) ((h a).fronts.spelled b (y ∷ p) v) (λ q. cc)) (leads_front a' m d f) in
      on_second a a' b l (y ∷ p) l' d m u r w v w' f k.0 k.2

  on_sequence : (b : B) (pre : List T) (m : Last K) (u : T) (r : List T) → (sequence G H).Spells b pre → (sequence G H).Front m (pre ++ u ∷ r) → (sequence_sight s t).more u ≡ true
  on_sequence b pre m u r j (inl f) =
      let q : pre ++ u ∷ r ≡ j.left ++ (j.right ++ u ∷ r) = ap (λ z. z ++ u ∷ r) j.joined ∙ append_assoc j.left j.right (u ∷ r) in
      on_first j.value b j.left j.right m u r j.whole j.after (subst (λ z. G.Front m z) q f)
  on_sequence b pre m u r j (inr k) =
      let q : pre ++ u ∷ r ≡ j.left ++ (j.right ++ u ∷ r) = ap (λ z. z ++ u ∷ r) j.joined ∙ append_assoc j.left j.right (u ∷ r) in
      on_joined j.value k.value b j.left j.right k.left k.right m u r j.whole j.after k.whole k.after (sym q ∙ k.joined)

  single_sequence : (b b' : B) (ts : List T) → (sequence G H).Spells b ts → (sequence G H).Spells b' ts → b ≡ b'
  single_sequence b b' ts j k =
      let e = same_first j.value k.value j.left j.right k.left k.right (sym j.joined ∙ k.joined) j.whole k.whole
      (leads_front j.value fits j.right ((h j.value).fronts.spelled b j.right j.after))
      (leads_front k.value fits k.right ((h k.value).fronts.spelled b' k.right k.after)) in
      (h k.value).single b b' k.right
      (subst (λ z. (H k.value).Spells b z) e.2 (subst (λ z. (H z).Spells b j.right) e.0 j.after)) k.after

  last_first : (k : K) (pre : List T) (m : Last K) (r : List T) → G.Front (faulty k) pre → (j : Joined G (λ a. (H a).Front m) (pre ++ r)) → Cut pre r j.left j.right → (r ≡ []) × (m ≡ faulty k)
  last_first k pre m r f j (beyond u x e q) =
      let z = g.last k pre fits (u ∷ x) f (subst (λ y. G.Front fits y) e (g.fronts.spelled j.value j.left j.whole)) in
      let y = z.1 in cc
  last_first k pre m r f j (equal e q) =
      let z = g.last k pre fits [] f (rw append-nil (subst (λ y. G.Front fits y) (sym e) (g.fronts.spelled j.value j.left j.whole))) in
      let y = z.1 in cc
  last_first k pre m r f j (inside u x e q) =
      absurd (clash j.value j.left (faulty k) u x j.whole (subst (λ y. G.Front (faulty k) y) e f) (leads_front j.value m j.right j.after u (x ++ r) q))

  last_second : (k : K) (a : A) (l b : List T) (m : Last K) (r : List T) → G.Spells a l → (H a).Front (faulty k) b → G.Front m (l ++ (b ++ r)) → (r ≡ []) × (m ≡ faulty k)
  last_second k a l [] m r w f x = absurd (fault-nil (H a) t (h a) k f)
  last_second k a l (u ∷ b) m r w f x = absurd (clash a l m u (b ++ r) w x ((h a).starts (faulty k) u b f))

  last_both : (k : K) (a a' : A) (l b l' d : List T) (m : Last K) (r : List T) → G.Spells a l → (H a).Front (faulty k) b → G.Spells a' l' → (H a').Front m d → l ++ (b ++ r) ≡ l' ++ d → (r ≡ []) × (m ≡ faulty k)
  last_both k a a' l b l' d m r w f w' f' e =
      let z = same_first a a' l (b ++ r) l' d e w w' (leads a (faulty k) b r f (λ q. fault-nil (H a) t (h a) k (subst (λ y. (H a).Front (faulty k) y) q f))) (leads_front a' m d f') in
      (h a').last k b m r (subst (λ y. (H y).Front (faulty k) b) z.0 f) (subst (λ y. (H a').Front m y) (sym z.2) f')

  last_sequence : (k : K) (pre : List T) (m : Last K) (r : List T) → (sequence G H).Front (faulty k) pre → (sequence G H).Front m (pre ++ r) → (r ≡ []) × (m ≡ faulty k)
  last_sequence k pre m r (inl f) (inl f') = g.last k pre m r f f'
  last_sequence k pre m r (inl f) (inr j) = last_first k pre m r f j (cut pre r j.left j.right j.joined)
  last_sequence k pre m r (inr j) (inl f) =
      last_second k j.value j.left j.right m r j.whole j.after
      (subst (λ y. G.Front m y) (ap (λ z. z ++ r) j.joined ∙ append_assoc j.left j.right r) f)
  last_sequence k pre m r (inr j) (inr i) =
      last_both k j.value i.value j.left j.right i.left i.right m r j.whole j.after i.whole i.after
      (sym (ap (λ z. z ++ r) j.joined ∙ append_assoc j.left j.right r) ∙ i.joined)

  pub clear-sequence : Clear (sequence G H) (sequence_sight s t)
  clear-sequence = record {
    fronts = closed-sequence G H g.fronts (λ a. (h a).fronts);
    starts = starts-sequence;
    empty = empty-sequence;
    goes_on = on_sequence;
    single = single_sequence;
    last = last_sequence;
  }
