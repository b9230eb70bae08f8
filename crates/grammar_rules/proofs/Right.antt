-- An outcome is right for a rule: the laws of the readers that mirror the rules.
use Rattle.std.proofs.Common.{◌≡◌, List, [], ◌∷◌, ◌++◌, Some, None, refl, sym, ap, ◌∙◌, subst, inl, inr, append_assoc, append-nil}
use Rattle.grammar_rules.specs.Rules.{Rule, Last, fits, faulty, Joined, Verdict, takes, faults, refuses, terminal, nothing, made, sequence, FrontOfOne}
use Rattle.grammar_rules.specs.Readers.{Outcome, found, failed, and_then, read_made, read_symbol, read_terminal}
use Rattle.grammar_rules.proofs.Lists.{Cut, beyond, equal, inside, cut}
use Rattle.grammar_rules.proofs.Clear.{Sight, Clear}
use Rattle.grammar_rules.proofs.Alternatives.{cons_not_nil}
use Rattle.grammar_rules.proofs.Sequences.{Apart, clash}

-- nothing goes on from pre with the first symbol of left
abbrev pub Stops : {T K A : Type 0} → Rule T K A → List T → List T → Type 0
Stops {T = T} {K = K} G pre left =
    (t : T) (r : List T) (m : Last K) (x : List T) → left ≡ t ∷ r → G.Front m (pre ++ t ∷ x) → ⊥

-- ts is a text of the value and then what is left, and the text doesn't go on there
pub record FoundAt {T K A : Type 0} (G : Rule T K A) (ts : List T) (a : A) (left : List T) : Type 0 where
  pub pre : List T
  pub is : ts ≡ pre ++ left
  pub spells : G.Spells a pre
  pub stops : Stops G pre left

-- ts is a front that is no text and then what is left, and the front doesn't go on there
pub record RefusedAt {T K A : Type 0} (G : Rule T K A) (ts left : List T) : Type 0 where
  pub pre : List T
  pub is : ts ≡ pre ++ left
  pub front : G.Front fits pre
  pub stops : Stops G pre left
  pub unspelled : (a : A) → G.Spells a pre → ⊥

-- ts is a front and then what is left, and the first symbol there has the fault
pub record FaultAt {T K A : Type 0} (G : Rule T K A) (ts : List T) (k : K) (left : List T) : Type 0 where
  pub pre : List T
  pub at : T
  pub behind : List T
  pub is : ts ≡ pre ++ left
  pub stands : left ≡ at ∷ behind
  pub front : G.Front (faulty k) (pre ++ at ∷ [])

-- the outcome is right for the rule at ts
abbrev pub Right : {T K A : Type 0} → Rule T K A → List T → Outcome T K A → Type 0
Right G ts (found a left) = FoundAt G ts a left
Right G ts (failed None left) = RefusedAt G ts left
Right G ts (failed (Some k) left) = FaultAt G ts k left

-- the empty text
pub right-nothing : {T K A : Type 0} (a : A) (ts : List T) → Right (nothing {T = T} {K = K} a) ts (found a ts)
right-nothing a ts = record {
  pre = [];
  is = refl;
  spells = (refl, refl);
  stops = λ t r m x e f. cons_not_nil [] t x f.1;
}

-- a terminal
module _ {T K A : Type 0} (look : T → Verdict K A) where
  no_two : (m : Last K) (t u : T) (x : List T) → FrontOfOne look m (t ∷ u ∷ x) → ⊥
  no_two fits t u x f = f
  no_two (faulty k) t u x f = f

  refused_one : (m : Last K) (t : T) (x : List T) → look t ≡ refuses → FrontOfOne look m (t ∷ x) → ⊥
  refused_one fits t [] e f = let q = f.1 in cc
  refused_one fits t (u ∷ x) e f = f
  refused_one (faulty k) t [] e f = cc
  refused_one (faulty k) t (u ∷ x) e f = f

  right_symbol : (v : Verdict K A) (t : T) (ts : List T) → look t ≡ v → Right (terminal look) (t ∷ ts) (read_symbol v t ts)
  right_symbol (takes a) t ts e = record {
    pre = t ∷ [];
    is = refl;
    spells = e;
    stops = λ u r m x q f. no_two m t u x f;
  }
  right_symbol (faults k) t ts e = record {
    pre = [];
    at = t;
    behind = ts;
    is = refl;
    stands = refl;
    front = e;
  }
  right_symbol refuses t ts e = record {
    pre = [];
    is = refl;
    front = tt;
    stops = λ u r m x q f.
        let p : t ≡ u = cc in
        refused_one m u x (subst (λ z. look z ≡ refuses) p e) f;
    unspelled = λ a w. w;
  }

  pub right-terminal : (ts : List T) → Right (terminal look) ts (read_terminal look ts)
  right-terminal [] = record {
    pre = [];
    is = refl;
    front = tt;
    stops = λ u r m x q f. cc;
    unspelled = λ a w. w;
  }
  right-terminal (t ∷ ts) = right_symbol (look t) t ts refl

-- values that are made of another rule's
pub right-made : {T K A B : Type 0} (f : A → B) (G : Rule T K A) (ts : List T) (o : Outcome T K A) → Right G ts o → Right (made f G) ts (read_made f o)
right-made f G ts (found a left) w = record { pre = w.pre; is = w.is; spells = (a, refl, w.spells); stops = w.stops }
right-made f G ts (failed None left) w = record { pre = w.pre; is = w.is; front = w.front; stops = w.stops; unspelled = λ b v. w.unspelled v.0 v.2 }
right-made f G ts (failed (Some k) left) w = record { pre = w.pre; at = w.at; behind = w.behind; is = w.is; stands = w.stands; front = w.front }

-- a sequence
module _ {T K A B : Type 0} (G : Rule T K A) (H : A → Rule T K B) (s t : Sight T) (g : Clear G s) (h : (a : A) → Clear (H a) t) (off : Apart s t) where
  -- the first rule's text is found, and doesn't go on
  module _ (a : A) (pre : List T) (left : List T) (w : G.Spells a pre) (st : Stops G pre left) where
    -- a front of the sequence that begins with pre and more of left is one behind it
    behind_cut : (m : Last K) (q : List T) (u : T) (x : List T) (e : (r : List T) × (left ≡ q ++ u ∷ r)) (j : Joined G (λ c. (H c).Front m) (pre ++ (q ++ u ∷ x))) → Cut pre (q ++ u ∷ x) j.left j.right → (H a).Front m (q ++ u ∷ x)
    behind_cut m [] u x e j (beyond y z f k) =
        let p : y ≡ u = cc in
        absurd (st u e.0 fits z e.1 (subst (λ l. G.Front fits (pre ++ l)) (ap (λ v. v ∷ z) p) (subst (λ l. G.Front fits l) f (g.fronts.spelled j.value j.left j.whole))))
    behind_cut m (v ∷ q) u x e j (beyond y z f k) =
        let p : y ≡ v = cc in
        absurd (st v (q ++ u ∷ e.0) fits z e.1 (subst (λ l. G.Front fits (pre ++ l)) (ap (λ n. n ∷ z) p) (subst (λ l. G.Front fits l) f (g.fronts.spelled j.value j.left j.whole))))
    behind_cut m q u x e j (equal f k) =
        let p = g.single j.value a pre (subst (λ l. G.Spells j.value l) (sym f) j.whole) w in
        subst (λ l. (H a).Front m l) (sym k) (subst (λ c. (H c).Front m j.right) p j.after)
    behind_cut m q u x e j (inside y z f k) =
        absurd (clash G H s t g h off j.value j.left fits y z j.whole (subst (λ l. G.Front fits l) f (g.fronts.spelled a pre w))
        ((h j.value).starts m y (z ++ (q ++ u ∷ x)) (subst (λ l. (H j.value).Front m l) k j.after)))

    first_again : (m : Last K) (q : List T) (u : T) (x : List T) (e : (r : List T) × (left ≡ q ++ u ∷ r)) → G.Front m (pre ++ (q ++ u ∷ x)) → ⊥
    first_again m [] u x e f = st u e.0 m x e.1 f
    first_again m (v ∷ q) u x e f = st v (q ++ u ∷ e.0) m (q ++ u ∷ x) e.1 f

    behind : (m : Last K) (q : List T) (u : T) (x : List T) (e : (r : List T) × (left ≡ q ++ u ∷ r)) → (sequence G H).Front m (pre ++ (q ++ u ∷ x)) → (H a).Front m (q ++ u ∷ x)
    behind m q u x e (inl f) = absurd (first_again m q u x e f)
    behind m q u x e (inr j) = behind_cut m q u x e j (cut pre (q ++ u ∷ x) j.left j.right j.joined)

    -- what doesn't go on behind pre doesn't go on at all
    stops_behind : (q rest : List T) → left ≡ q ++ rest → Stops (H a) q rest → Stops (sequence G H) (pre ++ q) rest
    stops_behind q rest e so u r m x k f =
        so u r m x k (behind m q u x (r, e ∙ ap (λ l. q ++ l) k) (subst (λ l. (sequence G H).Front m l) (append_assoc pre q (u ∷ x)) f))

    -- a value of the sequence over pre and q has the second rule's text q
    unspelled_cut : (q rest : List T) → left ≡ q ++ rest → (b : B) (j : Joined G (λ c. (H c).Spells b) (pre ++ q)) → Cut pre q j.left j.right → (H a).Spells b q
    unspelled_cut [] rest e b j (beyond y z f k) = cc
    unspelled_cut (v ∷ q) rest e b j (beyond y z f k) =
        let p : y ≡ v = cc in
        absurd (st v (q ++ rest) fits z e (subst (λ l. G.Front fits (pre ++ l)) (ap (λ n. n ∷ z) p) (subst (λ l. G.Front fits l) f (g.fronts.spelled j.value j.left j.whole))))
    unspelled_cut q rest e b j (equal f k) =
        let p = g.single j.value a pre (subst (λ l. G.Spells j.value l) (sym f) j.whole) w in
        subst (λ l. (H a).Spells b l) (sym k) (subst (λ c. (H c).Spells b j.right) p j.after)
    unspelled_cut q rest e b j (inside y z f k) =
        absurd (clash G H s t g h off j.value j.left fits y z j.whole (subst (λ l. G.Front fits l) f (g.fronts.spelled a pre w))
        ((h j.value).starts fits y (z ++ q) (subst (λ l. (H j.value).Front fits l) k ((h j.value).fronts.spelled b j.right j.after))))

    pub right_second : (ts : List T) → ts ≡ pre ++ left → (o : Outcome T K B) → Right (H a) left o → Right (sequence G H) ts o
    right_second ts is (found b rest) v = record {
      pre = pre ++ v.pre;
      is = is ∙ (ap (λ l. pre ++ l) v.is ∙ sym (append_assoc pre v.pre rest));
      spells = record { value = a; left = pre; right = v.pre; joined = refl; whole = w; after = v.spells };
      stops = stops_behind v.pre rest v.is v.stops;
    }
    right_second ts is (failed None rest) v = record {
      pre = pre ++ v.pre;
      is = is ∙ (ap (λ l. pre ++ l) v.is ∙ sym (append_assoc pre v.pre rest));
      front = inr (record { value = a; left = pre; right = v.pre; joined = refl; whole = w; after = v.front });
      stops = stops_behind v.pre rest v.is v.stops;
      unspelled = λ b j. v.unspelled b (unspelled_cut v.pre rest v.is b j (cut pre v.pre j.left j.right j.joined));
    }
    right_second ts is (failed (Some k) rest) v = record {
      pre = pre ++ v.pre;
      at = v.at;
      behind = v.behind;
      is = is ∙ (ap (λ l. pre ++ l) v.is ∙ sym (append_assoc pre v.pre rest));
      stands = v.stands;
      front = inr (record { value = a; left = pre; right = v.pre ++ v.at ∷ []; joined = append_assoc pre v.pre (v.at ∷ []); whole = w; after = v.front });
    }

  -- the first rule refuses
  module _ (ts left : List T) (v : RefusedAt G ts left) where
    refused_cut : (u : T) (r : List T) (m : Last K) (x : List T) → left ≡ u ∷ r → (j : Joined G (λ c. (H c).Front m) (v.pre ++ u ∷ x)) → Cut v.pre (u ∷ x) j.left j.right → ⊥
    refused_cut u r m x e j (beyond y z f k) =
        let p : y ≡ u = cc in
        v.stops u r fits z e (subst (λ l. G.Front fits (v.pre ++ l)) (ap (λ n. n ∷ z) p) (subst (λ l. G.Front fits l) f (g.fronts.spelled j.value j.left j.whole)))
    refused_cut u r m x e j (equal f k) = v.unspelled j.value (subst (λ l. G.Spells j.value l) (sym f) j.whole)
    refused_cut u r m x e j (inside y z f k) =
        clash G H s t g h off j.value j.left fits y z j.whole (subst (λ l. G.Front fits l) f v.front)
        ((h j.value).starts m y (z ++ u ∷ x) (subst (λ l. (H j.value).Front m l) k j.after))

    refused_front : (u : T) (r : List T) (m : Last K) (x : List T) → left ≡ u ∷ r → (sequence G H).Front m (v.pre ++ u ∷ x) → ⊥
    refused_front u r m x e (inl f) = v.stops u r m x e f
    refused_front u r m x e (inr j) = refused_cut u r m x e j (cut v.pre (u ∷ x) j.left j.right j.joined)

    refused_text : (b : B) (j : Joined G (λ c. (H c).Spells b) v.pre) → Cut v.pre [] j.left j.right → ⊥
    refused_text b j (beyond y z f k) = cc
    refused_text b j (equal f k) = v.unspelled j.value (subst (λ l. G.Spells j.value l) (sym f) j.whole)
    refused_text b j (inside y z f k) =
        clash G H s t g h off j.value j.left fits y z j.whole (subst (λ l. G.Front fits l) f v.front)
        ((h j.value).starts fits y (z ++ []) (subst (λ l. (H j.value).Front fits l) k ((h j.value).fronts.spelled b j.right j.after)))

    refused_first : Right (sequence G H) ts (failed None left)
    refused_first = record {
      pre = v.pre;
      is = v.is;
      front = inl v.front;
      stops = refused_front;
      unspelled = λ b j. refused_text b j (cut v.pre [] j.left j.right (append-nil v.pre ∙ j.joined));
    }

  pub right-sequence : (ts : List T) (o : Outcome T K A) → Right G ts o → (read : A → List T → Outcome T K B) → ((a : A) (left : List T) → Right (H a) left (read a left)) → Right (sequence G H) ts (and_then o read)
  right-sequence ts (found a left) v read right = right_second a v.pre left v.spells v.stops ts v.is (read a left) (right a left)
  right-sequence ts (failed None left) v read right = refused_first ts left v
  right-sequence ts (failed (Some k) left) v read right = record { pre = v.pre; at = v.at; behind = v.behind; is = v.is; stands = v.stands; front = inl v.front }
