-- Rules with limits, part by part, and what their answers say of the rules without.
use Rattle.std.proofs.Common.{◌≡◌, ℕ, zero, suc, ◌+◌, ◌⊎◌, Bool, true, false, List, [], ◌∷◌, ◌++◌, refl, sym, ap, ◌∙◌, inl, inr, append_assoc, if◌then◌else◌}
use Rattle.grammar_rules.specs.Rules.{Rule, Last, fits, faulty, takes, faults, refuses, nothing, made, sequence, alternatives, either, one_of_two, headed, ◌&◌, bounded, many, fault, MeetsFault, Limits, Within}
use Rattle.grammar_rules.proofs.Clear.{Closed}
use Rattle.grammar_rules.proofs.Alternatives.{to_sum_right}

pub limits_refl : {T K A : Type 0} (G : Rule T K A) → Limits G G
limits_refl G = record { spells = λ a ts w. w; front = λ ts f. f; spelled = λ a ts w. inl w; fronted = λ m ts f. inl f }

-- a fault that is met within a text is met in what the text begins
meets_longer : {T K A : Type 0} (G : Rule T K A) (left right ts : List T) → ts ≡ left ++ right → MeetsFault G left → MeetsFault G ts
meets_longer G left right ts e w = record {
  pre = w.pre;
  at = w.at;
  rest = w.rest ++ right;
  kind = w.kind;
  is = e ∙ (ap (λ z. z ++ right) w.is ∙ append_assoc w.pre (w.at ∷ w.rest) right);
  front = w.front;
}

-- instead of a rule whose texts all begin with symbols that pass the test: a fault at such a symbol
module _ {T K A : Type 0} (k : K) (test : T → Bool) (H : Rule T K A) (starts : (m : Last K) (t : T) (r : List T) → H.Front m (t ∷ r) → test t ≡ true) (wants : (a : A) → H.Spells a [] → ⊥) (h : Closed H) (no_fault : (j : K) → H.Front (faulty j) [] → ⊥) where
  faulty_now : (t : T) (r : List T) → test t ≡ true → MeetsFault (fault {A = A} k test) (t ∷ r)
  faulty_now t r e = record { pre = []; at = t; rest = r; kind = k; is = refl; front = rw e }

  limit_front : (ts : List T) → (fault {A = A} k test).Front fits ts → H.Front fits ts
  limit_front [] f = h.nil
  limit_front (t ∷ []) f = absurd (never_taken t (test t) f.0 f.1)
    where
      never_taken : (u : T) (b : Bool) (a : A) → (if b then faults k else refuses) ≡ takes a → ⊥
      never_taken u true a e = cc
      never_taken u false a e = cc
  limit_front (t ∷ u ∷ ts) f = absurd f

  limit_spells : (a : A) (ts : List T) → (fault {A = A} k test).Spells a ts → H.Spells a ts
  limit_spells a [] w = absurd w
  limit_spells a (t ∷ []) w = absurd (never_taken t (test t) w)
    where
      never_taken : (u : T) (b : Bool) → (if b then faults k else refuses) ≡ takes a → ⊥
      never_taken u true e = cc
      never_taken u false e = cc
  limit_spells a (t ∷ u ∷ ts) w = absurd w

  limit_spelled : (a : A) (ts : List T) → H.Spells a ts → (fault {A = A} k test).Spells a ts ⊎ MeetsFault (fault {A = A} k test) ts
  limit_spelled a [] w = absurd (wants a w)
  limit_spelled a (t ∷ ts) w = inr (faulty_now t ts (starts fits t ts (h.spelled a (t ∷ ts) w)))

  limit_fronted : (m : Last K) (ts : List T) → H.Front m ts → (fault {A = A} k test).Front m ts ⊎ MeetsFault (fault {A = A} k test) ts
  limit_fronted fits [] f = inl tt
  limit_fronted (faulty j) [] f = absurd (no_fault j f)
  limit_fronted m (t ∷ ts) f = inr (faulty_now t ts (starts m t ts f))

  pub limits-fault : Limits (fault k test) H
  limits-fault = record { spells = limit_spells; front = limit_front; spelled = limit_spelled; fronted = limit_fronted }

module _ {T K A B : Type 0} (f : A → B) (G H : Rule T K A) (l : Limits G H) where
  meets_made : (ts : List T) → MeetsFault G ts → MeetsFault (made f G) ts
  meets_made ts w = record { pre = w.pre; at = w.at; rest = w.rest; kind = w.kind; is = w.is; front = w.front }

  spelled_made : (b : B) (ts : List T) (a : A) → f a ≡ b → G.Spells a ts ⊎ MeetsFault G ts → (made f G).Spells b ts ⊎ MeetsFault (made f G) ts
  spelled_made b ts a e (inl w) = inl (a, e, w)
  spelled_made b ts a e (inr w) = inr (meets_made ts w)

  fronted_made : (m : Last K) (ts : List T) → G.Front m ts ⊎ MeetsFault G ts → (made f G).Front m ts ⊎ MeetsFault (made f G) ts
  fronted_made m ts (inl w) = inl w
  fronted_made m ts (inr w) = inr (meets_made ts w)

  pub limits-made : Limits (made f G) (made f H)
  limits-made = record {
    spells = λ b ts w. (w.0, w.1, l.spells w.0 ts w.2);
    front = l.front;
    spelled = λ b ts w. spelled_made b ts w.0 w.1 (l.spelled w.0 ts w.2);
    fronted = λ m ts x. fronted_made m ts (l.fronted m ts x);
  }

module _ {T K A B : Type 0} (G G' : Rule T K A) (H H' : A → Rule T K B) (g : Limits G G') (h : (a : A) → Limits (H a) (H' a)) where
  meets_first : (ts : List T) → MeetsFault G ts → MeetsFault (sequence G H) ts
  meets_first ts w = record { pre = w.pre; at = w.at; rest = w.rest; kind = w.kind; is = w.is; front = inl w.front }

  meets_second : (a : A) (left right ts : List T) → ts ≡ left ++ right → G.Spells a left → MeetsFault (H a) right → MeetsFault (sequence G H) ts
  meets_second a left right ts e v w = record {
    pre = left ++ w.pre;
    at = w.at;
    rest = w.rest;
    kind = w.kind;
    is = e ∙ (ap (λ z. left ++ z) w.is ∙ sym (append_assoc left w.pre (w.at ∷ w.rest)));
    front = inr (record { value = a; left = left; right = w.pre ++ w.at ∷ []; joined = append_assoc left w.pre (w.at ∷ []); whole = v; after = w.front });
  }

  spelled_after : (b : B) (ts : List T) (a : A) (left right : List T) → ts ≡ left ++ right → G.Spells a left → (H a).Spells b right ⊎ MeetsFault (H a) right → (sequence G H).Spells b ts ⊎ MeetsFault (sequence G H) ts
  spelled_after b ts a left right e v (inl w) = inl (record { value = a; left = left; right = right; joined = e; whole = v; after = w })
  spelled_after b ts a left right e v (inr w) = inr (meets_second a left right ts e v w)

  spelled_before : (b : B) (ts : List T) (a : A) (left right : List T) → ts ≡ left ++ right → (H' a).Spells b right → G.Spells a left ⊎ MeetsFault G left → (sequence G H).Spells b ts ⊎ MeetsFault (sequence G H) ts
  spelled_before b ts a left right e w (inl v) = spelled_after b ts a left right e v ((h a).spelled b right w)
  spelled_before b ts a left right e w (inr v) = inr (meets_first ts (meets_longer G left right ts e v))

  front_after : (m : Last K) (ts : List T) (a : A) (left right : List T) → ts ≡ left ++ right → G.Spells a left → (H a).Front m right ⊎ MeetsFault (H a) right → (sequence G H).Front m ts ⊎ MeetsFault (sequence G H) ts
  front_after m ts a left right e v (inl w) = inl (inr (record { value = a; left = left; right = right; joined = e; whole = v; after = w }))
  front_after m ts a left right e v (inr w) = inr (meets_second a left right ts e v w)

  front_before : (m : Last K) (ts : List T) (a : A) (left right : List T) → ts ≡ left ++ right → (H' a).Front m right → G.Spells a left ⊎ MeetsFault G left → (sequence G H).Front m ts ⊎ MeetsFault (sequence G H) ts
  front_before m ts a left right e w (inl v) = front_after m ts a left right e v ((h a).fronted m right w)
  front_before m ts a left right e w (inr v) = inr (meets_first ts (meets_longer G left right ts e v))

  front_first : (m : Last K) (ts : List T) → G.Front m ts ⊎ MeetsFault G ts → (sequence G H).Front m ts ⊎ MeetsFault (sequence G H) ts
  front_first m ts (inl w) = inl (inl w)
  front_first m ts (inr w) = inr (meets_first ts w)

  fronted_sequence : (m : Last K) (ts : List T) → (sequence G' H').Front m ts → (sequence G H).Front m ts ⊎ MeetsFault (sequence G H) ts
  fronted_sequence m ts (inl f) = front_first m ts (g.fronted m ts f)
  fronted_sequence m ts (inr j) = front_before m ts j.value j.left j.right j.joined j.after (g.spelled j.value j.left j.whole)

  front_sequence : (ts : List T) → (sequence G H).Front fits ts → (sequence G' H').Front fits ts
  front_sequence ts (inl f) = inl (g.front ts f)
  front_sequence ts (inr j) = inr (record { value = j.value; left = j.left; right = j.right; joined = j.joined; whole = g.spells j.value j.left j.whole; after = (h j.value).front j.right j.after })

  pub limits-sequence : Limits (sequence G H) (sequence G' H')
  limits-sequence = record {
    spells = λ b ts j. record { value = j.value; left = j.left; right = j.right; joined = j.joined; whole = g.spells j.value j.left j.whole; after = (h j.value).spells b j.right j.after };
    front = front_sequence;
    spelled = λ b ts j. spelled_before b ts j.value j.left j.right j.joined j.after (g.spelled j.value j.left j.whole);
    fronted = fronted_sequence;
  }

-- alternatives: each of G's is one of H's with limits, and each of H's has limits among G's
module _ {T K A I J : Type 0} (G : I → Rule T K A) (H : J → Rule T K A) (to : I → J) (up : (i : I) → Limits (G i) (H (to i))) (back : J → I) (down : (j : J) → Limits (G (back j)) (H j)) where
  meets_member : (i : I) (ts : List T) → MeetsFault (G i) ts → MeetsFault (alternatives G) ts
  meets_member i ts w = record { pre = w.pre; at = w.at; rest = w.rest; kind = w.kind; is = w.is; front = inr (i, w.front) }

  spelled_member : (i : I) (a : A) (ts : List T) → (G i).Spells a ts ⊎ MeetsFault (G i) ts → (alternatives G).Spells a ts ⊎ MeetsFault (alternatives G) ts
  spelled_member i a ts (inl w) = inl (i, w)
  spelled_member i a ts (inr w) = inr (meets_member i ts w)

  front_member : (i : I) (m : Last K) (ts : List T) → (G i).Front m ts ⊎ MeetsFault (G i) ts → (alternatives G).Front m ts ⊎ MeetsFault (alternatives G) ts
  front_member i m ts (inl w) = inl (inr (i, w))
  front_member i m ts (inr w) = inr (meets_member i ts w)

  fronted_alternatives : (m : Last K) (ts : List T) → (alternatives H).Front m ts → (alternatives G).Front m ts ⊎ MeetsFault (alternatives G) ts
  fronted_alternatives m ts (inl e) = inl (inl e)
  fronted_alternatives m ts (inr f) = front_member (back f.0) m ts ((down f.0).fronted m ts f.1)

  front_alternatives : (ts : List T) → (alternatives G).Front fits ts → (alternatives H).Front fits ts
  front_alternatives ts (inl e) = inl e
  front_alternatives ts (inr f) = inr (to f.0, (up f.0).front ts f.1)

  pub limits-alternatives : Limits (alternatives G) (alternatives H)
  limits-alternatives = record {
    spells = λ a ts w. (to w.0, (up w.0).spells a ts w.1);
    front = front_alternatives;
    spelled = λ a ts w. spelled_member (back w.0) a ts ((down w.0).spelled a ts w.1);
    fronted = fronted_alternatives;
  }

pub limits-either : {T K A : Type 0} (G G' H H' : Rule T K A) → Limits G G' → Limits H H' → Limits (either G H) (either G' H')
limits-either G G' H H' g h =
    let both : (b : Bool) → Limits (one_of_two G H b) (one_of_two G' H' b) = elim [ true ↦ g | false ↦ h ] in
    limits-alternatives (one_of_two G H) (one_of_two G' H') (λ b. b) both (λ b. b) both

pub limits-pair : {T K A B : Type 0} (G G' : Rule T K A) (H H' : Rule T K B) → Limits G G' → Limits H H' → Limits (G & H) (G' & H')
limits-pair G G' H H' g h =
    limits-sequence G G' (λ a. made (λ b. (a, b)) H) (λ a. made (λ b. (a, b)) H') g (λ a. limits-made (λ b. (a, b)) H H' h)

pub limits-headed : {T K A : Type 0} (G G' : Rule T K A) (H H' : Rule T K (List A)) → Limits G G' → Limits H H' → Limits (headed G H) (headed G' H')
limits-headed G G' H H' g h =
    limits-sequence G G' (λ a. made (λ rest. a ∷ rest) H) (λ a. made (λ rest. a ∷ rest) H') g (λ a. limits-made (λ rest. a ∷ rest) H H' h)

pub limits-bounded : {T K A : Type 0} (n : ℕ) (G H : Rule T K A) (end end' : Rule T K (List A)) → Limits G H → Limits end end' → Limits (bounded n G end) (bounded n H end')
limits-bounded zero G H end end' l e = e
limits-bounded (suc n) G H end end' l e =
    limits-either (headed G (bounded n G end)) (headed H (bounded n H end')) (nothing []) (nothing [])
    (limits-headed G H (bounded n G end) (bounded n H end') l (limits-bounded n G H end end' l e)) (limits_refl (nothing []))

pub limits-many : {T K A : Type 0} (G H : Rule T K A) → Limits G H → Limits (many G) (many H)
limits-many G H l =
    let each : (n : ℕ) → Limits (bounded n G (nothing [])) (bounded n H (nothing [])) = λ n. limits-bounded n G H (nothing []) (nothing []) l (limits_refl (nothing [])) in
    limits-alternatives (λ n. bounded n G (nothing [])) (λ n. bounded n H (nothing [])) (λ n. n) each (λ n. n) each

-- limits of each member of a growing family from one on are limits of the family
module _ {T K A : Type 0} (G : Rule T K A) (H : ℕ → Rule T K A) (grows : (n : ℕ) → Within (H n) (H (suc n))) (d : ℕ) (l : (k : ℕ) → Limits G (H (d + k))) (g : Closed G) where
  fronted_family : (m : Last K) (ts : List T) → (alternatives H).Front m ts → G.Front m ts ⊎ MeetsFault G ts
  fronted_family m ts (inl e) = inl (rw (e.0, e.1) g.nil)
  fronted_family m ts (inr f) = (l f.0).fronted m ts ((to_sum_right H grows d f.0).front m ts f.1)

  pub limits-growing : Limits G (alternatives H)
  limits-growing = record {
    spells = λ a ts w. (d + 0, (l 0).spells a ts w);
    front = λ ts f. inr (d + 0, (l 0).front ts f);
    spelled = λ a ts w. (l w.0).spelled a ts ((to_sum_right H grows d w.0).spells a ts w.1);
    fronted = fronted_family;
  }
