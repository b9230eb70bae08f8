-- Rules in which each front begins a text, part by part.
use Rattle.std.proofs.Common.{◌≡◌, ℕ, zero, suc, true, false, List, [], ◌∷◌, ◌++◌, refl, sym, ap, ◌∙◌, subst, inl, inr, append_assoc, append-nil}
use Rattle.grammar_rules.specs.Rules.{Rule, fits, Verdict, takes, Joined, terminal, nothing, made, sequence, alternatives, either, one_of_two, headed, ◌&◌, bounded, many, SpelledByOne, FrontOfOne, Completes}
use Rattle.grammar_rules.proofs.Clear.{Closed}

-- a terminal that some symbol fits
pub completes-terminal : {T K A : Type 0} (look : T → Verdict K A) (t : T) (a : A) → look t ≡ takes a → Completes (terminal look) (terminal look)
completes-terminal {T = T} {A = A} look t a e = record { spells = λ b ts w. w; completed = done }
  where
    done : (ts : List T) → FrontOfOne look fits ts → (rest : List T) × (b : A) × SpelledByOne look b (ts ++ rest)
    done [] f = (t ∷ [], a, e)
    done (u ∷ []) f = ([], f.0, f.1)
    done (u ∷ v ∷ ts) f = absurd f

pub completes-nothing : {T K A : Type 0} (a : A) → Completes (nothing {T = T} {K = K} a) (nothing a)
completes-nothing a = record {
  spells = λ b ts w. w;
  completed = λ ts f. ([], a, (refl, append-nil ts ∙ f.1));
}

pub completes-made : {T K A B : Type 0} (f : A → B) (G H : Rule T K A) → Completes G H → Completes (made f G) (made f H)
completes-made f G H c = record {
  spells = λ b ts w. (w.0, w.1, c.spells w.0 ts w.2);
  completed = λ ts x. let w = c.completed ts x in (w.0, f w.1, (w.1, refl, w.2));
}

-- a sequence, whose second rule begins some text for each value
module _ {T K A B : Type 0} (G G' : Rule T K A) (H H' : A → Rule T K B) (g : Completes G G') (h : (a : A) → Completes (H a) (H' a)) (nil : (a : A) → (H a).Front fits []) where
  done_first : (ts : List T) → G.Front fits ts → (rest : List T) × (b : B) × (sequence G' H').Spells b (ts ++ rest)
  done_first ts f =
      let w = g.completed ts f in
      let v = (h w.1).completed [] (nil w.1) in
      (w.0 ++ v.0, v.1, record { value = w.1; left = ts ++ w.0; right = v.0; joined = sym (append_assoc ts w.0 v.0); whole = w.2; after = v.2 })

  done_second : (ts : List T) → Joined G (λ a. (H a).Front fits) ts → (rest : List T) × (b : B) × (sequence G' H').Spells b (ts ++ rest)
  done_second ts j =
      let v = (h j.value).completed j.right j.after in
      (v.0, v.1, record { value = j.value; left = j.left; right = j.right ++ v.0; joined = ap (λ z. z ++ v.0) j.joined ∙ append_assoc j.left j.right v.0; whole = g.spells j.value j.left j.whole; after = v.2 })

  done_sequence : (ts : List T) → (sequence G H).Front fits ts → (rest : List T) × (b : B) × (sequence G' H').Spells b (ts ++ rest)
  done_sequence ts (inl f) = done_first ts f
  done_sequence ts (inr j) = done_second ts j

  pub completes-sequence : Completes (sequence G H) (sequence G' H')
  completes-sequence = record {
    spells = λ b ts j. record { value = j.value; left = j.left; right = j.right; joined = j.joined; whole = g.spells j.value j.left j.whole; after = (h j.value).spells b j.right j.after };
    completed = done_sequence;
  }

-- alternatives, of which each may be completed in another member
module _ {T K A I J : Type 0} (G : I → Rule T K A) (H : J → Rule T K A) (to : I → J) (c : (i : I) → Completes (G i) (H (to i))) (i : I) (nil : (G i).Front fits []) where
  done_member : (k : I) (ts : List T) → (G k).Front fits ts → (rest : List T) × (a : A) × (alternatives H).Spells a (ts ++ rest)
  done_member k ts f = let w = (c k).completed ts f in (w.0, w.1, (to k, w.2))

  done_alternative : (ts : List T) → (alternatives G).Front fits ts → (rest : List T) × (a : A) × (alternatives H).Spells a (ts ++ rest)
  done_alternative ts (inl e) = done_member i ts (subst (λ z. (G i).Front fits z) (sym e.1) nil)
  done_alternative ts (inr f) = done_member f.0 ts f.1

  pub completes-alternatives : Completes (alternatives G) (alternatives H)
  completes-alternatives = record {
    spells = λ a ts w. (to w.0, (c w.0).spells a ts w.1);
    completed = done_alternative;
  }

pub completes-either : {T K A : Type 0} (G G' H H' : Rule T K A) → Completes G G' → Completes H H' → G.Front fits [] → Completes (either G H) (either G' H')
completes-either G G' H H' g h nil =
    completes-alternatives (one_of_two G H) (one_of_two G' H') (λ b. b) (elim [ true ↦ g | false ↦ h ]) true nil

pub completes-pair : {T K A B : Type 0} (G G' : Rule T K A) (H H' : Rule T K B) → Completes G G' → Completes H H' → H.Front fits [] → Completes (G & H) (G' & H')
completes-pair G G' H H' g h nil =
    completes-sequence G G' (λ a. made (λ b. (a, b)) H) (λ a. made (λ b. (a, b)) H') g (λ a. completes-made (λ b. (a, b)) H H' h) (λ a. nil)

pub completes-headed : {T K A : Type 0} (G G' : Rule T K A) (H H' : Rule T K (List A)) → Completes G G' → Completes H H' → H.Front fits [] → Completes (headed G H) (headed G' H')
completes-headed G G' H H' g h nil =
    completes-sequence G G' (λ a. made (λ rest. a ∷ rest) H) (λ a. made (λ rest. a ∷ rest) H') g (λ a. completes-made (λ rest. a ∷ rest) H H' h) (λ a. nil)

bounded_nil : {T K A : Type 0} (n : ℕ) (G : Rule T K A) → (bounded n G (nothing [])).Front fits []
bounded_nil zero G = (refl, refl)
bounded_nil (suc n) G = inl (refl, refl)

pub completes-bounded : {T K A : Type 0} (n : ℕ) (G H : Rule T K A) → Completes G H → G.Front fits [] → Completes (bounded n G (nothing [])) (bounded n H (nothing []))
completes-bounded zero G H c nil = completes-nothing []
completes-bounded (suc n) G H c nil =
    completes-either (headed G (bounded n G (nothing []))) (headed H (bounded n H (nothing []))) (nothing []) (nothing [])
    (completes-headed G H (bounded n G (nothing [])) (bounded n H (nothing [])) c (completes-bounded n G H c nil) (bounded_nil n G))
    (completes-nothing []) (inl nil)

pub completes-many : {T K A : Type 0} (G H : Rule T K A) → Completes G H → G.Front fits [] → Completes (many G) (many H)
completes-many G H c nil =
    completes-alternatives (λ n. bounded n G (nothing [])) (λ n. bounded n H (nothing [])) (λ n. n)
    (λ n. completes-bounded n G H c nil) 0 (refl, refl)

-- where each member of a family is completed by a later one, the family completes itself
pub completes-family : {T K A : Type 0} (G : ℕ → Rule T K A) → ((n : ℕ) → Completes (G n) (G (suc n))) → (G 0).Front fits [] → Completes (alternatives G) (alternatives G)
completes-family G c nil = completes-alternatives G G suc c 0 nil

-- what begins a text is a front; so where a rule completes itself, the two are one
prefix-front : {T K A : Type 0} (G : Rule T K A) → Closed G → (ts rest : List T) (a : A) → G.Spells a (ts ++ rest) → G.Front fits ts
prefix-front G g ts [] a w = subst (λ z. G.Front fits z) (append-nil ts) (g.spelled a (ts ++ []) w)
prefix-front G g ts (t ∷ rest) a w = g.closed fits ts t rest (g.spelled a (ts ++ t ∷ rest) w)

pub front_begins_text : {T K A : Type 0} (G : Rule T K A) → Closed G → Completes G G → (ts : List T)
    → (G.Front fits ts → (rest : List T) × (a : A) × G.Spells a (ts ++ rest)) × (((rest : List T) × (a : A) × G.Spells a (ts ++ rest)) → G.Front fits ts)
front_begins_text G g c ts = (c.completed ts, λ w. prefix-front G g ts w.0 w.1 w.2)
