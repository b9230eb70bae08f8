-- A rule that says no more than another, part by part: so a longer depth says no less.
use Rattle.std.proofs.Common.{ℕ, zero, suc, true, false, List, [], ◌∷◌, inl, inr}
use Rattle.grammar_rules.specs.Rules.{Rule, Last, nothing, made, sequence, alternatives, either, one_of_two, headed, ◌&◌, followed_by, preceded_by, bounded, many, Within}
use Rattle.grammar_rules.proofs.Alternatives.{Within_refl}

pub within-made : {T K A B : Type 0} (f : A → B) (G H : Rule T K A) → Within G H → Within (made f G) (made f H)
within-made f G H w = record {
  spells = λ b ts v. (v.0, v.1, w.spells v.0 ts v.2);
  front = w.front;
}

module _ {T K A B : Type 0} (G G' : Rule T K A) (H H' : A → Rule T K B) (g : Within G G') (h : (a : A) → Within (H a) (H' a)) where
  within_front : (m : Last K) (ts : List T) → (sequence G H).Front m ts → (sequence G' H').Front m ts
  within_front m ts (inl f) = inl (g.front m ts f)
  within_front m ts (inr j) = inr (record { value = j.value; left = j.left; right = j.right; joined = j.joined; whole = g.spells j.value j.left j.whole; after = (h j.value).front m j.right j.after })

  pub within-sequence : Within (sequence G H) (sequence G' H')
  within-sequence = record {
    spells = λ b ts j. record { value = j.value; left = j.left; right = j.right; joined = j.joined; whole = g.spells j.value j.left j.whole; after = (h j.value).spells b j.right j.after };
    front = within_front;
  }

module _ {T K A I : Type 0} (G H : I → Rule T K A) (w : (i : I) → Within (G i) (H i)) where
  within_alternative : (m : Last K) (ts : List T) → (alternatives G).Front m ts → (alternatives H).Front m ts
  within_alternative m ts (inl e) = inl e
  within_alternative m ts (inr f) = inr (f.0, (w f.0).front m ts f.1)

  pub within-alternatives : Within (alternatives G) (alternatives H)
  within-alternatives = record {
    spells = λ a ts v. (v.0, (w v.0).spells a ts v.1);
    front = within_alternative;
  }

-- each member says no more than the alternatives
pub within-member : {T K A I : Type 0} (G : I → Rule T K A) (i : I) → Within (G i) (alternatives G)
within-member G i = record {
  spells = λ a ts v. (i, v);
  front = λ m ts f. inr (i, f);
}

pub within-either : {T K A : Type 0} (G G' H H' : Rule T K A) → Within G G' → Within H H' → Within (either G H) (either G' H')
within-either G G' H H' g h =
    within-alternatives (one_of_two G H) (one_of_two G' H') (elim [ true ↦ g | false ↦ h ])

pub within-pair : {T K A B : Type 0} (G G' : Rule T K A) (H H' : Rule T K B) → Within G G' → Within H H' → Within (G & H) (G' & H')
within-pair G G' H H' g h =
    within-sequence G G' (λ a. made (λ b. (a, b)) H) (λ a. made (λ b. (a, b)) H') g (λ a. within-made (λ b. (a, b)) H H' h)

pub within-headed : {T K A : Type 0} (G G' : Rule T K A) (H H' : Rule T K (List A)) → Within G G' → Within H H' → Within (headed G H) (headed G' H')
within-headed G G' H H' g h =
    within-sequence G G' (λ a. made (λ rest. a ∷ rest) H) (λ a. made (λ rest. a ∷ rest) H') g (λ a. within-made (λ rest. a ∷ rest) H H' h)

pub within-followed_by : {T K A B : Type 0} (G G' : Rule T K A) (H H' : Rule T K B) → Within G G' → Within H H' → Within (followed_by G H) (followed_by G' H')
within-followed_by G G' H H' g h =
    within-sequence G G' (λ a. made (λ b. a) H) (λ a. made (λ b. a) H') g (λ a. within-made (λ b. a) H H' h)

pub within-preceded_by : {T K A B : Type 0} (G G' : Rule T K A) (H H' : Rule T K B) → Within G G' → Within H H' → Within (preceded_by G H) (preceded_by G' H')
within-preceded_by G G' H H' g h = within-sequence G G' (λ a. H) (λ a. H') g (λ a. h)

pub within-bounded : {T K A : Type 0} (n : ℕ) (G G' : Rule T K A) (end end' : Rule T K (List A)) → Within G G' → Within end end' → Within (bounded n G end) (bounded n G' end')
within-bounded zero G G' end end' g e = e
within-bounded (suc n) G G' end end' g e =
    within-either (headed G (bounded n G end)) (headed G' (bounded n G' end')) (nothing []) (nothing [])
    (within-headed G G' (bounded n G end) (bounded n G' end') g (within-bounded n G G' end end' g e))
    (Within_refl (nothing []))

pub within-many : {T K A : Type 0} (G H : Rule T K A) → Within G H → Within (many G) (many H)
within-many G H w =
    within-alternatives (λ n. bounded n G (nothing [])) (λ n. bounded n H (nothing []))
    (λ n. within-bounded n G H (nothing []) (nothing []) w (Within_refl (nothing [])))

-- one repetition more says no less
pub bounded_grows : {T K A : Type 0} (G : Rule T K A) (n : ℕ) → Within (bounded n G (nothing [])) (bounded (suc n) G (nothing []))
bounded_grows G zero = within-member (one_of_two (headed G (nothing [])) (nothing [])) false
bounded_grows G (suc n) =
    within-either (headed G (bounded n G (nothing []))) (headed G (bounded (suc n) G (nothing []))) (nothing []) (nothing [])
    (within-headed G G (bounded n G (nothing [])) (bounded (suc n) G (nothing [])) (Within_refl G) (bounded_grows G n))
    (Within_refl (nothing []))
