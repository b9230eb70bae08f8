-- How rules are factored: each law says that two forms say the same.
use Rattle.std.proofs.Common.{◌≡◌, ℕ, ◌-◌, nat_lt, Bool, true, false, List, [], ◌++◌, refl, sym, ap, ◌∙◌, subst, inl, inr, append_assoc, append-nil}
use Rattle.grammar_rules.specs.Rules.{Rule, Last, fits, Verdict, limited, terminal, nothing, made, sequence, begun, either, one_of_two, Within, Same}
use Rattle.grammar_rules.specs.Counted.{Counted, one_more, given, both}
use Rattle.grammar_rules.specs.Factored.{then_optional}
use Rattle.grammar_rules.proofs.Clear.{Closed}
use Rattle.grammar_rules.proofs.Same.{same_refl, same_trans, same-either, same-sequence}

-- behind a whole text nothing more
front_whole : {T K A : Type 0} (G : Rule T K A) → Closed G → (last : Last K) (ts left right : List T) (a : A) → ts ≡ left ++ right → G.Spells a left → last ≡ fits → right ≡ [] → G.Front last ts
front_whole G g last ts left right a e w f n =
    let p : left ≡ ts = sym (append-nil left) ∙ sym (ap (λ z. left ++ z) n) ∙ sym e in
    rw f (subst (λ z. G.Front fits z) p (g.spelled a left w))

-- ---- two alternatives that begin alike: (G then H) or (G then J) is G then (H or J)
module _ {T K A B : Type 0} (G : Rule T K A) (H J : A → Rule T K B) (g : Closed G) where
  factored_spells : (b : B) (ts : List T) → (either (sequence G H) (sequence G J)).Spells b ts → (sequence G (λ a. either (H a) (J a))).Spells b ts
  factored_spells b ts (true, j) = record { value = j.value; left = j.left; right = j.right; joined = j.joined; whole = j.whole; after = (true, j.after) }
  factored_spells b ts (false, j) = record { value = j.value; left = j.left; right = j.right; joined = j.joined; whole = j.whole; after = (false, j.after) }

  unfactored_cases : (b : B) (ts : List T) (a : A) (left right : List T) → ts ≡ left ++ right → G.Spells a left → (i : Bool) → (one_of_two (H a) (J a) i).Spells b right → (either (sequence G H) (sequence G J)).Spells b ts
  unfactored_cases b ts a left right e w true v = (true, record { value = a; left = left; right = right; joined = e; whole = w; after = v })
  unfactored_cases b ts a left right e w false v = (false, record { value = a; left = left; right = right; joined = e; whole = w; after = v })

  factored_member : (last : Last K) (ts : List T) (i : Bool) → (one_of_two (sequence G H) (sequence G J) i).Front last ts → (sequence G (λ a. either (H a) (J a))).Front last ts
  factored_member last ts true (inl f) = inl f
  factored_member last ts true (inr j) = inr (record { value = j.value; left = j.left; right = j.right; joined = j.joined; whole = j.whole; after = inr (true, j.after) })
  factored_member last ts false (inl f) = inl f
  factored_member last ts false (inr j) = inr (record { value = j.value; left = j.left; right = j.right; joined = j.joined; whole = j.whole; after = inr (false, j.after) })

  factored_front : (last : Last K) (ts : List T) → (either (sequence G H) (sequence G J)).Front last ts → (sequence G (λ a. either (H a) (J a))).Front last ts
  factored_front last ts (inl e) = inl (rw (e.0, e.1) g.nil)
  factored_front last ts (inr f) = factored_member last ts f.0 f.1

  unfactored_after : (last : Last K) (ts : List T) (a : A) (left right : List T) → ts ≡ left ++ right → G.Spells a left → (i : Bool) → (one_of_two (H a) (J a) i).Front last right → (either (sequence G H) (sequence G J)).Front last ts
  unfactored_after last ts a left right e w true f = inr (true, inr (record { value = a; left = left; right = right; joined = e; whole = w; after = f }))
  unfactored_after last ts a left right e w false f = inr (false, inr (record { value = a; left = left; right = right; joined = e; whole = w; after = f }))

  unfactored_joined : (last : Last K) (ts : List T) (a : A) (left right : List T) → ts ≡ left ++ right → G.Spells a left → (either (H a) (J a)).Front last right → (either (sequence G H) (sequence G J)).Front last ts
  unfactored_joined last ts a left right e w (inl n) = inr (true, inl (front_whole G g last ts left right a e w n.0 n.1))
  unfactored_joined last ts a left right e w (inr f) = unfactored_after last ts a left right e w f.0 f.1

  unfactored_front : (last : Last K) (ts : List T) → (sequence G (λ a. either (H a) (J a))).Front last ts → (either (sequence G H) (sequence G J)).Front last ts
  unfactored_front last ts (inl f) = inr (true, inl f)
  unfactored_front last ts (inr j) = unfactored_joined last ts j.value j.left j.right j.joined j.whole j.after

  pub same_factored : Same (either (sequence G H) (sequence G J)) (sequence G (λ a. either (H a) (J a)))
  same_factored = record {
    there = record { spells = factored_spells; front = factored_front };
    back = record {
      spells = λ b ts j. unfactored_cases b ts j.value j.left j.right j.joined j.whole j.after.0 j.after.1;
      front = unfactored_front;
    };
  }

-- ---- G alone is G and then nothing
module _ {T K A B : Type 0} (G : Rule T K A) (f : A → B) (g : Closed G) where
  alone_spells : (b : B) (ts : List T) → (sequence G (λ a. nothing (f a))).Spells b ts → (made f G).Spells b ts
  alone_spells b ts j =
      let p : j.left ≡ ts = sym (append-nil j.left) ∙ sym (ap (λ z. j.left ++ z) j.after.1) ∙ sym j.joined in
      (j.value, j.after.0, subst (λ z. G.Spells j.value z) p j.whole)

  alone_front : (last : Last K) (ts : List T) → (sequence G (λ a. nothing (f a))).Front last ts → G.Front last ts
  alone_front last ts (inl x) = x
  alone_front last ts (inr j) = front_whole G g last ts j.left j.right j.value j.joined j.whole j.after.0 j.after.1

  pub same_alone : Same (made f G) (sequence G (λ a. nothing (f a)))
  same_alone = record {
    there = record {
      spells = λ b ts w. record { value = w.0; left = ts; right = []; joined = sym (append-nil ts); whole = w.2; after = (w.1, refl) };
      front = λ last ts x. inl x;
    };
    back = record { spells = alone_spells; front = alone_front };
  }

-- an optional tail: (G then H) or G is G then (H or nothing)
pub same_then_optional : {T K A B : Type 0} (G : Rule T K A) (H : A → Rule T K B) (f : A → B) → Closed G → Same (either (sequence G H) (made f G)) (then_optional G H f)
same_then_optional G H f g =
    same_trans (either (sequence G H) (made f G)) (either (sequence G H) (sequence G (λ a. nothing (f a)))) (then_optional G H f)
    (same-either (sequence G H) (sequence G H) (made f G) (sequence G (λ a. nothing (f a))) (same_refl (sequence G H)) (same_alone G f g))
    (same_factored G H (λ a. nothing (f a)) g)

-- ---- values that are made, inside and outside
pub same_made_twice : {T K A B C : Type 0} (f : B → C) (h : A → B) (G : Rule T K A) → Same (made f (made h G)) (made (λ a. f (h a)) G)
same_made_twice f h G = record {
  there = record { spells = λ c ts w. (w.2.0, ap f w.2.1 ∙ w.1, w.2.2); front = λ last ts x. x };
  back = record { spells = λ c ts w. (h w.0, w.1, (w.0, refl, w.2)); front = λ last ts x. x };
}

pub same_made_second : {T K A B C : Type 0} (f : B → C) (G : Rule T K A) (H : A → Rule T K B) → Same (made f (sequence G H)) (sequence G (λ a. made f (H a)))
same_made_second f G H = record {
  there = record {
    spells = λ c ts w. record { value = w.2.value; left = w.2.left; right = w.2.right; joined = w.2.joined; whole = w.2.whole; after = (w.0, w.1, w.2.after) };
    front = λ last ts x. x;
  };
  back = record {
    spells = λ c ts j. (j.after.0, j.after.1, record { value = j.value; left = j.left; right = j.right; joined = j.joined; whole = j.whole; after = j.after.2 });
    front = λ last ts x. x;
  };
}

module _ {T K A B C : Type 0} (f : A → B) (G : Rule T K A) (H : B → Rule T K C) where
  into_first : (last : Last K) (ts : List T) → (sequence (made f G) H).Front last ts → (sequence G (λ a. H (f a))).Front last ts
  into_first last ts (inl x) = inl x
  into_first last ts (inr j) =
      inr (record { value = j.whole.0; left = j.left; right = j.right; joined = j.joined; whole = j.whole.2; after = subst (λ b. (H b).Front last j.right) (sym j.whole.1) j.after })

  out_of_first : (last : Last K) (ts : List T) → (sequence G (λ a. H (f a))).Front last ts → (sequence (made f G) H).Front last ts
  out_of_first last ts (inl x) = inl x
  out_of_first last ts (inr j) = inr (record { value = f j.value; left = j.left; right = j.right; joined = j.joined; whole = (j.value, refl, j.whole); after = j.after })

  pub same_made_first : Same (sequence (made f G) H) (sequence G (λ a. H (f a)))
  same_made_first = record {
    there = record {
      spells = λ c ts j. record { value = j.whole.0; left = j.left; right = j.right; joined = j.joined; whole = j.whole.2; after = subst (λ b. (H b).Spells c j.right) (sym j.whole.1) j.after };
      front = into_first;
    };
    back = record {
      spells = λ c ts j. record { value = f j.value; left = j.left; right = j.right; joined = j.joined; whole = (j.value, refl, j.whole); after = j.after };
      front = out_of_first;
    };
  }

-- ---- what begins with a counted terminal
module _ {T K A : Type 0} (k : K) (look : T → Verdict K A) where
  -- alone
  pub same_one_alone : {B : Type 0} (f : A → B) (n : ℕ) → Same (given f (one_more k look) n) (made (λ a. (f a, n - 1)) (terminal (λ t. limited k (nat_lt 0 n) (look t))))
  same_one_alone f n = same_made_twice (λ p. (f p.0, p.1)) (λ a. (a, n - 1)) (terminal (λ t. limited k (nat_lt 0 n) (look t)))

  -- and with more behind it
  pub same_one_and : {B C : Type 0} (H : Counted ℕ T K B) (f : A × B → C) (n : ℕ) → Same (given f (both (one_more k look) H) n) (begun (λ t. limited k (nat_lt 0 n) (look t)) (λ a. made (λ q. (f (a, q.0), q.1)) (H (n - 1))))
  same_one_and {B = B} {C = C} H f n =
      let F : (A × B) × ℕ → C × ℕ = λ p. (f p.0, p.1) in
      let E : A × ℕ → B × ℕ → (A × B) × ℕ = λ p q. ((p.0, q.0), q.1) in
      let outside : Rule T K (C × ℕ) = given f (both (one_more k look) H) n in
      let inside : Rule T K (C × ℕ) = sequence (one_more k look n) (λ p. made F (made (E p) (H p.1))) in
      let once : Rule T K (C × ℕ) = sequence (one_more k look n) (λ p. made (λ q. F (E p q)) (H p.1)) in
      same_trans outside inside (begun (λ t. limited k (nat_lt 0 n) (look t)) (λ a. made (λ q. (f (a, q.0), q.1)) (H (n - 1))))
      (same_made_second F (one_more k look n) (λ p. made (E p) (H p.1)))
      (same_trans inside once (begun (λ t. limited k (nat_lt 0 n) (look t)) (λ a. made (λ q. (f (a, q.0), q.1)) (H (n - 1))))
      (same-sequence (one_more k look n) (one_more k look n) (λ p. made F (made (E p) (H p.1))) (λ p. made (λ q. F (E p q)) (H p.1)) (same_refl (one_more k look n)) (λ p. same_made_twice F (E p) (H p.1)))
      (same_made_first (λ a. (a, n - 1)) (terminal (λ t. limited k (nat_lt 0 n) (look t))) (λ p. made (λ q. F (E p q)) (H p.1))))

module _ {T K A B : Type 0} (f : A → B) (G H : Rule T K A) where
  made_each : (b : B) (ts : List T) (a : A) → f a ≡ b → (i : Bool) → (one_of_two G H i).Spells a ts → (either (made f G) (made f H)).Spells b ts
  made_each b ts a e true w = (true, (a, e, w))
  made_each b ts a e false w = (false, (a, e, w))

  each_made : (b : B) (ts : List T) (i : Bool) → (one_of_two (made f G) (made f H) i).Spells b ts → (made f (either G H)).Spells b ts
  each_made b ts true w = (w.0, w.1, (true, w.2))
  each_made b ts false w = (w.0, w.1, (false, w.2))

  front_each : (last : Last K) (ts : List T) (i : Bool) → (one_of_two G H i).Front last ts → (either (made f G) (made f H)).Front last ts
  front_each last ts true x = inr (true, x)
  front_each last ts false x = inr (false, x)

  each_front : (last : Last K) (ts : List T) (i : Bool) → (one_of_two (made f G) (made f H) i).Front last ts → (either G H).Front last ts
  each_front last ts true x = inr (true, x)
  each_front last ts false x = inr (false, x)

  fronts_each : (last : Last K) (ts : List T) → (either G H).Front last ts → (either (made f G) (made f H)).Front last ts
  fronts_each last ts (inl e) = inl e
  fronts_each last ts (inr x) = front_each last ts x.0 x.1

  each_fronts : (last : Last K) (ts : List T) → (either (made f G) (made f H)).Front last ts → (either G H).Front last ts
  each_fronts last ts (inl e) = inl e
  each_fronts last ts (inr x) = each_front last ts x.0 x.1

  pub same_made_each : Same (made f (either G H)) (either (made f G) (made f H))
  same_made_each = record {
    there = record { spells = λ b ts w. made_each b ts w.0 w.1 w.2.0 w.2.1; front = fronts_each };
    back = record { spells = λ b ts w. each_made b ts w.0 w.1; front = each_fronts };
  }

-- ---- three in a row
module _ {T K A B C : Type 0} (G : Rule T K A) (H : A → Rule T K B) (J : B → Rule T K C) where
  left_to_right : (c : C) (ts : List T) → (sequence (sequence G H) J).Spells c ts → (sequence G (λ a. sequence (H a) J)).Spells c ts
  left_to_right c ts j = record {
    value = j.whole.value;
    left = j.whole.left;
    right = j.whole.right ++ j.right;
    joined = j.joined ∙ (ap (λ z. z ++ j.right) j.whole.joined ∙ append_assoc j.whole.left j.whole.right j.right);
    whole = j.whole.whole;
    after = record { value = j.value; left = j.whole.right; right = j.right; joined = refl; whole = j.whole.after; after = j.after };
  }

  right_to_left : (c : C) (ts : List T) → (sequence G (λ a. sequence (H a) J)).Spells c ts → (sequence (sequence G H) J).Spells c ts
  right_to_left c ts j = record {
    value = j.after.value;
    left = j.left ++ j.after.left;
    right = j.after.right;
    joined = j.joined ∙ (ap (λ z. j.left ++ z) j.after.joined ∙ sym (append_assoc j.left j.after.left j.after.right));
    whole = record { value = j.value; left = j.left; right = j.after.left; joined = refl; whole = j.whole; after = j.after.whole };
    after = j.after.after;
  }

  fronts_right : (last : Last K) (ts : List T) → (sequence (sequence G H) J).Front last ts → (sequence G (λ a. sequence (H a) J)).Front last ts
  fronts_right last ts (inl (inl f)) = inl f
  fronts_right last ts (inl (inr k)) = inr (record { value = k.value; left = k.left; right = k.right; joined = k.joined; whole = k.whole; after = inl k.after })
  fronts_right last ts (inr j) =
      inr (record {
        value = j.whole.value;
        left = j.whole.left;
        right = j.whole.right ++ j.right;
        joined = j.joined ∙ (ap (λ z. z ++ j.right) j.whole.joined ∙ append_assoc j.whole.left j.whole.right j.right);
        whole = j.whole.whole;
        after = inr (record { value = j.value; left = j.whole.right; right = j.right; joined = refl; whole = j.whole.after; after = j.after });
      })

  front_left : (last : Last K) (ts : List T) (a : A) (left right : List T) → ts ≡ left ++ right → G.Spells a left → (sequence (H a) J).Front last right → (sequence (sequence G H) J).Front last ts
  front_left last ts a left right e w (inl f) = inl (inr (record { value = a; left = left; right = right; joined = e; whole = w; after = f }))
  front_left last ts a left right e w (inr k) =
      inr (record {
        value = k.value;
        left = left ++ k.left;
        right = k.right;
        joined = e ∙ (ap (λ z. left ++ z) k.joined ∙ sym (append_assoc left k.left k.right));
        whole = record { value = a; left = left; right = k.left; joined = refl; whole = w; after = k.whole };
        after = k.after;
      })

  fronts_left : (last : Last K) (ts : List T) → (sequence G (λ a. sequence (H a) J)).Front last ts → (sequence (sequence G H) J).Front last ts
  fronts_left last ts (inl f) = inl (inl f)
  fronts_left last ts (inr j) = front_left last ts j.value j.left j.right j.joined j.whole j.after

  pub same_in_a_row : Same (sequence (sequence G H) J) (sequence G (λ a. sequence (H a) J))
  same_in_a_row = record {
    there = record { spells = left_to_right; front = fronts_right };
    back = record { spells = right_to_left; front = fronts_left };
  }

-- ---- the order of two alternatives
module _ {T K A : Type 0} (G H : Rule T K A) where
  swapped_spells : (a : A) (ts : List T) → (either G H).Spells a ts → (either H G).Spells a ts
  swapped_spells a ts (true, w) = (false, w)
  swapped_spells a ts (false, w) = (true, w)

  swapped_member : (last : Last K) (ts : List T) (b : Bool) → (one_of_two G H b).Front last ts → (either H G).Front last ts
  swapped_member last ts true f = inr (false, f)
  swapped_member last ts false f = inr (true, f)

  swapped_front : (last : Last K) (ts : List T) → (either G H).Front last ts → (either H G).Front last ts
  swapped_front last ts (inl e) = inl e
  swapped_front last ts (inr f) = swapped_member last ts f.0 f.1

  swapped : Within (either G H) (either H G)
  swapped = record { spells = swapped_spells; front = swapped_front }

pub same_swapped : {T K A : Type 0} (G H : Rule T K A) → Same (either G H) (either H G)
same_swapped G H = record { there = swapped G H; back = swapped H G }
