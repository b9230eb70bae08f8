-- Two choices that begin with different symbols are one choice.
use Rattle.std.proofs.Common.{◌≡◌, ◌||◌, ◌&&◌, ◌⊎◌, Bool, true, false, List, [], ◌∷◌, ◌++◌, refl, subst, inl, inr}
use Rattle.grammar_rules.specs.Rules.{Rule, Last, fits, faulty, Verdict, takes, faults, refuses, limited, SpelledByOne, FrontOfOne, terminal, made, begun, either, one_of_two, Same}
use Rattle.grammar_rules.specs.Readers.{is_seen}
use Rattle.grammar_rules.specs.Factored.{verdict_made, merged, either_of}
use Rattle.grammar_rules.proofs.Same.{same_refl}

-- ---- a terminal's values

-- terminals that say the same of each symbol
pub same_terminal : {T K A : Type 0} (look other : T → Verdict K A) → ((t : T) → look t ≡ other t) → Same (terminal look) (terminal other)
same_terminal look other e = subst (λ l. Same (terminal look) (terminal l)) (λ i t. e t i) (same_refl (terminal look))

module _ {T K A B : Type 0} (f : A → B) (look : T → Verdict K A) where
  made_takes : (v : Verdict K A) (a : A) (b : B) → v ≡ takes a → f a ≡ b → verdict_made f v ≡ takes b
  made_takes v a b e p = rw (e, p) refl

  took : (v : Verdict K A) (b : B) → verdict_made f v ≡ takes b → (a : A) × (f a ≡ b) × (v ≡ takes a)
  took (takes a) b e = (a, cc, refl)
  took (faults k) b e = cc
  took refuses b e = cc

  made_faults : (v : Verdict K A) (k : K) → v ≡ faults k → verdict_made f v ≡ faults k
  made_faults v k e = rw e refl

  faulted : (v : Verdict K A) (k : K) → verdict_made f v ≡ faults k → v ≡ faults k
  faulted (takes a) k e = cc
  faulted (faults j) k e = cc
  faulted refuses k e = cc

  spelled_there : (b : B) (ts : List T) → (made f (terminal look)).Spells b ts → SpelledByOne (λ t. verdict_made f (look t)) b ts
  spelled_there b [] w = w.2
  spelled_there b (t ∷ []) w = made_takes (look t) w.0 b w.2 w.1
  spelled_there b (t ∷ u ∷ ts) w = w.2

  spelled_back : (b : B) (ts : List T) → SpelledByOne (λ t. verdict_made f (look t)) b ts → (made f (terminal look)).Spells b ts
  spelled_back b [] w = absurd w
  spelled_back b (t ∷ []) w = took (look t) b w
  spelled_back b (t ∷ u ∷ ts) w = absurd w

  front_there : (last : Last K) (ts : List T) → FrontOfOne look last ts → FrontOfOne (λ t. verdict_made f (look t)) last ts
  front_there fits [] x = tt
  front_there fits (t ∷ []) x = (f x.0, made_takes (look t) x.0 (f x.0) x.1 refl)
  front_there fits (t ∷ u ∷ ts) x = x
  front_there (faulty k) [] x = x
  front_there (faulty k) (t ∷ []) x = made_faults (look t) k x
  front_there (faulty k) (t ∷ u ∷ ts) x = x

  front_back : (last : Last K) (ts : List T) → FrontOfOne (λ t. verdict_made f (look t)) last ts → FrontOfOne look last ts
  front_back fits [] x = tt
  front_back fits (t ∷ []) x = let w = took (look t) x.0 x.1 in (w.0, w.2)
  front_back fits (t ∷ u ∷ ts) x = x
  front_back (faulty k) [] x = x
  front_back (faulty k) (t ∷ []) x = faulted (look t) k x
  front_back (faulty k) (t ∷ u ∷ ts) x = x

  -- a value that is made of a terminal's is a terminal's
  pub same_made_terminal : Same (made f (terminal look)) (terminal (λ t. verdict_made f (look t)))
  same_made_terminal = record {
    there = record { spells = spelled_there; front = front_there };
    back = record { spells = spelled_back; front = front_back };
  }

-- ---- two choices

module _ {K A B : Type 0} where
  -- a symbol is seen by one of the two
  pub seen_merged : (v : Verdict K A) (w : Verdict K B) → is_seen (merged v w) ≡ (is_seen v || is_seen w)
  seen_merged (takes a) w = refl
  seen_merged (faults k) w = refl
  seen_merged refuses (takes b) = refl
  seen_merged refuses (faults k) = refl
  seen_merged refuses refuses = refl

  -- a limit on both is one on each
  pub merged_limited : (k : K) (room : Bool) (v : Verdict K A) (w : Verdict K B) → merged (limited k room v) (limited k room w) ≡ limited k room (merged v w)
  merged_limited k true v w = refl
  merged_limited k false (takes a) w = refl
  merged_limited k false (faults j) w = refl
  merged_limited k false refuses (takes b) = refl
  merged_limited k false refuses (faults j) = refl
  merged_limited k false refuses refuses = refl

  merged_left : (v : Verdict K A) (w : Verdict K B) (a : A) → v ≡ takes a → merged v w ≡ takes (inl a)
  merged_left v w a e = rw e refl

  merged_right : (v : Verdict K A) (w : Verdict K B) (b : B) → (is_seen v && is_seen w) ≡ false → w ≡ takes b → merged v w ≡ takes (inr b)
  merged_right (takes a) w b off e = let P : true ≡ false = rw e at off in cc
  merged_right (faults k) w b off e = let P : true ≡ false = rw e at off in cc
  merged_right refuses w b off e = rw e refl

  fault_left : (v : Verdict K A) (w : Verdict K B) (k : K) → v ≡ faults k → merged v w ≡ faults k
  fault_left v w k e = rw e refl

  fault_right : (v : Verdict K A) (w : Verdict K B) (k : K) → (is_seen v && is_seen w) ≡ false → w ≡ faults k → merged v w ≡ faults k
  fault_right (takes a) w k off e = let P : true ≡ false = rw e at off in cc
  fault_right (faults j) w k off e = let P : true ≡ false = rw e at off in cc
  fault_right refuses w k off e = rw e refl

  from_left : (v : Verdict K A) (w : Verdict K B) (a : A) → merged v w ≡ takes (inl a) → v ≡ takes a
  from_left (takes c) w a e = cc
  from_left (faults k) w a e = cc
  from_left refuses (takes b) a e = cc
  from_left refuses (faults k) a e = cc
  from_left refuses refuses a e = cc

  from_right : (v : Verdict K A) (w : Verdict K B) (b : B) → merged v w ≡ takes (inr b) → w ≡ takes b
  from_right (takes c) w b e = cc
  from_right (faults k) w b e = cc
  from_right refuses (takes c) b e = cc
  from_right refuses (faults k) b e = cc
  from_right refuses refuses b e = cc

  fault_from : (v : Verdict K A) (w : Verdict K B) (k : K) → merged v w ≡ faults k → (v ≡ faults k) ⊎ (w ≡ faults k)
  fault_from (takes c) w k e = cc
  fault_from (faults j) w k e = inl cc
  fault_from refuses (takes c) k e = cc
  fault_from refuses (faults j) k e = inr cc
  fault_from refuses refuses k e = cc

module _ {T K A B C : Type 0} (look : T → Verdict K A) (other : T → Verdict K B) (H : A → Rule T K C) (J : B → Rule T K C) (off : (t : T) → (is_seen (look t) && is_seen (other t)) ≡ false) where
  abbrev both_looks : T → Verdict K (A ⊎ B)
  both_looks t = merged (look t) (other t)

  left_text : (a : A) (ts : List T) → SpelledByOne look a ts → SpelledByOne both_looks (inl a) ts
  left_text a [] w = w
  left_text a (t ∷ []) w = merged_left (look t) (other t) a w
  left_text a (t ∷ u ∷ ts) w = w

  right_text : (b : B) (ts : List T) → SpelledByOne other b ts → SpelledByOne both_looks (inr b) ts
  right_text b [] w = w
  right_text b (t ∷ []) w = merged_right (look t) (other t) b (off t) w
  right_text b (t ∷ u ∷ ts) w = w

  text_left : (a : A) (ts : List T) → SpelledByOne both_looks (inl a) ts → SpelledByOne look a ts
  text_left a [] w = w
  text_left a (t ∷ []) w = from_left (look t) (other t) a w
  text_left a (t ∷ u ∷ ts) w = w

  text_right : (b : B) (ts : List T) → SpelledByOne both_looks (inr b) ts → SpelledByOne other b ts
  text_right b [] w = w
  text_right b (t ∷ []) w = from_right (look t) (other t) b w
  text_right b (t ∷ u ∷ ts) w = w

  left_front : (last : Last K) (ts : List T) → FrontOfOne look last ts → FrontOfOne both_looks last ts
  left_front fits [] x = tt
  left_front fits (t ∷ []) x = (inl x.0, merged_left (look t) (other t) x.0 x.1)
  left_front fits (t ∷ u ∷ ts) x = x
  left_front (faulty k) [] x = x
  left_front (faulty k) (t ∷ []) x = fault_left (look t) (other t) k x
  left_front (faulty k) (t ∷ u ∷ ts) x = x

  right_front : (last : Last K) (ts : List T) → FrontOfOne other last ts → FrontOfOne both_looks last ts
  right_front fits [] x = tt
  right_front fits (t ∷ []) x = (inr x.0, merged_right (look t) (other t) x.0 (off t) x.1)
  right_front fits (t ∷ u ∷ ts) x = x
  right_front (faulty k) [] x = x
  right_front (faulty k) (t ∷ []) x = fault_right (look t) (other t) k (off t) x
  right_front (faulty k) (t ∷ u ∷ ts) x = x

  one_from : (t : T) (c : A ⊎ B) → both_looks t ≡ takes c → FrontOfOne look fits (t ∷ []) ⊎ FrontOfOne other fits (t ∷ [])
  one_from t (inl a) e = inl (a, from_left (look t) (other t) a e)
  one_from t (inr b) e = inr (b, from_right (look t) (other t) b e)

  front_from : (last : Last K) (ts : List T) → FrontOfOne both_looks last ts → FrontOfOne look last ts ⊎ FrontOfOne other last ts
  front_from fits [] x = inl tt
  front_from fits (t ∷ []) x = one_from t x.0 x.1
  front_from fits (t ∷ u ∷ ts) x = absurd x
  front_from (faulty k) [] x = absurd x
  front_from (faulty k) (t ∷ []) x = fault_from (look t) (other t) k x
  front_from (faulty k) (t ∷ u ∷ ts) x = absurd x

  abbrev one_choice : Rule T K C
  one_choice = begun both_looks (either_of H J)

  abbrev two_choices : Rule T K C
  two_choices = either (begun look H) (begun other J)

  one_spells : (c : C) (ts : List T) (i : Bool) → (one_of_two (begun look H) (begun other J) i).Spells c ts → one_choice.Spells c ts
  one_spells c ts true j = record { value = inl j.value; left = j.left; right = j.right; joined = j.joined; whole = left_text j.value j.left j.whole; after = j.after }
  one_spells c ts false j = record { value = inr j.value; left = j.left; right = j.right; joined = j.joined; whole = right_text j.value j.left j.whole; after = j.after }

  two_spells : (c : C) (ts : List T) (v : A ⊎ B) (left right : List T) → ts ≡ left ++ right → SpelledByOne both_looks v left → (either_of H J v).Spells c right → two_choices.Spells c ts
  two_spells c ts (inl a) left right e w x = (true, record { value = a; left = left; right = right; joined = e; whole = text_left a left w; after = x })
  two_spells c ts (inr b) left right e w x = (false, record { value = b; left = left; right = right; joined = e; whole = text_right b left w; after = x })

  one_member : (last : Last K) (ts : List T) (i : Bool) → (one_of_two (begun look H) (begun other J) i).Front last ts → one_choice.Front last ts
  one_member last ts true (inl x) = inl (left_front last ts x)
  one_member last ts true (inr j) = inr (record { value = inl j.value; left = j.left; right = j.right; joined = j.joined; whole = left_text j.value j.left j.whole; after = j.after })
  one_member last ts false (inl x) = inl (right_front last ts x)
  one_member last ts false (inr j) = inr (record { value = inr j.value; left = j.left; right = j.right; joined = j.joined; whole = right_text j.value j.left j.whole; after = j.after })

  one_front : (last : Last K) (ts : List T) → two_choices.Front last ts → one_choice.Front last ts
  one_front last ts (inl e) = inl (rw (e.0, e.1) tt)
  one_front last ts (inr x) = one_member last ts x.0 x.1

  two_begun : (last : Last K) (ts : List T) → FrontOfOne look last ts ⊎ FrontOfOne other last ts → two_choices.Front last ts
  two_begun last ts (inl x) = inr (true, inl x)
  two_begun last ts (inr x) = inr (false, inl x)

  two_after : (last : Last K) (ts : List T) (v : A ⊎ B) (left right : List T) → ts ≡ left ++ right → SpelledByOne both_looks v left → (either_of H J v).Front last right → two_choices.Front last ts
  two_after last ts (inl a) left right e w x = inr (true, inr (record { value = a; left = left; right = right; joined = e; whole = text_left a left w; after = x }))
  two_after last ts (inr b) left right e w x = inr (false, inr (record { value = b; left = left; right = right; joined = e; whole = text_right b left w; after = x }))

  two_front : (last : Last K) (ts : List T) → one_choice.Front last ts → two_choices.Front last ts
  two_front last ts (inl x) = two_begun last ts (front_from last ts x)
  two_front last ts (inr j) = two_after last ts j.value j.left j.right j.joined j.whole j.after

  -- an alternative of two choices, no symbol of which begins both
  pub same_merged : Same (either (begun look H) (begun other J)) (begun (λ t. merged (look t) (other t)) (either_of H J))
  same_merged = record {
    there = record { spells = λ c ts w. one_spells c ts w.0 w.1; front = one_front };
    back = record { spells = λ c ts j. two_spells c ts j.value j.left j.right j.joined j.whole j.after; front = two_front };
  }
