-- More forms of rules that say the same.
use Rattle.std.proofs.Common.{◌≡◌, Bool, true, false, List, ◌++◌, inl, inr}
use Rattle.grammar_rules.specs.Rules.{Rule, Last, sequence, either, one_of_two, Same, Within}

-- ---- alternatives in another order

module _ {T K A : Type 0} (G H J L : Rule T K A) where
  crossed_spells : (a : A) (ts : List T) (i j : Bool) → (one_of_two (one_of_two G H j) (one_of_two J L j) i).Spells a ts → (either (either G J) (either H L)).Spells a ts
  crossed_spells a ts true true w = (true, (true, w))
  crossed_spells a ts true false w = (false, (true, w))
  crossed_spells a ts false true w = (true, (false, w))
  crossed_spells a ts false false w = (false, (false, w))

  crossed_text : (a : A) (ts : List T) (i : Bool) → (one_of_two (either G H) (either J L) i).Spells a ts → (either (either G J) (either H L)).Spells a ts
  crossed_text a ts true w = crossed_spells a ts true w.0 w.1
  crossed_text a ts false w = crossed_spells a ts false w.0 w.1

  crossed_front : (last : Last K) (ts : List T) (i j : Bool) → (one_of_two (one_of_two G H j) (one_of_two J L j) i).Front last ts → (either (either G J) (either H L)).Front last ts
  crossed_front last ts true true f = inr (true, inr (true, f))
  crossed_front last ts true false f = inr (false, inr (true, f))
  crossed_front last ts false true f = inr (true, inr (false, f))
  crossed_front last ts false false f = inr (false, inr (false, f))

  crossed_half : (last : Last K) (ts : List T) (i : Bool) → (one_of_two (either G H) (either J L) i).Front last ts → (either (either G J) (either H L)).Front last ts
  crossed_half last ts true (inl e) = inl e
  crossed_half last ts true (inr f) = crossed_front last ts true f.0 f.1
  crossed_half last ts false (inl e) = inl e
  crossed_half last ts false (inr f) = crossed_front last ts false f.0 f.1

  crossed_fronts : (last : Last K) (ts : List T) → (either (either G H) (either J L)).Front last ts → (either (either G J) (either H L)).Front last ts
  crossed_fronts last ts (inl e) = inl e
  crossed_fronts last ts (inr f) = crossed_half last ts f.0 f.1

  pub within_crossed : Within (either (either G H) (either J L)) (either (either G J) (either H L))
  within_crossed = record { spells = λ a ts w. crossed_text a ts w.0 w.1; front = crossed_fronts }

-- (G | H) | (J | L) is (G | J) | (H | L)
pub same_crossed : {T K A : Type 0} (G H J L : Rule T K A) → Same (either (either G H) (either J L)) (either (either G J) (either H L))
same_crossed G H J L = record { there = within_crossed G H J L; back = within_crossed G J H L }

module _ {T K A : Type 0} (G H J : Rule T K A) where
  left_text : (a : A) (ts : List T) (i : Bool) → (one_of_two (either G H) J i).Spells a ts → (either G (either H J)).Spells a ts
  left_text a ts true (true, w) = (true, w)
  left_text a ts true (false, w) = (false, (true, w))
  left_text a ts false w = (false, (false, w))

  right_text : (a : A) (ts : List T) (i : Bool) → (one_of_two G (either H J) i).Spells a ts → (either (either G H) J).Spells a ts
  right_text a ts true w = (true, (true, w))
  right_text a ts false (true, w) = (true, (false, w))
  right_text a ts false (false, w) = (false, w)

  left_front : (last : Last K) (ts : List T) (i : Bool) → (one_of_two (either G H) J i).Front last ts → (either G (either H J)).Front last ts
  left_front last ts true (inl e) = inl e
  left_front last ts true (inr (true, f)) = inr (true, f)
  left_front last ts true (inr (false, f)) = inr (false, inr (true, f))
  left_front last ts false f = inr (false, inr (false, f))

  right_front : (last : Last K) (ts : List T) (i : Bool) → (one_of_two G (either H J) i).Front last ts → (either (either G H) J).Front last ts
  right_front last ts true f = inr (true, inr (true, f))
  right_front last ts false (inl e) = inl e
  right_front last ts false (inr (true, f)) = inr (true, inr (false, f))
  right_front last ts false (inr (false, f)) = inr (false, f)

  left_fronts : (last : Last K) (ts : List T) → (either (either G H) J).Front last ts → (either G (either H J)).Front last ts
  left_fronts last ts (inl e) = inl e
  left_fronts last ts (inr f) = left_front last ts f.0 f.1

  right_fronts : (last : Last K) (ts : List T) → (either G (either H J)).Front last ts → (either (either G H) J).Front last ts
  right_fronts last ts (inl e) = inl e
  right_fronts last ts (inr f) = right_front last ts f.0 f.1

  -- (G | H) | J is G | (H | J)
  pub same_grouped : Same (either (either G H) J) (either G (either H J))
  same_grouped = record {
    there = record { spells = λ a ts w. left_text a ts w.0 w.1; front = left_fronts };
    back = record { spells = λ a ts w. right_text a ts w.0 w.1; front = right_fronts };
  }

-- ---- (G then J) | (H then J) is (G | H) then J
module _ {T K A B : Type 0} (G H : Rule T K A) (J : A → Rule T K B) where
  shared_text : (b : B) (ts : List T) (i : Bool) → (one_of_two (sequence G J) (sequence H J) i).Spells b ts → (sequence (either G H) J).Spells b ts
  shared_text b ts true j = record { value = j.value; left = j.left; right = j.right; joined = j.joined; whole = (true, j.whole); after = j.after }
  shared_text b ts false j = record { value = j.value; left = j.left; right = j.right; joined = j.joined; whole = (false, j.whole); after = j.after }

  parted_text : (b : B) (ts : List T) (a : A) (left right : List T) → ts ≡ left ++ right → (i : Bool) → (one_of_two G H i).Spells a left → (J a).Spells b right → (either (sequence G J) (sequence H J)).Spells b ts
  parted_text b ts a left right e true w v = (true, record { value = a; left = left; right = right; joined = e; whole = w; after = v })
  parted_text b ts a left right e false w v = (false, record { value = a; left = left; right = right; joined = e; whole = w; after = v })

  shared_front : (last : Last K) (ts : List T) (i : Bool) → (one_of_two (sequence G J) (sequence H J) i).Front last ts → (sequence (either G H) J).Front last ts
  shared_front last ts true (inl f) = inl (inr (true, f))
  shared_front last ts true (inr j) = inr (record { value = j.value; left = j.left; right = j.right; joined = j.joined; whole = (true, j.whole); after = j.after })
  shared_front last ts false (inl f) = inl (inr (false, f))
  shared_front last ts false (inr j) = inr (record { value = j.value; left = j.left; right = j.right; joined = j.joined; whole = (false, j.whole); after = j.after })

  shared_fronts : (last : Last K) (ts : List T) → (either (sequence G J) (sequence H J)).Front last ts → (sequence (either G H) J).Front last ts
  shared_fronts last ts (inl e) = inl (inl e)
  shared_fronts last ts (inr f) = shared_front last ts f.0 f.1

  parted_first : (last : Last K) (ts : List T) (i : Bool) → (one_of_two G H i).Front last ts → (either (sequence G J) (sequence H J)).Front last ts
  parted_first last ts true f = inr (true, inl f)
  parted_first last ts false f = inr (false, inl f)

  parted_after : (last : Last K) (ts : List T) (a : A) (left right : List T) → ts ≡ left ++ right → (i : Bool) → (one_of_two G H i).Spells a left → (J a).Front last right → (either (sequence G J) (sequence H J)).Front last ts
  parted_after last ts a left right e true w f = inr (true, inr (record { value = a; left = left; right = right; joined = e; whole = w; after = f }))
  parted_after last ts a left right e false w f = inr (false, inr (record { value = a; left = left; right = right; joined = e; whole = w; after = f }))

  parted_fronts : (last : Last K) (ts : List T) → (sequence (either G H) J).Front last ts → (either (sequence G J) (sequence H J)).Front last ts
  parted_fronts last ts (inl (inl e)) = inl e
  parted_fronts last ts (inl (inr f)) = parted_first last ts f.0 f.1
  parted_fronts last ts (inr j) = parted_after last ts j.value j.left j.right j.joined j.whole.0 j.whole.1 j.after

  pub same_shared : Same (either (sequence G J) (sequence H J)) (sequence (either G H) J)
  same_shared = record {
    there = record { spells = λ b ts w. shared_text b ts w.0 w.1; front = shared_fronts };
    back = record { spells = λ b ts j. parted_text b ts j.value j.left j.right j.joined j.whole.0 j.whole.1 j.after; front = parted_fronts };
  }
