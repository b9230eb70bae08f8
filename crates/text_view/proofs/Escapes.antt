-- Steps over the escapes of JSON strings and of quoted CSV fields.
use Rattle.std.proofs.Common.{◌≡◌, ℕ, zero, suc, ◌+◌, ◌*◌, Bool, true, false, cond, List, [], ◌∷◌, drop, refl, sym, ◌∙◌, ap, subst, arith, nat_lt, ◌==◌, ◌&&◌, slice_index, length}
use Rattle.std.proofs.Common.{◌-◌, ◌≤◌, ◌≢◌, Option, Some, None, Bor, MatchOption}
use Rattle.std.proofs.lemmas.Bool.Decides.{nat_tests}
use Rattle.std.proofs.lemmas.List.{drop-drop}
use Rattle.std.specs.Str.{chars}
use Rattle.std.specs.Char.{digit_value}
use Rattle.text_view.specs.QuotedField.{unquoted, unquoted_after, begins_special}
use Rattle.text_view.specs.JsonString.{has_code, hex_in, hex_value, take_escape, take_code, take_char, Taken, unescaped_after, unescaped_text, solidus_alone}

-- ---- quoted fields

unquoted_past : (q e : ℕ) (cs : List ℕ) → unquoted_after q e 1 cs ≡ unquoted_after q e 0 (drop 1 cs)
unquoted_past q e [] = refl
unquoted_past q e (c ∷ cs) = refl

pub unquoted_nil : (q e : ℕ) → unquoted q e [] ≡ []
unfolding unquoted
unquoted_nil q e = refl

pub unquoted_cons : (q e c : ℕ) (cs : List ℕ) → unquoted q e (c ∷ cs) ≡ cond (c == e && begins_special q e cs) (slice_index cs 0 ∷ unquoted q e (drop 1 cs)) (cond (c == q) cs (c ∷ unquoted q e cs))
unfolding unquoted
unquoted_cons q e c cs = ap (λ t. cond (c == e && begins_special q e cs) (slice_index cs 0 ∷ t) (cond (c == q) cs (c ∷ unquoted_after q e 0 cs))) (unquoted_past q e cs)

pub ruleset quoted_steps = (unquoted_nil, unquoted_cons)

-- ---- JSON strings

unescaped_past : (n : ℕ) (cs : List ℕ) → unescaped_after n cs ≡ unescaped_after 0 (drop n cs)
unescaped_past zero cs = refl
unescaped_past (suc n) [] = refl
unescaped_past (suc n) (c ∷ cs) = unescaped_past n cs

pub unescaped_nil : unescaped_text [] ≡ []
unfolding unescaped_text
unescaped_nil = refl

pub unescaped_cons : (c : ℕ) (cs : List ℕ) → unescaped_text (c ∷ cs) ≡ (take_char c cs).character ∷ unescaped_text (drop (take_char c cs).further cs)
unfolding unescaped_text
unescaped_cons c cs = ap (λ t. (take_char c cs).character ∷ t) (unescaped_past (take_char c cs).further cs)

differs : (c : ℕ) → c ≢ 92 → (c == 92) ≡ false
differs c h = grind (arith, nat_tests)

pub unescaped_by_test : (c : ℕ) (cs : List ℕ) → (c == 92) ≡ false → unescaped_text (c ∷ cs) ≡ c ∷ unescaped_text cs
unescaped_by_test c cs e =
    unescaped_cons c cs ∙ ap (λ b. (cond b (take_escape cs) (record { character = c; further = 0 })).character ∷ unescaped_text (drop (cond b (take_escape cs) (record { character = c; further = 0 })).further cs)) e

pub unescaped_other : (c : ℕ) (cs : List ℕ) → c ≢ 92 → unescaped_text (c ∷ cs) ≡ c ∷ unescaped_text cs
unescaped_other c cs h = unescaped_by_test c cs (differs c h)

pub ruleset json_steps = (unescaped_nil, unescaped_cons, unescaped_other)

-- four digits behind "u"
coded : (cs b0 b1 b2 b3 b4 : List ℕ) (x y z w : ℕ) → cs ≡ 117 ∷ b0 → b0 ≡ x ∷ b1 → b1 ≡ y ∷ b2 → b2 ≡ z ∷ b3 → b3 ≡ w ∷ b4 → cs ≡ 117 ∷ x ∷ y ∷ z ∷ w ∷ b4
coded cs b0 b1 b2 b3 b4 x y z w p q r s t = p ∙ ap (λ l. 117 ∷ l) (q ∙ ap (λ l. x ∷ l) (r ∙ ap (λ l. y ∷ l) (s ∙ ap (λ l. z ∷ l) t)))

pub record ReadsCode (cs behind : List ℕ) (unit : ℕ) : Type 0 where
  pub has : has_code cs ≡ true
  pub value : unit ≡ hex_value (hex_in cs)
  pub rest : behind ≡ drop 5 cs

four : (x y z w : Bool) → x ≡ true → y ≡ true → z ≡ true → w ≡ true → (x && (y && (z && w))) ≡ true
four x y z w p q r s = rw (p, q, r, s)

reads : (x y z w : ℕ) (b4 : List ℕ) → nat_lt (digit_value x) 16 ≡ true → nat_lt (digit_value y) 16 ≡ true → nat_lt (digit_value z) 16 ≡ true → nat_lt (digit_value w) 16 ≡ true → ReadsCode (117 ∷ x ∷ y ∷ z ∷ w ∷ b4) b4 (digit_value x * 4096 + digit_value y * 256 + digit_value z * 16 + digit_value w)
reads x y z w b4 p q r s = record { has = four _ _ _ _ p q r s; value = refl; rest = refl }

pub reads_code : (cs b0 b1 b2 b3 b4 : List ℕ) (f s t u : ℕ)
    → cs ≡ 117 ∷ b0 → b0 ≡ slice_index b0 0 ∷ b1 → b1 ≡ slice_index b1 0 ∷ b2 → b2 ≡ slice_index b2 0 ∷ b3 → b3 ≡ slice_index b3 0 ∷ b4
    → nat_lt (digit_value (slice_index b0 0)) 16 ≡ true → nat_lt (digit_value (slice_index b1 0)) 16 ≡ true → nat_lt (digit_value (slice_index b2 0)) 16 ≡ true → nat_lt (digit_value (slice_index b3 0)) 16 ≡ true
    → f ≡ digit_value (slice_index b0 0) → s ≡ digit_value (slice_index b1 0) → t ≡ digit_value (slice_index b2 0) → u ≡ digit_value (slice_index b3 0)
    → ReadsCode cs b4 (f * 4096 + s * 256 + t * 16 + u)
reads_code cs b0 b1 b2 b3 b4 f s t u e0 e1 e2 e3 e4 d1 d2 d3 d4 v1 v2 v3 v4 =
    let whole = coded cs b0 b1 b2 b3 b4 _ _ _ _ e0 e1 e2 e3 e4 in
    rw (v1, v2, v3, v4) (subst (λ (l : List ℕ). ReadsCode l b4 (digit_value (slice_index b0 0) * 4096 + digit_value (slice_index b1 0) * 256 + digit_value (slice_index b2 0) * 16 + digit_value (slice_index b3 0))) (sym whole) (reads _ _ _ _ b4 d1 d2 d3 d4))

-- the third or the fourth digit is missing
third_false : (a x y z w : Bool) → z ≡ false → (a && (x && (y && (z && w)))) ≡ false
third_false true true true z w e = rw e refl
third_false true true false z w e = refl
third_false true false y z w e = refl
third_false false x y z w e = refl

fourth_false : (a x y z w : Bool) → w ≡ false → (a && (x && (y && (z && w)))) ≡ false
fourth_false true true true true w e = e
fourth_false true true true false w e = refl
fourth_false true true false z w e = refl
fourth_false true false y z w e = refl
fourth_false false x y z w e = refl

pub lacks_third : (cs b0 b1 b2 : List ℕ) (m x y : ℕ) → cs ≡ m ∷ b0 → b0 ≡ x ∷ b1 → b1 ≡ y ∷ b2 → nat_lt (digit_value (slice_index b2 0)) 16 ≡ false → has_code cs ≡ false
lacks_third cs b0 b1 b2 m x y e0 e1 e2 d =
    rw (e0, e1, e2) (third_false (m == 117) (nat_lt (digit_value x) 16) (nat_lt (digit_value y) 16) (nat_lt (digit_value (slice_index b2 0)) 16) (nat_lt (digit_value (slice_index b2 1)) 16) d)

pub lacks_fourth : (cs b0 b1 b2 b3 : List ℕ) (m x y z : ℕ) → cs ≡ m ∷ b0 → b0 ≡ x ∷ b1 → b1 ≡ y ∷ b2 → b2 ≡ z ∷ b3 → nat_lt (digit_value (slice_index b3 0)) 16 ≡ false → has_code cs ≡ false
lacks_fourth cs b0 b1 b2 b3 m x y z e0 e1 e2 e3 d =
    rw (e0, e1, e2, e3) (fourth_false (m == 117) (nat_lt (digit_value x) 16) (nat_lt (digit_value y) 16) (nat_lt (digit_value z) 16) (nat_lt (digit_value (slice_index b3 0)) 16) d)

-- ---- an escape

pub escape_code : (cs : List ℕ) → has_code cs ≡ true → take_escape cs ≡ take_code (hex_value (hex_in cs)) (drop 5 cs)
escape_code cs e = rw e refl

pub ruleset code_steps = (escape_code)

drop_both : (n : ℕ) (cs : List ℕ) → 5 ≤ n → drop (n - 5) (drop 5 cs) ≡ drop n cs
drop_both n cs h = let e : 5 + (n - 5) ≡ n = omega arith in drop-drop (n - 5) 5 cs ∙ ap (λ m. drop m cs) e

-- what stands behind a code is what stands behind the whole escape
pub behind_code : (t : Taken) (cs : List ℕ) (r : Option (ℕ × Bor (List ℕ)))
    → MatchOption r (t ≡ solidus_alone) (λ p. (p.0 ≡ t.character) × (chars p.1.now ≡ drop (t.further - 5) (drop 5 cs)) × (5 ≤ t.further))
    → MatchOption r (t ≡ solidus_alone) (λ p. (p.0 ≡ t.character) × (chars p.1.now ≡ drop t.further cs))
behind_code t cs None h = h
behind_code t cs (Some p) h = (h.0, h.1 ∙ drop_both t.further cs h.2)

-- ---- no spelling is longer than what it stands for

pick : (x y : Bool) (d c : ℕ) (cs l r : List ℕ) → length l ≤ length cs → length r ≤ length cs → length (cond x (d ∷ l) (cond y cs (c ∷ r))) ≤ suc (length cs)
pick true y d c cs l r h k = omega arith
pick false true d c cs l r h k = omega arith
pick false false d c cs l r h k = omega arith

unquoted_short : (q e n : ℕ) (cs : List ℕ) → length (unquoted_after q e n cs) ≤ length cs
unquoted_short q e n [] = omega arith
unquoted_short q e (suc n) (c ∷ cs) = omega (arith, unquoted_short q e n cs)
unquoted_short q e zero (c ∷ cs) = pick (c == e && begins_special q e cs) (c == q) (slice_index cs 0) c cs _ _ (unquoted_short q e 1 cs) (unquoted_short q e 0 cs)

pub length_unquoted : (q e : ℕ) (cs : List ℕ) → length (unquoted q e cs) ≤ length cs
unfolding unquoted
length_unquoted q e cs = unquoted_short q e 0 cs

unescaped_short : (n : ℕ) (cs : List ℕ) → length (unescaped_after n cs) ≤ length cs
unescaped_short n [] = omega arith
unescaped_short (suc n) (c ∷ cs) = omega (arith, unescaped_short n cs)
unescaped_short zero (c ∷ cs) = omega (arith, unescaped_short (take_char c cs).further cs)

pub length_unescaped : (cs : List ℕ) → length (unescaped_text cs) ≤ length cs
unfolding unescaped_text
length_unescaped cs = unescaped_short 0 cs
