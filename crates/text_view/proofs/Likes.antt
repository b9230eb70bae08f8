-- LIKE as a test says whether a text splits, and a search from the left that goes back to the last "%"
-- alone decides it.
use Rattle.std.proofs.Common.{◌≡◌, ℕ, zero, suc, Bool, true, false, cond, ◌&&◌, ◌||◌, ◌==◌, List, [], ◌∷◌, ◌++◌, drop, length, refl, sym, ◌∙◌, ap, subst, arith, ◌⊎◌, inl, inr}
use Rattle.std.proofs.Common.{add-one, Some, take}
use Rattle.std.proofs.lemmas.Bool.Decides.{nat_tests}
use Rattle.std.proofs.lemmas.List.{drop-drop, take-append-drop}
use Rattle.std.proofs.lemmas.Str.{chars-append, IsUtf8-take}
use Rattle.std.specs.Str.{chars, IsUtf8, NonePass}
use Rattle.std.specs.List.{slice_get}
use Rattle.memchr.specs.Find.{is_byte}
use Rattle.text_view.specs.Writing.{StandsForItself}
use Rattle.text_view.specs.declared.like.Part.{Part}
use Rattle.text_view.specs.declared.like.Part.TheVariants.{Char, One, Any}
use Rattle.text_view.specs.LikePattern.{Matches, FitParts, joined}
use Rattle.text_view.specs.Finding.{some_end, fits_one, part_then, like, like_end, Found, nothing, end, any, find_parts}

-- ---- ends of a text

or_true_left : (x y : Bool) → x ≡ true → (x || y) ≡ true
or_true_left true y e = refl
or_true_left false y e = absurd (cc)

or_true_right : (x y : Bool) → y ≡ true → (x || y) ≡ true
or_true_right true y e = refl
or_true_right false y e = e

or_cases : (x y : Bool) → (x || y) ≡ true → (x ≡ true) ⊎ (y ≡ true)
or_cases true y e = inl refl
or_cases false y e = inr e

pub and_left : (x y : Bool) → (x && y) ≡ true → x ≡ true
and_left true y e = refl
and_left false y e = absurd (cc)

pub and_right : (x y : Bool) → (x && y) ≡ true → y ≡ true
and_right true y e = e
and_right false y e = absurd (cc)

pub same_bool : (x y : Bool) → (x ≡ true → y ≡ true) → (y ≡ true → x ≡ true) → x ≡ y
same_bool true true f g = refl
same_bool true false f g = sym (f refl)
same_bool false true f g = g refl
same_bool false false f g = refl

-- the whole text is an end of it
pub some_end_whole : (f : List ℕ → Bool) (cs : List ℕ) → f cs ≡ true → some_end f cs ≡ true
some_end_whole f [] e = e
some_end_whole f (c ∷ cs) e = or_true_left (f (c ∷ cs)) (some_end f cs) e

-- an end of an end is an end
some_end_drop : (f : List ℕ → Bool) (k : ℕ) (cs : List ℕ) → some_end f (drop k cs) ≡ true → some_end f cs ≡ true
some_end_drop f zero cs e = e
some_end_drop f (suc k) [] e = e
some_end_drop f (suc k) (c ∷ cs) e = or_true_right (f (c ∷ cs)) (some_end f cs) (some_end_drop f k cs e)

pub some_end_append : (f : List ℕ → Bool) (xs cs : List ℕ) → some_end f cs ≡ true → some_end f (xs ++ cs) ≡ true
some_end_append f [] cs e = e
some_end_append f (x ∷ xs) cs e = or_true_right (f (x ∷ xs ++ cs)) (some_end f (xs ++ cs)) (some_end_append f xs cs e)

-- the end that passes
pub record EndAt (f : List ℕ → Bool) (cs : List ℕ) : Type 0 where
  pub front : List ℕ
  pub back : List ℕ
  pub whole : front ++ back ≡ cs
  pub place : ℕ
  pub there : back ≡ drop place cs
  pub passes : f back ≡ true

pub end_at : (f : List ℕ → Bool) (cs : List ℕ) → some_end f cs ≡ true → EndAt f cs
end_at f [] e = record { front = []; back = []; whole = refl; place = 0; there = refl; passes = e }
end_at f (c ∷ cs) e = elim (or_cases (f (c ∷ cs)) (some_end f cs) e) [
  | inl h ↦ record { front = []; back = c ∷ cs; whole = refl; place = 0; there = refl; passes = h }
  | inr h ↦ later c (end_at f cs h)
]
  where
    later : (c : ℕ) → EndAt f cs → EndAt f (c ∷ cs)
    later c r = record { front = c ∷ r.front; back = r.back; whole = ap (λ l. c ∷ l) r.whole; place = suc r.place; there = r.there; passes = r.passes }

-- ---- the test and the splits

pub test_same : (w c : ℕ) → (c == w) ≡ true → w ≡ c
test_same w c e = grind (arith, nat_tests)

pub test_self : (w : ℕ) → (w == w) ≡ true
test_self w = grind (arith, nat_tests)

split_any : (parts : List Part) (cs : List ℕ) (r : EndAt (like parts) cs) → Matches parts r.back → Matches (Any ∷ parts) cs
split_any parts cs r m = record {
  pieces = r.front ∷ m.pieces;
  fit = (tt, m.fit);
  whole = ap (λ l. r.front ++ l) m.whole ∙ r.whole;
}

split_of : (parts : List Part) (cs : List ℕ) → like parts cs ≡ true → Matches parts cs
unfolding like
split_of [] [] e = record { pieces = []; fit = tt; whole = refl }
split_of [] (c ∷ cs) e = absurd (cc)
split_of (Any ∷ parts) cs e =
    let r : EndAt (like parts) cs = end_at (like parts) cs e in
    split_any parts cs r (split_of parts r.back r.passes)
split_of (Char w ∷ parts) [] e = absurd (cc)
split_of (Char w ∷ parts) (c ∷ cs) e =
    let m : Matches parts cs = split_of parts cs (and_right (c == w) (like parts cs) e) in record {
      pieces = (c ∷ []) ∷ m.pieces;
      fit = (ap (λ x. x ∷ []) (sym (test_same w c (and_left (c == w) (like parts cs) e))), m.fit);
      whole = ap (λ l. c ∷ l) m.whole;
    }
split_of (One ∷ parts) [] e = absurd (cc)
split_of (One ∷ parts) (c ∷ cs) e =
    let m : Matches parts cs = split_of parts cs e in record {
      pieces = (c ∷ []) ∷ m.pieces;
      fit = (omega arith, m.fit);
      whole = ap (λ l. c ∷ l) m.whole;
    }

one_piece : (f : List ℕ → Bool) (x cs : List ℕ) → length x ≡ 1 → f cs ≡ true → part_then One f (x ++ cs) ≡ true
one_piece f [] cs e h = absurd (omega arith)
one_piece f (c ∷ []) cs e h = h
one_piece f (c ∷ d ∷ x) cs e h = absurd (omega arith)

char_piece : (w : ℕ) (f : List ℕ → Bool) (x cs : List ℕ) → x ≡ w ∷ [] → f cs ≡ true → part_then (Char w) f (x ++ cs) ≡ true
char_piece w f x cs e h = rw (e, test_self w) h

matched : (parts : List Part) (pieces : List (List ℕ)) → FitParts parts pieces → like parts (joined pieces) ≡ true
unfolding like
matched [] [] f = refl
matched [] (x ∷ xs) f = absurd f
matched (part ∷ parts) [] f = absurd f
matched (Any ∷ parts) (x ∷ xs) f =
    some_end_append (like parts) x (joined xs) (some_end_whole (like parts) (joined xs) (matched parts xs f.1))
matched (Char w ∷ parts) (x ∷ xs) f = char_piece w (like parts) x (joined xs) f.0 (matched parts xs f.1)
matched (One ∷ parts) (x ∷ xs) f = one_piece (like parts) x (joined xs) f.0 (matched parts xs f.1)

pub like_decides : (parts : List Part) (cs : List ℕ) (b : Bool) → b ≡ like parts cs → (b ≡ true → Matches parts cs) × (Matches parts cs → b ≡ true)
like_decides parts cs b e =
    (λ t. split_of parts cs (sym e ∙ t), λ m. e ∙ (let P : List ℕ → Type 0 = λ l. like parts l ≡ true in subst P m.whole (matched parts m.pieces m.fit)))

-- ---- a search from the left

found_nothing : (b l : Bool) (f : Found) → cond b f nothing ≡ nothing → (f ≡ nothing → l ≡ false) → (b && l) ≡ false
found_nothing true l f e h = h e
found_nothing false l f e h = refl

found_end : (b l : Bool) (f : Found) → cond b f nothing ≡ end → (f ≡ end → l ≡ true) → (b && l) ≡ true
found_end true l f e h = h e
found_end false l f e h = absurd (cc)

found_any : (b l m : Bool) (f : Found) (qs : List Part) (us : List ℕ) → cond b f nothing ≡ any qs us → (f ≡ any qs us → l ≡ m) → (b && l) ≡ m
found_any true l m f qs us e h = h e
found_any false l m f qs us e h = absurd (cc)

found_later : (b : Bool) (f : Found) (qs : List Part) (us : List ℕ) → cond b f nothing ≡ any qs us → f ≡ any qs us
found_later true f qs us e = e
found_later false f qs us e = absurd (cc)

pub find_nothing : (parts : List Part) (cs : List ℕ) → find_parts parts cs ≡ nothing → like parts cs ≡ false
unfolding like find_parts
find_nothing [] [] e = absurd (cc)
find_nothing [] (c ∷ cs) e = refl
find_nothing (Any ∷ parts) cs e = absurd (cc)
find_nothing (Char w ∷ parts) [] e = refl
find_nothing (Char w ∷ parts) (c ∷ cs) e = found_nothing (c == w) (like parts cs) (find_parts parts cs) e (λ h. find_nothing parts cs h)
find_nothing (One ∷ parts) [] e = refl
find_nothing (One ∷ parts) (c ∷ cs) e = find_nothing parts cs e

pub find_end : (parts : List Part) (cs : List ℕ) → find_parts parts cs ≡ end → like parts cs ≡ true
unfolding like find_parts
find_end [] [] e = refl
find_end [] (c ∷ cs) e = absurd (cc)
find_end (Any ∷ parts) cs e = absurd (cc)
find_end (Char w ∷ parts) [] e = absurd (cc)
find_end (Char w ∷ parts) (c ∷ cs) e = found_end (c == w) (like parts cs) (find_parts parts cs) e (λ h. find_end parts cs h)
find_end (One ∷ parts) [] e = absurd (cc)
find_end (One ∷ parts) (c ∷ cs) e = find_end parts cs e

pub find_any : (parts : List Part) (cs : List ℕ) (qs : List Part) (us : List ℕ) → find_parts parts cs ≡ any qs us → like parts cs ≡ like_end qs us
unfolding like like_end find_parts
find_any [] [] qs us e = absurd (cc)
find_any [] (c ∷ cs) qs us e = absurd (cc)
find_any (Any ∷ parts) cs qs us e =
    let p : parts ≡ qs = cc in let q : cs ≡ us = cc in rw (p, q) refl
find_any (Char w ∷ parts) [] qs us e = absurd (cc)
find_any (Char w ∷ parts) (c ∷ cs) qs us e =
    found_any (c == w) (like parts cs) (some_end (like qs) us) (find_parts parts cs) qs us e (λ h. find_any parts cs qs us h)
find_any (One ∷ parts) [] qs us e = absurd (cc)
find_any (One ∷ parts) (c ∷ cs) qs us e = find_any parts cs qs us e

-- ---- a later start leaves less text to the "%" behind, so the first start is enough

tail_drop : (k c : ℕ) (cs : List ℕ) → drop 1 (drop k (c ∷ cs)) ≡ drop k cs
tail_drop k c cs = drop-drop 1 k (c ∷ cs) ∙ rw (add-one k) refl

char_tail : (w : ℕ) (f : List ℕ → Bool) (s : List ℕ) → part_then (Char w) f s ≡ true → f (drop 1 s) ≡ true
char_tail w f [] h = absurd (cc)
char_tail w f (c ∷ s) h = and_right (c == w) (f s) h

one_tail : (f : List ℕ → Bool) (s : List ℕ) → part_then One f s ≡ true → f (drop 1 s) ≡ true
one_tail f [] h = absurd (cc)
one_tail f (c ∷ s) h = h

at_drop : (f : List ℕ → Bool) (k c : ℕ) (cs : List ℕ) → f (drop 1 (drop k (c ∷ cs))) ≡ true → f (drop k cs) ≡ true
at_drop f k c cs h = let P : List ℕ → Type 0 = λ l. f l ≡ true in subst P (tail_drop k c cs) h

find_later : (parts : List Part) (cs : List ℕ) (qs : List Part) (us : List ℕ) → find_parts parts cs ≡ any qs us → (k : ℕ) → like parts (drop k cs) ≡ true → like_end qs us ≡ true
unfolding like like_end find_parts
find_later [] [] qs us e k h = absurd (cc)
find_later [] (c ∷ cs) qs us e k h = absurd (cc)
find_later (Any ∷ parts) cs qs us e k h =
    let p : parts ≡ qs = cc in let q : cs ≡ us = cc in rw (← p, ← q) (some_end_drop (like parts) k cs h)
find_later (Char w ∷ parts) [] qs us e k h = absurd (cc)
find_later (Char w ∷ parts) (c ∷ cs) qs us e k h =
    find_later parts cs qs us (found_later (c == w) (find_parts parts cs) qs us e) k
    (at_drop (like parts) k c cs (char_tail w (like parts) (drop k (c ∷ cs)) h))
find_later (One ∷ parts) [] qs us e k h = absurd (cc)
find_later (One ∷ parts) (c ∷ cs) qs us e k h =
    find_later parts cs qs us e k (at_drop (like parts) k c cs (one_tail (like parts) (drop k (c ∷ cs)) h))

pub find_any_end : (parts : List Part) (cs : List ℕ) (qs : List Part) (us : List ℕ) → find_parts parts cs ≡ any qs us → like_end parts cs ≡ like_end qs us
unfolding like_end
find_any_end parts cs qs us e = same_bool (like_end parts cs) (like_end qs us)
    (λ h. let r : EndAt (like parts) cs = end_at (like parts) cs h in find_later parts cs qs us e r.place (ap (like parts) (sym r.there) ∙ r.passes))
    (λ h. some_end_whole (like parts) cs (find_any parts cs qs us e ∙ h))

-- ---- places where the parts can't begin

pub like_end_none : (cs : List ℕ) → like_end [] cs ≡ true
unfolding like like_end
like_end_none [] = refl
like_end_none (c ∷ cs) = like_end_none cs

pub like_end_nil : (parts : List Part) → like_end parts [] ≡ like parts []
unfolding like_end
like_end_nil parts = refl

pub like_end_cons : (parts : List Part) (c : ℕ) (cs : List ℕ) → like parts (c ∷ cs) ≡ false → like_end parts (c ∷ cs) ≡ like_end parts cs
unfolding like_end
like_end_cons parts c cs e = ap (λ b. b || some_end (like parts) cs) e

pub like_end_past : (w : ℕ) (parts : List Part) (xs cs : List ℕ) → NonePass (λ c. c == w) xs → like_end (Char w ∷ parts) (xs ++ cs) ≡ like_end (Char w ∷ parts) cs
unfolding like like_end
like_end_past w parts [] cs h = refl
like_end_past w parts (x ∷ xs) cs h =
    ap (λ b. (b && like parts (xs ++ cs)) || some_end (part_then (Char w) (like parts)) (xs ++ cs)) h.0 ∙ like_end_past w parts xs cs h.1

-- ---- one step of the search

pub find_here : (parts : List Part) (cs : List ℕ) → find_parts (Any ∷ parts) cs ≡ any parts cs
unfolding find_parts
find_here parts cs = refl

pub find_cons : (part : Part) (parts : List Part) (c : ℕ) (cs : List ℕ) → (part ≡ Any → ⊥) → find_parts (part ∷ parts) (c ∷ cs) ≡ cond (fits_one part c) (find_parts parts cs) nothing
unfolding find_parts
find_cons Any parts c cs h = absurd (h refl)
find_cons (Char w) parts c cs h = refl
find_cons One parts c cs h = refl

pub find_short : (part : Part) (parts : List Part) → (part ≡ Any → ⊥) → find_parts (part ∷ parts) [] ≡ nothing
unfolding find_parts
find_short Any parts h = absurd (h refl)
find_short (Char w) parts h = refl
find_short One parts h = refl

pub find_whole : find_parts [] [] ≡ end
unfolding find_parts
find_whole = refl

pub find_left : (c : ℕ) (cs : List ℕ) → find_parts [] (c ∷ cs) ≡ nothing
unfolding find_parts
find_left c cs = refl

pub ruleset find_steps = (find_here, find_cons, find_short, find_whole, find_left)

-- ---- one step from "%" on

pub end_found : (parts : List Part) (cs : List ℕ) → find_parts parts cs ≡ end → like_end parts cs ≡ true
unfolding like_end
end_found parts cs e = some_end_whole (like parts) cs (find_end parts cs e)

pub nothing_left : (parts : List Part) (cs : List ℕ) → find_parts parts cs ≡ nothing → cs ≡ [] → like_end parts cs ≡ false
nothing_left parts cs e h =
    let none : like parts [] ≡ false = ap (like parts) (sym h) ∙ find_nothing parts cs e in
    ap (like_end parts) h ∙ like_end_nil parts ∙ none

pub nothing_here : (parts : List Part) (c : ℕ) (cs ds : List ℕ) → find_parts parts cs ≡ nothing → cs ≡ c ∷ ds → like_end parts cs ≡ like_end parts ds
nothing_here parts c cs ds e h =
    let none : like parts (c ∷ ds) ≡ false = ap (like parts) (sym h) ∙ find_nothing parts cs e in
    ap (like_end parts) h ∙ like_end_cons parts c ds none

filled_test : (n : ℕ) → true ≡ (suc n == 0) → ⊥
filled_test n f = grind (arith, nat_tests)

pub none_wanted : (parts : List Part) (cs : List ℕ) → true ≡ (length parts == 0) → like_end parts cs ≡ true
none_wanted [] cs e = like_end_none cs
none_wanted (part ∷ parts) cs e = absurd (filled_test (length parts) e)

-- ---- a front in which the first part can't begin

pub like_end_seek : (parts : List Part) (w n : ℕ) (bs : List ℕ) → Some (Char w) ≡ slice_get parts 0 → IsUtf8 bs → StandsForItself (is_byte w) bs n → like_end parts (chars (drop n bs)) ≡ like_end parts (chars bs)
like_end_seek [] w n bs e u run = absurd (cc)
like_end_seek (part ∷ parts) w n bs e u run =
    let first : part ≡ Char w = cc in
    let whole : chars bs ≡ chars (take n bs) ++ chars (drop n bs) = ap chars (sym (take-append-drop n bs)) ∙ chars-append (take n bs) (drop n bs) (IsUtf8-take bs n u run.boundary) in
    rw (first, whole) (sym (like_end_past w parts (chars (take n bs)) (chars (drop n bs)) run.own))

-- ---- no part is left

pub find_ended : (parts : List Part) (cs : List ℕ) → length parts ≡ 0 → cs ≡ [] → find_parts parts cs ≡ end
find_ended [] cs e h = ap (find_parts []) h ∙ find_whole
find_ended (part ∷ parts) cs e h = absurd (omega arith)

pub find_over : (parts : List Part) (c : ℕ) (cs ds : List ℕ) → length parts ≡ 0 → cs ≡ c ∷ ds → find_parts parts cs ≡ nothing
find_over [] c cs ds e h = ap (find_parts []) h ∙ find_left c ds
find_over (part ∷ parts) c cs ds e h = absurd (omega arith)
