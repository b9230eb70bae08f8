-- A pattern of characters with a "%" on one side, both or none is a search of bytes.
use Rattle.std.proofs.Common.{◌≡◌, ℕ, ◌+◌, ◌≤◌, ◌<◌, Bool, true, false, ◌==◌, List, [], ◌∷◌, ◌++◌, take, drop, length, refl, sym, ◌∙◌, ap, subst, arith, length-append, slice_index}
use Rattle.std.proofs.lemmas.List.{take-append-drop}
use Rattle.std.proofs.lemmas.Str.{encodes-chars, encodes-append, encodes_same, chars-append, IsUtf8-take, IsCharBoundary-at_seam, IsCharBoundary-start, length-le-encodes}
use Rattle.std.proofs.lemmas.Bool.{cases_lt}
use Rattle.std.proofs.Common.{inl, inr}
use Rattle.std.specs.Str.{chars, encode_utf8_all, IsUtf8, IsCharBoundary}
use Rattle.memchr.specs.Find.{OccursAt, Nowhere}
use Rattle.memchr.proofs.lemmas.MatchLemmas.{OccursAt-split, OccursAt-from_part}
use Rattle.text_view.specs.declared.like.Part.{Part}
use Rattle.text_view.specs.declared.like.Part.TheVariants.{Any}
use Rattle.text_view.specs.declared.shapes.Shape.{Shape}
use Rattle.text_view.specs.Shapes.{letters, letters_in, IsShaped}
use Rattle.text_view.specs.Finding.{some_end, like}
use Rattle.text_view.proofs.Counts.{take_front, drop_front}
use Rattle.text_view.proofs.Likes.{EndAt, end_at, same_bool, and_left, and_right, some_end_whole, some_end_append, test_same, test_self}

-- ---- characters alone

whole_same : (cs : List ℕ) → like (letters cs) cs ≡ true
unfolding like
whole_same [] = refl
whole_same (c ∷ cs) = rw (test_self c) (whole_same cs)

whole_from : (cs ts : List ℕ) → like (letters cs) ts ≡ true → ts ≡ cs
unfolding like
whole_from [] [] e = refl
whole_from [] (t ∷ ts) e = absurd (cc)
whole_from (c ∷ cs) [] e = absurd (cc)
whole_from (c ∷ cs) (t ∷ ts) e =
    let first : c ≡ t = test_same c t (and_left (t == c) (like (letters cs) ts) e) in
    rw (first, whole_from cs ts (and_right (t == c) (like (letters cs) ts) e)) refl

-- ---- characters and then "%"

ends_empty : (ys : List ℕ) → some_end (like []) ys ≡ true
unfolding like
ends_empty [] = refl
ends_empty (y ∷ ys) = ends_empty ys

front_same : (cs ys : List ℕ) → like (letters cs ++ Any ∷ []) (cs ++ ys) ≡ true
unfolding like
front_same [] [] = refl
front_same [] (y ∷ ys) = ends_empty ys
front_same (c ∷ cs) ys = rw (test_self c) (front_same cs ys)

record BeginsWith (cs ts : List ℕ) : Type 0 where
  rest : List ℕ
  whole : ts ≡ cs ++ rest

front_from : (cs ts : List ℕ) → like (letters cs ++ Any ∷ []) ts ≡ true → BeginsWith cs ts
unfolding like
front_from [] ts e = record { rest = ts; whole = refl }
front_from (c ∷ cs) [] e = absurd (cc)
front_from (c ∷ cs) (t ∷ ts) e =
    let later : BeginsWith cs ts = front_from cs ts (and_right (t == c) (like (letters cs ++ Any ∷ []) ts) e) in
    let first : c ≡ t = test_same c t (and_left (t == c) (like (letters cs ++ Any ∷ []) ts) e) in
    record { rest = later.rest; whole = ap (λ l. t ∷ l) later.whole ∙ ap (λ x. x ∷ cs ++ later.rest) (sym first) }

-- ---- "%" first

behind_any : (parts : List Part) (xs ys : List ℕ) → like parts ys ≡ true → like (Any ∷ parts) (xs ++ ys) ≡ true
unfolding like
behind_any parts xs ys e = some_end_append (like parts) xs ys (some_end_whole (like parts) ys e)

from_any : (parts : List Part) (ts : List ℕ) → like (Any ∷ parts) ts ≡ true → EndAt (like parts) ts
unfolding like
from_any parts ts e = end_at (like parts) ts e

-- ---- the same of bytes

bytes_of : (text xs ys : List ℕ) → IsUtf8 text → chars text ≡ xs ++ ys → text ≡ encode_utf8_all xs ++ encode_utf8_all ys
bytes_of text xs ys u e = sym (encodes-chars text u) ∙ ap encode_utf8_all e ∙ encodes-append xs ys

-- the whole
pub is_whole_of : (text wanted : List ℕ) (b : Bool) → IsUtf8 text → IsUtf8 wanted → (b ≡ true → text ≡ wanted) → (text ≡ wanted → b ≡ true) → b ≡ like (letters (chars wanted)) (chars text)
is_whole_of text wanted b u v to from = same_bool b (like (letters (chars wanted)) (chars text))
    (λ t. ap (λ l. like (letters (chars wanted)) (chars l)) (to t) ∙ whole_same (chars wanted))
    (λ l. from (sym (encodes-chars text u) ∙ ap encode_utf8_all (whole_from (chars wanted) (chars text) l) ∙ encodes-chars wanted v))

-- a front
begins_bytes : (text wanted : List ℕ) → IsUtf8 text → IsUtf8 wanted → like (letters (chars wanted) ++ Any ∷ []) (chars text) ≡ true → BeginsWith wanted text
begins_bytes text wanted u v l =
    let r : BeginsWith (chars wanted) (chars text) = front_from (chars wanted) (chars text) l in
    record { rest = encode_utf8_all r.rest; whole = bytes_of text (chars wanted) r.rest u r.whole ∙ ap (λ l. l ++ encode_utf8_all r.rest) (encodes-chars wanted v) }

take_begin : (text wanted : List ℕ) → BeginsWith wanted text → take (length wanted) text ≡ wanted
take_begin text wanted r = ap (take (length wanted)) r.whole ∙ take_front wanted r.rest (length wanted) refl

begin_fits : (text wanted : List ℕ) → BeginsWith wanted text → length wanted ≤ length text
begin_fits text wanted r = omega (arith, ap length r.whole, length-append wanted r.rest)

pub begins_of : (text wanted : List ℕ) (b : Bool) → IsUtf8 text → IsUtf8 wanted → (b ≡ true → take (length wanted) text ≡ wanted) → (take (length wanted) text ≡ wanted → b ≡ true) → b ≡ like (letters (chars wanted) ++ Any ∷ []) (chars text)
begins_of text wanted b u v to from = same_bool b (like (letters (chars wanted) ++ Any ∷ []) (chars text))
    (λ t.
    let whole : text ≡ wanted ++ drop (length wanted) text = sym (take-append-drop (length wanted) text) ∙ ap (λ l. l ++ drop (length wanted) text) (to t) in
    ap (like (letters (chars wanted) ++ Any ∷ [])) (ap chars whole ∙ chars-append wanted (drop (length wanted) text) v) ∙ front_same (chars wanted) (chars (drop (length wanted) text)))
    (λ l. from (take_begin text wanted (begins_bytes text wanted u v l)))

pub too_short : (text wanted : List ℕ) → IsUtf8 text → IsUtf8 wanted → length text < length wanted → false ≡ like (letters (chars wanted) ++ Any ∷ []) (chars text)
too_short text wanted u v h = same_bool false (like (letters (chars wanted) ++ Any ∷ []) (chars text))
    (λ t. absurd (cc)) (λ l. absurd (omega (arith, begin_fits text wanted (begins_bytes text wanted u v l))))

-- an end
record EndsWith (wanted text : List ℕ) : Type 0 where
  front : List ℕ
  whole : text ≡ front ++ wanted

ends_bytes : (text wanted : List ℕ) → IsUtf8 text → IsUtf8 wanted → like (Any ∷ letters (chars wanted)) (chars text) ≡ true → EndsWith wanted text
ends_bytes text wanted u v l =
    let r : EndAt (like (letters (chars wanted))) (chars text) = from_any (letters (chars wanted)) (chars text) l in
    let back : r.back ≡ chars wanted = whole_from (chars wanted) r.back r.passes in
    record { front = encode_utf8_all r.front; whole = bytes_of text r.front r.back u (sym r.whole) ∙ ap (λ l. encode_utf8_all r.front ++ l) (ap encode_utf8_all back ∙ encodes-chars wanted v) }

drop_end : (text wanted : List ℕ) (m : ℕ) → m + length wanted ≡ length text → EndsWith wanted text → drop m text ≡ wanted
drop_end text wanted m e r =
    let size : length r.front ≡ m = omega (arith, ap length r.whole, length-append r.front wanted) in
    ap (drop m) r.whole ∙ drop_front r.front wanted m size

pub ends_of : (text wanted : List ℕ) (m : ℕ) (b : Bool) → IsUtf8 text → IsUtf8 wanted → m + length wanted ≡ length text → (b ≡ true → drop m text ≡ wanted) → (drop m text ≡ wanted → b ≡ true) → b ≡ like (Any ∷ letters (chars wanted)) (chars text)
ends_of text wanted m b u v size to from = same_bool b (like (Any ∷ letters (chars wanted)) (chars text))
    (λ t.
    let whole : text ≡ take m text ++ wanted = sym (take-append-drop m text) ∙ ap (λ l. take m text ++ l) (to t) in
    let place : length (take m text) ≡ m = omega (arith, ap length whole, length-append (take m text) wanted) in
    let P : ℕ → Type 0 = λ k. IsCharBoundary text k in
    let front : IsUtf8 (take m text) = IsUtf8-take text m u (subst P place (IsCharBoundary-at_seam text (take m text) wanted whole v)) in
    ap (like (Any ∷ letters (chars wanted))) (ap chars whole ∙ chars-append (take m text) wanted front) ∙ behind_any (letters (chars wanted)) (chars (take m text)) (chars wanted) (whole_same (chars wanted)))
    (λ l. from (drop_end text wanted m size (ends_bytes text wanted u v l)))

pub too_short_end : (text wanted : List ℕ) → IsUtf8 text → IsUtf8 wanted → length text < length wanted → false ≡ like (Any ∷ letters (chars wanted)) (chars text)
too_short_end text wanted u v h = same_bool false (like (Any ∷ letters (chars wanted)) (chars text))
    (λ t. absurd (cc)) (λ l. let r : EndsWith wanted text = ends_bytes text wanted u v l in absurd (omega (arith, ap length r.whole, length-append r.front wanted)))

-- somewhere
at_place : (text wanted : List ℕ) (k : ℕ) → IsUtf8 wanted → 0 < length wanted → OccursAt text wanted k → IsCharBoundary text k
at_place text wanted k v h o =
    let start : IsCharBoundary wanted 0 = IsCharBoundary-start wanted v in
    let e : slice_index text (k + 0) ≡ slice_index wanted 0 = o.reads 0 h in
    let f : k + 0 ≡ k = omega arith in
    let g : slice_index text k ≡ slice_index wanted 0 = ap (λ n. slice_index text n) (sym f) ∙ e in
    (omega (arith, o.fits), λ l m. omega (arith, g, start.1 h (omega (arith, g))))

found_at : (text wanted : List ℕ) (k : ℕ) → IsUtf8 text → IsUtf8 wanted → OccursAt text wanted k → (0 < length wanted) → like (Any ∷ (letters (chars wanted) ++ Any ∷ [])) (chars text) ≡ true
found_at text wanted k u v o h =
    let at : IsCharBoundary text k = at_place text wanted k v h o in
    let split : drop k text ≡ wanted ++ drop (k + length wanted) text = OccursAt-split text wanted k o in
    let whole : chars text ≡ chars (take k text) ++ (chars wanted ++ chars (drop (k + length wanted) text)) = ap chars (sym (take-append-drop k text)) ∙ chars-append (take k text) (drop k text) (IsUtf8-take text k u at) ∙ ap (λ l. chars (take k text) ++ l) (ap chars split ∙ chars-append wanted (drop (k + length wanted) text) v) in
    ap (like (Any ∷ (letters (chars wanted) ++ Any ∷ []))) whole ∙ behind_any (letters (chars wanted) ++ Any ∷ []) (chars (take k text)) (chars wanted ++ chars (drop (k + length wanted) text)) (front_same (chars wanted) (chars (drop (k + length wanted) text)))

empty_there : (cs ts : List ℕ) → length cs ≡ 0 → like (Any ∷ (letters cs ++ Any ∷ [])) ts ≡ true
empty_there [] ts e = behind_any (Any ∷ []) [] ts (front_same [] ts)
empty_there (c ∷ cs) ts e = absurd (omega arith)

no_chars : (cs bs : List ℕ) → encode_utf8_all cs ≡ bs → length bs ≡ 0 → length cs ≡ 0
no_chars [] bs e h = refl
no_chars (c ∷ cs) bs e h = absurd (omega (arith, ap length e, encode_some c cs))
  where
    encode_some : (c : ℕ) (cs : List ℕ) → length (c ∷ cs) ≤ length (encode_utf8_all (c ∷ cs))
    encode_some c cs = length-le-encodes (c ∷ cs)

pub holds_found : (text wanted : List ℕ) (k : ℕ) → IsUtf8 text → IsUtf8 wanted → OccursAt text wanted k → true ≡ like (Any ∷ (letters (chars wanted) ++ Any ∷ [])) (chars text)
holds_found text wanted k u v o = elim (cases_lt 0 (length wanted)) [
  | inl h ↦ sym (found_at text wanted k u v o h)
  | inr h ↦ sym (empty_there (chars wanted) (chars text) (no_chars (chars wanted) wanted (encodes-chars wanted v) (omega arith)))
]

pub holds_nowhere : (text wanted : List ℕ) → IsUtf8 text → IsUtf8 wanted → Nowhere (OccursAt text wanted) 0 (length text + 1) → false ≡ like (Any ∷ (letters (chars wanted) ++ Any ∷ [])) (chars text)
holds_nowhere text wanted u v nowhere = same_bool false (like (Any ∷ (letters (chars wanted) ++ Any ∷ [])) (chars text))
    (λ t. absurd (cc))
    (λ l.
    let r : EndAt (like (letters (chars wanted) ++ Any ∷ [])) (chars text) = from_any (letters (chars wanted) ++ Any ∷ []) (chars text) l in
    let b : BeginsWith (chars wanted) r.back = front_from (chars wanted) r.back r.passes in
    let front : List ℕ = encode_utf8_all r.front in
    let rest : List ℕ = encode_utf8_all b.rest in
    let back : encode_utf8_all r.back ≡ wanted ++ rest = ap encode_utf8_all b.whole ∙ encodes-append (chars wanted) b.rest ∙ ap (λ l. l ++ rest) (encodes-chars wanted v) in
    let whole : text ≡ front ++ (wanted ++ rest) = bytes_of text r.front r.back u (sym r.whole) ∙ ap (λ l. front ++ l) back in
    let there : take (length wanted) (drop (length front) text) ≡ wanted = ap (λ l. take (length wanted) (drop (length front) l)) whole ∙ ap (take (length wanted)) (drop_front front (wanted ++ rest) (length front) refl) ∙ take_front wanted rest (length wanted) refl in
    let size : length front + length wanted ≤ length text = omega (arith, ap length whole, length-append front (wanted ++ rest), length-append wanted rest) in
    absurd (nowhere (length front) (omega arith) (omega arith) (OccursAt-from_part text wanted (length front) size there)))

-- ---- the letters of a pattern

pub shaped_chars : (shape : Shape) (parts : List Part) (bytes : List ℕ) → IsUtf8 bytes → bytes ≡ encode_utf8_all (letters_in parts) → IsShaped shape parts (letters_in parts) → IsShaped shape parts (chars bytes)
shaped_chars shape parts bytes u e h =
    let P : List ℕ → Type 0 = λ cs. IsShaped shape parts cs in
    subst P (sym (encodes_same (chars bytes) (letters_in parts) (encodes-chars bytes u ∙ e))) h
