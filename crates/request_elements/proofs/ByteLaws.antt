-- Where a byte stands first among others, and blanks at an end.
use Rattle.std.proofs.Common.{◌≡◌, ◌↔◌, ℕ, zero, suc, ◌<◌, ◌≤◌, ◌==◌, ◌||◌, ◌&&◌, not, is_some, IsTrue, IsUtf8, Bool, true, false, List, [], ◌∷◌, ◌++◌, length, take, slice_index, refl, sym, ap, ◌∙◌, arith, eq-eqb, if◌then◌else◌, Option, Some, None}
use Rattle.std.specs.Str.{is_utf8}
use Rattle.std.proofs.Math.Bool.{or-true}
use Rattle.std.proofs.lemmas.Str.{IsUtf8-from_is_utf8, is_utf8-from_IsUtf8}
use Rattle.memchr.specs.Find.{IsFirstByte, is_byte}
use Rattle.request_elements.specs.Pieces.{has, up_to, is_blank, without_last_blanks, unless_blank, ends_with, but_last, is_declared}

pub up_to_whole : (x : ℕ) (bs : List ℕ) → has x bs ≡ false → up_to x bs ≡ bs
up_to_whole x [] e = refl
up_to_whole x (b ∷ bs) e =
    let P : Bool → Type 0 = λ t. (t || has x bs) ≡ false → (if t then [] else b ∷ up_to x bs) ≡ b ∷ bs in
    (elim (b == x) as P [ true ↦ λ e. cc | false ↦ λ e. ap (λ l. b ∷ l) (up_to_whole x bs e) ]) e

pub up_to_front : (x : ℕ) (pre rest : List ℕ) → has x pre ≡ false → up_to x (pre ++ x ∷ rest) ≡ pre
up_to_front x [] rest e = let q : (x == x) ≡ true = eq-eqb x x refl in rw q refl
up_to_front x (b ∷ pre) rest e =
    let P : Bool → Type 0 = λ t. (t || has x pre) ≡ false → (if t then [] else b ∷ up_to x (pre ++ x ∷ rest)) ≡ b ∷ pre in
    (elim (b == x) as P [ true ↦ λ e. cc | false ↦ λ e. ap (λ l. b ∷ l) (up_to_front x pre rest e) ]) e

pub has_front : (x : ℕ) (pre rest : List ℕ) → has x (pre ++ x ∷ rest) ≡ true
has_front x [] rest = let q : (x == x) ≡ true = eq-eqb x x refl in rw q refl
has_front x (b ∷ pre) rest = rw (has_front x pre rest) (or-true (b == x))

pub take_up_to : (x : ℕ) (bs : List ℕ) → take (length (up_to x bs)) bs ≡ up_to x bs
take_up_to x [] = refl
take_up_to x (b ∷ bs) =
    let P : Bool → Type 0 = λ t. take (length (if t then [] else b ∷ up_to x bs)) (b ∷ bs) ≡ (if t then [] else b ∷ up_to x bs) in
    elim (b == x) as P [ true ↦ refl | false ↦ ap (λ l. b ∷ l) (take_up_to x bs) ]

-- the bytes are shorter before one that is there
pub has_shorter : (x : ℕ) (bs : List ℕ) → has x bs ≡ true → length (up_to x bs) < length bs
has_shorter x [] e = cc
has_shorter x (b ∷ bs) e =
    let P : Bool → Type 0 = λ t. (t || has x bs) ≡ true → length (if t then [] else b ∷ up_to x bs) < suc (length bs) in
    (elim (b == x) as P [ true ↦ λ e. omega arith | false ↦ λ e. let r = has_shorter x bs e in omega arith ]) e

has_not : (x : ℕ) (bs : List ℕ) (t : Bool) → has x bs ≡ t → length (up_to x bs) ≡ length bs → t ≡ false
has_not x bs true e l = let r = has_shorter x bs e in absurd (omega arith)
has_not x bs false e l = refl

pub whole_has : (x : ℕ) (bs : List ℕ) → length (up_to x bs) ≡ length bs → has x bs ≡ false
whole_has x bs l = has_not x bs (has x bs) refl l

has_so : (x : ℕ) (bs : List ℕ) (t : Bool) → has x bs ≡ t → (length (up_to x bs) ≡ length bs → ⊥) → t ≡ true
has_so x bs true e l = refl
has_so x bs false e l = absurd (l (ap length (up_to_whole x bs e)))

pub part_has : (x : ℕ) (bs : List ℕ) → (length (up_to x bs) ≡ length bs → ⊥) → has x bs ≡ true
part_has x bs l = has_so x bs (has x bs) refl l

-- what a search tells
first_at : (x : ℕ) (bs : List ℕ) (k : ℕ) → k < length bs → (slice_index bs k == x) ≡ true
    → ((j : ℕ) → j < k → (slice_index bs j == x) ≡ true → ⊥) → length (up_to x bs) ≡ k
first_at x [] k l e before = absurd (omega arith)
first_at x (b ∷ bs) zero l e before = rw e refl
first_at x (b ∷ bs) (suc k) l e before =
    let r = first_at x bs k (omega arith) e (λ j m f. before (suc j) (omega arith) f) in
    let P : Bool → Type 0 = λ t. (t ≡ true → ⊥) → length (if t then [] else b ∷ up_to x bs) ≡ suc k in
    (elim (b == x) as P [ true ↦ λ n. absurd (n refl) | false ↦ λ n. ap suc r ]) (before 0 (omega arith))

nowhere : (x : ℕ) (bs : List ℕ) → ((j : ℕ) → j < length bs → (slice_index bs j == x) ≡ true → ⊥) → has x bs ≡ false
nowhere x [] n = refl
nowhere x (b ∷ bs) n =
    let r = nowhere x bs (λ j l f. n (suc j) (omega arith) f) in
    let P : Bool → Type 0 = λ t. (t ≡ true → ⊥) → (t || has x bs) ≡ false in
    (elim (b == x) as P [ true ↦ λ m. absurd (m refl) | false ↦ λ m. r ]) (n 0 (omega arith))

pub found_first : (x : ℕ) (bs : List ℕ) (k : ℕ) → IsFirstByte (is_byte x) bs (Some k) → k ≡ length (up_to x bs)
found_first x bs k h = sym (first_at x bs k h.0.high h.1 (λ j l f. h.0.before j (omega arith) l f))

pub found_none : (x : ℕ) (bs : List ℕ) → IsFirstByte (is_byte x) bs None → length bs ≡ length (up_to x bs)
found_none x bs h = sym (ap length (up_to_whole x bs (nowhere x bs (λ j l f. h j (omega arith) l f))))

-- ---- the last byte

pub last_blank : (bs : List ℕ) (b : ℕ) → is_blank b ≡ true → without_last_blanks (bs ++ b ∷ []) ≡ without_last_blanks bs
last_blank [] b e = rw e refl
last_blank (x ∷ bs) b e = ap (unless_blank x) (last_blank bs b e)

unless_more : (x : ℕ) (bs : List ℕ) (b : ℕ) → unless_blank x (bs ++ b ∷ []) ≡ x ∷ (bs ++ b ∷ [])
unless_more x [] b = refl
unless_more x (y ∷ bs) b = refl

pub last_kept : (bs : List ℕ) (b : ℕ) → is_blank b ≡ false → without_last_blanks (bs ++ b ∷ []) ≡ bs ++ b ∷ []
last_kept [] b e = rw e refl
last_kept (x ∷ bs) b e = ap (unless_blank x) (last_kept bs b e) ∙ unless_more x bs b

ends_more : (byte x : ℕ) (bs : List ℕ) (b : ℕ) → ends_with byte (x ∷ (bs ++ b ∷ [])) ≡ ends_with byte (bs ++ b ∷ [])
ends_more byte x [] b = refl
ends_more byte x (y ∷ bs) b = refl

pub ends_last : (byte : ℕ) (bs : List ℕ) (b : ℕ) → ends_with byte (bs ++ b ∷ []) ≡ (b == byte)
ends_last byte [] b = refl
ends_last byte (x ∷ bs) b = ends_more byte x bs b ∙ ends_last byte bs b

last_more : (x : ℕ) (bs : List ℕ) (b : ℕ) → but_last (x ∷ (bs ++ b ∷ [])) ≡ x ∷ but_last (bs ++ b ∷ [])
last_more x [] b = refl
last_more x (y ∷ bs) b = refl

pub but_last_of : (bs : List ℕ) (b : ℕ) → but_last (bs ++ b ∷ []) ≡ bs
but_last_of [] b = refl
but_last_of (x ∷ bs) b = last_more x bs b ∙ ap (λ l. x ∷ l) (but_last_of bs b)

-- ---- what the tests tell

some_has : (x : ℕ) (bs : List ℕ) (k : ℕ) → k < length bs → (slice_index bs k == x) ≡ true → has x bs ≡ true
some_has x [] k l e = absurd (omega arith)
some_has x (b ∷ bs) zero l e = rw e refl
some_has x (b ∷ bs) (suc k) l e = rw (some_has x bs k (omega arith) e) (or-true (b == x))

pub search_has : (x : ℕ) (bs : List ℕ) (o : Option ℕ) → IsFirstByte (is_byte x) bs o → is_some o ≡ has x bs
search_has x bs None h = sym (nowhere x bs (λ j l f. h j (omega arith) l f))
search_has x bs (Some k) h = sym (some_has x bs k h.0.high h.1)

pub not_text : (bs : List ℕ) (t : Bool) → is_utf8 bs ≡ t → (IsUtf8 bs → ⊥) → false ≡ t
not_text bs true e none = absurd (none (IsUtf8-from_is_utf8 bs e))
not_text bs false e none = refl

pub test_is_utf8 : (test : Bool) (bs : List ℕ) → IsTrue test ↔ IsUtf8 bs → test ≡ is_utf8 bs
test_is_utf8 true bs says = sym (is_utf8-from_IsUtf8 bs (says.0 refl))
test_is_utf8 false bs says = not_text bs (is_utf8 bs) refl (λ text. (cc (says.1 text)))

pub declared_by : (b : ℕ) (middle : List ℕ) (last : ℕ) → is_declared (b ∷ (middle ++ last ∷ [])) ≡ (is_blank b && ((last == 63) && (not (has 63 middle || has 60 middle) && is_utf8 middle)))
declared_by b middle last = rw (ends_last 63 middle last, but_last_of middle last) refl

pub up_to_within : (x : ℕ) (bs : List ℕ) → length (up_to x bs) ≤ length bs
up_to_within x [] = omega arith
up_to_within x (b ∷ bs) =
    let P : Bool → Type 0 = λ t. length (if t then [] else b ∷ up_to x bs) ≤ suc (length bs) in
    let r = up_to_within x bs in
    elim (b == x) as P [ true ↦ omega arith | false ↦ omega arith ]
