-- Runs of characters that stand for themselves, in bytes and in characters.
use Rattle.std.proofs.Common.{◌≡◌, ℕ, zero, suc, ◌+◌, ◌-◌, ◌≤◌, ◌<◌, Bool, true, false, ◌||◌, ◌==◌, List, [], ◌∷◌, ◌++◌, map, take, drop, length, refl, sym, ◌∙◌, ap, subst, arith, append_assoc, length-append, length-take, slice_index, slice_range, Result, Ok, Err, IsOk, OnOk, OnErr, inl, inr}
use Rattle.std.proofs.lemmas.Bool.{cases_lt}
use Rattle.text_view.proofs.Counts.{take_front, drop_front}
use Rattle.std.proofs.lemmas.Bool.Decides.{nat_tests}
use Rattle.std.proofs.lemmas.List.{take-append-drop, append-nil, take_all}
use Rattle.std.proofs.lemmas.Str.{encodes-chars, encode_ascii, chars-append, IsUtf8-take, IsUtf8-drop, IsUtf8-append, IsCharBoundary-at_seam, chars-nil, IsCharBoundary-before_ascii, IsCharBoundary-end, IsCharBoundary-start}
use Rattle.std.specs.Str.{chars, encode_utf8_all, IsUtf8, IsCharBoundary, NonePass}
use Rattle.memchr.specs.Find.{is_byte, is_byte2, Passes, Nowhere, NoneBefore}
use Rattle.text_view.specs.Writing.{StandsForItself, WritesFront}
use Rattle.std.specs.Char.{encode_utf8}
use Rattle.text_view.specs.declared.cursor.Case.{Case}
use Rattle.text_view.specs.declared.cursor.Escape.{Escape}
use Rattle.text_view.specs.declared.cursor.Escape.TheVariants.{Plain, Quoted, Json}
use Rattle.text_view.specs.QuotedField.{unquoted}
use Rattle.text_view.specs.JsonString.{unescaped_text}
use Rattle.text_view.specs.Spelled.{shown, cased, spelled, special}
use Rattle.text_view.specs.Room.{Room}
use Rattle.text_view.proofs.Escapes.{unquoted_nil, unescaped_nil, unquoted_cons, unescaped_by_test}
use Rattle.text_view.proofs.Shown.{shown_nil, shown_append}

-- ---- bytes and characters

take_none : (bs : List ℕ) → take 0 bs ≡ []
take_none [] = refl
take_none (b ∷ bs) = refl

pub none_left : (p : ℕ → Bool) (xs ys : List ℕ) → NonePass p (xs ++ ys) → NonePass p xs
none_left p [] ys h = tt
none_left p (x ∷ xs) ys h = (h.0, none_left p xs ys h.1)

pub none_right : (p : ℕ → Bool) (xs ys : List ℕ) → NonePass p (xs ++ ys) → NonePass p ys
none_right p [] ys h = h
none_right p (x ∷ xs) ys h = none_right p xs ys h.1

-- a test that only ASCII characters pass, and no byte
fails_here : (p : ℕ → Bool) (c : ℕ) (b : Bool) → p c ≡ b → (p c ≡ true → c < 128) → NonePass p (encode_utf8 c) → p c ≡ false
fails_here p c true e low h = let P : List ℕ → Type 0 = NonePass p in (subst P (encode_ascii c (low e)) h).0
fails_here p c false e low h = e

none_in : (p : ℕ → Bool) → ((c : ℕ) → p c ≡ true → c < 128) → (cs : List ℕ) → NonePass p (encode_utf8_all cs) → NonePass p cs
none_in p low [] h = tt
none_in p low (c ∷ cs) h = (
  fails_here p c (p c) refl (low c) (none_left p (encode_utf8 c) (encode_utf8_all cs) h),
  none_in p low cs (none_right p (encode_utf8 c) (encode_utf8_all cs) h),
)

-- no byte passes: no character does
none_passes : (p : ℕ → Bool) (bs : List ℕ) → ((c : ℕ) → p c ≡ true → c < 128) → IsUtf8 bs → NonePass p bs → NonePass p (chars bs)
none_passes p bs low u h = none_in p low (chars bs) (let P : List ℕ → Type 0 = NonePass p in subst P (sym (encodes-chars bs u)) h)

not_true : (b : Bool) → (b ≡ true → ⊥) → b ≡ false
not_true true h = absurd (h refl)
not_true false h = refl

none_front : (p : ℕ → Bool) (n : ℕ) (bs : List ℕ) → ((k : ℕ) → k < n → p (slice_index bs k) ≡ true → ⊥) → NonePass p (take n bs)
none_front p zero bs h = tt
none_front p (suc n) [] h = tt
none_front p (suc n) (b ∷ bs) h =
    (not_true (p b) (h 0 (omega arith)), none_front p n bs (λ k l. h (suc k) (omega arith)))

-- ---- the first byte that passes

pub found_own : (p : ℕ → Bool) (bs : List ℕ) (n : ℕ) → ((c : ℕ) → p c ≡ true → c < 128) → IsUtf8 bs → NoneBefore (Passes p bs) 0 (length bs) n × Passes p bs n → StandsForItself p bs n
found_own p bs n low u found =
    let here : slice_index bs n < 128 = low (slice_index bs n) found.1 in
    let boundary : IsCharBoundary bs n = IsCharBoundary-before_ascii bs n found.0.high here in
    record {
      boundary = boundary;
      own = none_passes p (take n bs) low (IsUtf8-take bs n u boundary) (none_front p n bs (λ k l. found.0.before k (omega arith) l));
    }

pub whole_own : (p : ℕ → Bool) (bs : List ℕ) → ((c : ℕ) → p c ≡ true → c < 128) → IsUtf8 bs → Nowhere (Passes p bs) 0 (length bs) → StandsForItself p bs (length bs)
whole_own p bs low u nowhere = record {
  boundary = IsCharBoundary-end bs;
  own = none_passes p (take (length bs) bs) low (IsUtf8-take bs (length bs) u (IsCharBoundary-end bs)) (none_front p (length bs) bs (λ k l. nowhere k (omega arith) l));
}

-- no byte passes: no character does
pub all_own : (p : ℕ → Bool) (bs : List ℕ) → ((c : ℕ) → p c ≡ true → c < 128) → IsUtf8 bs → Nowhere (Passes p bs) 0 (length bs) → NonePass p (chars bs)
all_own p bs low u nowhere =
    none_passes p bs low u (let P : List ℕ → Type 0 = NonePass p in subst P (take_all (length bs) bs (omega arith)) (none_front p (length bs) bs (λ k l. nowhere k (omega arith) l)))

none_at_all : (cs : List ℕ) → NonePass (λ c. false) cs
none_at_all [] = tt
none_at_all (c ∷ cs) = (refl, none_at_all cs)

pub plain_own : (bs : List ℕ) → StandsForItself (λ c. false) bs (length bs)
plain_own bs = record { boundary = IsCharBoundary-end bs; own = none_at_all (chars (take (length bs) bs)) }

pub nothing_own : (p : ℕ → Bool) (bs : List ℕ) → IsUtf8 bs → StandsForItself p bs 0
nothing_own p bs u = record { boundary = IsCharBoundary-start bs u; own = subst (NonePass p) (sym (ap chars (take_none bs) ∙ chars-nil)) tt }

pub solidus_low : (c : ℕ) → is_byte 92 c ≡ true → c < 128
solidus_low c e = grind (arith, nat_tests)

pub special_low : (q e c : ℕ) → q < 128 → e < 128 → is_byte2 q e c ≡ true → c < 128
special_low q e c h g t = grind (arith, nat_tests)

byte_low : (w c : ℕ) → w < 128 → is_byte w c ≡ true → c < 128
byte_low w c h t = grind (arith, nat_tests)

pub solidus_found : (bs : List ℕ) (n : ℕ) → IsUtf8 bs → NoneBefore (Passes (is_byte 92) bs) 0 (length bs) n × Passes (is_byte 92) bs n → StandsForItself (is_byte 92) bs n
solidus_found bs n u h = found_own (is_byte 92) bs n solidus_low u h

pub solidus_nowhere : (bs : List ℕ) → IsUtf8 bs → Nowhere (Passes (is_byte 92) bs) 0 (length bs) → StandsForItself (is_byte 92) bs (length bs)
solidus_nowhere bs u h = whole_own (is_byte 92) bs solidus_low u h

pub special_found : (q e : ℕ) (bs : List ℕ) (n : ℕ) → q < 128 → e < 128 → IsUtf8 bs → NoneBefore (Passes (is_byte2 q e) bs) 0 (length bs) n × Passes (is_byte2 q e) bs n → StandsForItself (is_byte2 q e) bs n
special_found q e bs n low lower u h = found_own (is_byte2 q e) bs n (λ c t. special_low q e c low lower t) u h

pub special_nowhere : (q e : ℕ) (bs : List ℕ) → q < 128 → e < 128 → IsUtf8 bs → Nowhere (Passes (is_byte2 q e) bs) 0 (length bs) → StandsForItself (is_byte2 q e) bs (length bs)
special_nowhere q e bs low lower u h = whole_own (is_byte2 q e) bs (λ c t. special_low q e c low lower t) u h

-- ---- what a run stands for

or_left : (x y : Bool) → (x || y) ≡ false → x ≡ false
or_left true y e = e
or_left false y e = refl

or_right : (x y : Bool) → (x || y) ≡ false → y ≡ false
or_right true y e = absurd (cc)
or_right false y e = e

pub unquoted_run : (q e : ℕ) (xs ys : List ℕ) → NonePass (λ c. c == q || c == e) xs → unquoted q e (xs ++ ys) ≡ xs ++ unquoted q e ys
unquoted_run q e [] ys h = refl
unquoted_run q e (c ∷ xs) ys h =
    let f : (c == q) ≡ false = or_left (c == q) (c == e) h.0 in
    let g : (c == e) ≡ false = or_right (c == q) (c == e) h.0 in
    unquoted_cons q e c (xs ++ ys) ∙ rw (g, f) (ap (λ t. c ∷ t) (unquoted_run q e xs ys h.1))

pub unescaped_run : (xs ys : List ℕ) → NonePass (λ c. c == 92) xs → unescaped_text (xs ++ ys) ≡ xs ++ unescaped_text ys
unescaped_run [] ys h = refl
unescaped_run (c ∷ xs) ys h = unescaped_by_test c (xs ++ ys) h.0 ∙ ap (λ t. c ∷ t) (unescaped_run xs ys h.1)

pub spelled_run : (e : Escape) (xs ys : List ℕ) → NonePass (special e) xs → spelled e (xs ++ ys) ≡ xs ++ spelled e ys
spelled_run Plain xs ys h = refl
spelled_run (Quoted q e) xs ys h = unquoted_run q e xs ys h
spelled_run Json xs ys h = unescaped_run xs ys h

-- ---- a run of bytes, shown in a letter case

-- a front that stands for itself
pub run_whole : (k : Case) (e : Escape) (len : ℕ) (text : List ℕ) → IsUtf8 (take len text) → StandsForItself (special e) text len
    → shown k (spelled e (chars text)) ≡ map (cased k) (chars (take len text)) ++ shown k (spelled e (chars (drop len text)))
run_whole k e len text u run =
    let front : List ℕ = take len text in
    let back : List ℕ = drop len text in
    let whole : chars text ≡ chars front ++ chars back = ap chars (sym (take-append-drop len text)) ∙ chars-append front back u in
    ap (shown k) (ap (spelled e) whole ∙ spelled_run e (chars front) (chars back) run.own)
    ∙ shown_append k (chars front) (spelled e (chars back))

pub range_is : (n : ℕ) (bs : List ℕ) → slice_range bs 0 n ≡ take n bs
range_is n [] = let e : n - 0 ≡ n = omega arith in ap (λ m. take m []) e
range_is n (b ∷ bs) = let e : n - 0 ≡ n = omega arith in ap (λ m. take m (b ∷ bs)) e

filled : (cs bs : List ℕ) → encode_utf8_all cs ≡ bs → 0 < length bs → 0 < length cs
filled [] bs e h = absurd (omega (arith, ap length e))
filled (c ∷ cs) bs e h = omega arith

pub filled_chars : (bs : List ℕ) → IsUtf8 bs → 0 < length bs → 0 < length (chars bs)
filled_chars bs u h = filled (chars bs) bs (encodes-chars bs u) h

pub no_run : (k : Case) (run was left : List ℕ) → was ≡ map (cased k) (chars run) ++ left → run ≡ [] → left ≡ was
no_run k run was left e h = sym (e ∙ ap (λ l. map (cased k) l ++ left) (ap chars h ∙ chars-nil))

map_length : (f : ℕ → ℕ) (xs : List ℕ) → length (map f xs) ≡ length xs
map_length f [] = refl
map_length f (x ∷ xs) = ap suc (map_length f xs)

pub run_length : (k : Case) (run was left : List ℕ) → was ≡ map (cased k) (chars run) ++ left → length was ≡ length (chars run) + length left
run_length k run was left e = omega (arith, ap length e, length-append (map (cased k) (chars run)) left, map_length (cased k) (chars run))

-- ---- a text that is written in pieces

spelled_nil : (e : Escape) → spelled e (chars []) ≡ []
spelled_nil Plain = chars-nil
spelled_nil (Quoted q e) = rw chars-nil (unquoted_nil q e)
spelled_nil Json = rw chars-nil unescaped_nil

pub shown_empty : (k : Case) (e : Escape) (bs : List ℕ) → bs ≡ [] → encode_utf8_all (shown k (spelled e (chars bs))) ≡ []
shown_empty k e bs h = rw (h, spelled_nil e, shown_nil k) refl

-- a piece that is pushed
pub wrote : {T E : Type 0} (r : Result T E) (old new : Room) (piece was left : List ℕ) → was ≡ piece ++ left → (IsOk r → length old.bytes + length piece ≤ old.room) → OnOk r (new ≡ record { room = old.room; bytes = old.bytes ++ piece }) → OnOk r (WritesFront old new was left)
wrote (Ok v) old new piece was left split fits is = let P : Room → Type 0 = λ r. WritesFront old r was left in subst P (sym is) (record {
  bytes = append_assoc old.bytes piece left ∙ ap (λ l. old.bytes ++ l) (sym split);
  room = refl;
  front = take_front old.bytes piece (length old.bytes) refl;
  fits = λ h. omega (arith, fits refl, length-append old.bytes piece);
})
wrote (Err e) old new piece was left split fits is = tt

not_within : (old : Room) (piece was left : List ℕ) → was ≡ piece ++ left → (length old.bytes + length piece ≤ old.room → ⊥) → old.room < length old.bytes + length was
not_within old piece was left split fails = elim (cases_lt old.room (length old.bytes + length was)) [
  | inl h ↦ h
  | inr h ↦ absurd (fails (omega (arith, ap length split, length-append piece left)))
]

pub overflows : {T E : Type 0} (r : Result T E) (old : Room) (piece was left : List ℕ) → was ≡ piece ++ left → (length old.bytes + length piece ≤ old.room → IsOk r) → OnErr r (old.room < length old.bytes + length was)
overflows (Ok v) old piece was left split fits = tt
overflows (Err e) old piece was left split fits = not_within old piece was left split (λ h. absurd (let f : false ≡ true = fits h in cc))

-- a buffer that is cut back to what it was
pub restored : (old mid now after : Room) (n : ℕ) → n ≡ length old.bytes → after ≡ record { room = mid.room; bytes = take n mid.bytes } → mid ≡ now → take (length old.bytes) now.bytes ≡ old.bytes → IsUtf8 old.bytes → IsUtf8 after.bytes
restored old mid now after n size is same front u =
    let P : List ℕ → Type 0 = IsUtf8 in
    let e : after.bytes ≡ old.bytes = ap (λ (r : Room). r.bytes) is ∙ ap (λ m. take m mid.bytes) size ∙ ap (λ (r : Room). take (length old.bytes) r.bytes) same ∙ front in
    subst P (sym e) u

-- what is pushed where only texts were
pub pushed : {T E : Type 0} (r : Result T E) (old new : Room) (text : List ℕ) → IsUtf8 text → OnOk r (new ≡ record { room = old.room; bytes = old.bytes ++ text }) → OnErr r (new ≡ old) → IsUtf8 old.bytes → IsUtf8 new.bytes
pushed (Ok v) old new text u is same h = let P : Room → Type 0 = λ r. IsUtf8 r.bytes in subst P (sym is) (IsUtf8-append old.bytes text h u)
pushed (Err e) old new text u is same h = let P : Room → Type 0 = λ r. IsUtf8 r.bytes in subst P (sym same) h

-- nothing was to come
pub writes_nothing : (room : Room) (was left : List ℕ) → was ≡ [] → left ≡ [] → WritesFront room room was left
writes_nothing room was left e l = record {
  bytes = rw (l, e) refl;
  room = refl;
  front = take_all (length room.bytes) room.bytes (omega arith);
  fits = λ h. h;
}

-- a text that doesn't fit where a piece of it doesn't
pub over_full : (old new : Room) (was left : List ℕ) → WritesFront old new was left → new.room < length new.bytes + length left → length old.bytes + length was ≤ old.room → ⊥
over_full old new was left w h g =
    omega (arith, ap length w.bytes, length-append new.bytes left, length-append old.bytes was, w.room)

pub fits_whole : (old new : Room) (was left : List ℕ) → WritesFront old new was left → left ≡ [] → length old.bytes ≤ old.room → length old.bytes + length was ≤ old.room
fits_whole old new was left w e h =
    omega (arith, ap length w.bytes, length-append new.bytes left, length-append old.bytes was, w.room, ap length e, w.fits h)

pub written_whole : (old new : Room) (was left : List ℕ) → WritesFront old new was left → left ≡ [] → new ≡ record { room = old.room; bytes = old.bytes ++ was }
written_whole old new was left w e =
    let bytes : new.bytes ≡ old.bytes ++ was = sym (append-nil new.bytes) ∙ ap (λ l. new.bytes ++ l) (sym e) ∙ w.bytes in
    (λ i. record { room = w.room i; bytes = bytes i })

filled_test : (n : ℕ) → (suc n == 0) ≡ true → ⊥
filled_test n f = grind (arith, nat_tests)

pub nil_from_test : (bs : List ℕ) (b : Bool) → b ≡ (length bs == 0) → b ≡ true → bs ≡ []
nil_from_test [] b e t = refl
nil_from_test (x ∷ bs) b e t = let f : (length (x ∷ bs) == 0) ≡ true = sym e ∙ t in absurd (filled_test (length bs) f)

pub filled_from_test : (bs : List ℕ) (b : Bool) → b ≡ (length bs == 0) → b ≡ false → 0 < length bs
filled_from_test [] b e t = let f : true ≡ false = sym e ∙ t in absurd (cc)
filled_from_test (x ∷ bs) b e t = omega arith

pub byte_found : (w : ℕ) (bs : List ℕ) (n : ℕ) → w < 128 → IsUtf8 bs → NoneBefore (Passes (is_byte w) bs) 0 (length bs) n × Passes (is_byte w) bs n → StandsForItself (is_byte w) bs n
byte_found w bs n low u h = found_own (is_byte w) bs n (λ c t. byte_low w c low t) u h

pub byte_nowhere : (w : ℕ) (bs : List ℕ) → w < 128 → IsUtf8 bs → Nowhere (Passes (is_byte w) bs) 0 (length bs) → StandsForItself (is_byte w) bs (length bs)
byte_nowhere w bs low u h = whole_own (is_byte w) bs (λ c t. byte_low w c low t) u h
