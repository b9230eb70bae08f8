-- A letter case changes ASCII letters alone: in bytes as in characters.
use Rattle.std.proofs.Common.{◌≡◌, ℕ, suc, ◌+◌, ◌/◌, ◌%◌, ◌≤◌, ◌<◌, Bool, true, false, ◌&&◌, List, [], ◌∷◌, ◌++◌, map, take, drop, length, refl, sym, ◌∙◌, ap, subst, arith}
use Rattle.std.proofs.lemmas.Bool.{cases_lt}
use Rattle.std.proofs.lemmas.Bool.Decides.{nat_tests}
use Rattle.std.proofs.lemmas.List.{map-append}
use Rattle.std.proofs.lemmas.Str.{encodes-chars, encodes_same, scalars-chars, IsUtf8-append}
use Rattle.std.specs.Char.{to_ascii_lowercase}
use Rattle.std.specs.Str.{chars, encode_utf8_all, IsUtf8}
use Rattle.text_view.specs.declared.cursor.Case.{Case}
use Rattle.text_view.specs.declared.cursor.Case.TheVariants.{Kept, Upper, Lower}
use Rattle.text_view.specs.Spelled.{cased}
use Rattle.text_view.specs.Room.{Room}
use Rattle.text_view.proofs.CodePoints.{Width, one, two, three, four, width, encode_one, encode_two, encode_three, encode_four}
use Rattle.text_view.proofs.Counts.{take_front, drop_front}
use lib.Utf8.{encode, scalar, scalars, low_scalar}
use Rattle.std.proofs.Common.{inl, inr}

low_cased : (k : Case) (c : ℕ) → c < 128 → cased k c < 128
low_cased Kept c h = h
low_cased Upper c h = grind (arith, nat_tests)
low_cased Lower c h = grind (arith, nat_tests)

high_cased : (k : Case) (c : ℕ) → 128 ≤ c → cased k c ≡ c
high_cased Kept c h = refl
high_cased Upper c h = grind (arith, nat_tests)
high_cased Lower c h = grind (arith, nat_tests)

two_high : (k : Case) (a b : ℕ) → 128 ≤ a → 128 ≤ b → a ∷ b ∷ [] ≡ map (cased k) (a ∷ b ∷ [])
two_high k a b h i = rw (high_cased k a h, high_cased k b i) refl

three_high : (k : Case) (a b c : ℕ) → 128 ≤ a → 128 ≤ b → 128 ≤ c → a ∷ b ∷ c ∷ [] ≡ map (cased k) (a ∷ b ∷ c ∷ [])
three_high k a b c h i j = rw (high_cased k a h, high_cased k b i, high_cased k c j) refl

four_high : (k : Case) (a b c d : ℕ) → 128 ≤ a → 128 ≤ b → 128 ≤ c → 128 ≤ d → a ∷ b ∷ c ∷ d ∷ [] ≡ map (cased k) (a ∷ b ∷ c ∷ d ∷ [])
four_high k a b c d h i j l = rw (high_cased k a h, high_cased k b i, high_cased k c j, high_cased k d l) refl

same_bytes : (k : Case) (c : ℕ) (bs : List ℕ) → encode c ≡ bs → bs ≡ map (cased k) bs → encode c ≡ map (cased k) (encode c)
same_bytes k c bs e h = e ∙ h ∙ ap (map (cased k)) (sym e)

unchanged : (k : Case) (c : ℕ) → 128 ≤ c → encode c ≡ map (cased k) (encode c) → encode (cased k c) ≡ map (cased k) (encode c)
unchanged k c h e = ap encode (high_cased k c h) ∙ e

encode_cased : (k : Case) (c : ℕ) → Width c → encode (cased k c) ≡ map (cased k) (encode c)
encode_cased k c (one h) = encode_one (cased k c) (low_cased k c h) ∙ sym (ap (map (cased k)) (encode_one c h))
encode_cased k c (two h i) =
    unchanged k c h (same_bytes k c _ (encode_two c h i) (two_high k (192 + c / 64) (128 + c % 64) (omega arith) (omega arith)))
encode_cased k c (three h i) =
    unchanged k c (omega arith) (same_bytes k c _ (encode_three c h i) (three_high k (224 + (c / 64) / 64) (128 + (c / 64) % 64) (128 + c % 64) (omega arith) (omega arith) (omega arith)))
encode_cased k c (four h) =
    unchanged k c (omega arith) (same_bytes k c _ (encode_four c h) (four_high k (240 + ((c / 64) / 64) / 64) (128 + ((c / 64) / 64) % 64) (128 + (c / 64) % 64) (128 + c % 64) (omega arith) (omega arith) (omega arith) (omega arith)))

encode_all_cased : (k : Case) (cs : List ℕ) → encode_utf8_all (map (cased k) cs) ≡ map (cased k) (encode_utf8_all cs)
encode_all_cased k [] = refl
encode_all_cased k (c ∷ cs) =
    ap (λ l. l ++ encode_utf8_all (map (cased k) cs)) (encode_cased k c (width c)) ∙ ap (λ l. map (cased k) (encode c) ++ l) (encode_all_cased k cs) ∙ sym (map-append (cased k) (encode c) (encode_utf8_all cs))

-- the bytes of a text in a letter case
pub cased_bytes : (k : Case) (bs : List ℕ) → IsUtf8 bs → encode_utf8_all (map (cased k) (chars bs)) ≡ map (cased k) bs
cased_bytes k bs u = encode_all_cased k (chars bs) ∙ ap (map (cased k)) (encodes-chars bs u)

scalar_cased : (k : Case) (c : ℕ) → scalar c ≡ true → scalar (cased k c) ≡ true
scalar_cased k c e = elim (cases_lt c 128) [
  | inl h ↦ low_scalar (cased k c) (omega (arith, low_cased k c h))
  | inr h ↦ ap scalar (high_cased k c h) ∙ e
]

both_left : (x y : Bool) → (x && y) ≡ true → x ≡ true
both_left true y e = refl
both_left false y e = absurd (cc)

both_right : (x y : Bool) → (x && y) ≡ true → y ≡ true
both_right true y e = e
both_right false y e = absurd (cc)

scalars_cased : (k : Case) (cs : List ℕ) → scalars cs ≡ true → scalars (map (cased k) cs) ≡ true
scalars_cased k [] e = refl
scalars_cased k (c ∷ cs) e =
    rw (scalar_cased k c (both_left (scalar c) (scalars cs) e)) (scalars_cased k cs (both_right (scalar c) (scalars cs) e))

utf8_cased : (k : Case) (bs : List ℕ) → IsUtf8 bs → IsUtf8 (encode_utf8_all (map (cased k) (chars bs)))
utf8_cased k bs u = (map (cased k) (chars bs), (scalars_cased k (chars bs) (scalars-chars bs u), refl))

-- ---- a text that is pushed, and then brought to a case

pub pushed_cased : (k : Case) (old text : List ℕ) → IsUtf8 text → take (length old) (old ++ text) ++ map (cased k) (drop (length old) (old ++ text)) ≡ old ++ encode_utf8_all (map (cased k) (chars text))
pushed_cased k old text u =
    rw (take_front old text (length old) refl, drop_front old text (length old) refl) (ap (λ l. old ++ l) (sym (cased_bytes k text u)))

pub map_length : (f : ℕ → ℕ) (xs : List ℕ) → length (map f xs) ≡ length xs
map_length f [] = refl
map_length f (x ∷ xs) = ap suc (map_length f xs)

pub cased_length : (k : Case) (bs : List ℕ) → IsUtf8 bs → length (encode_utf8_all (map (cased k) (chars bs))) ≡ length bs
cased_length k bs u = ap length (cased_bytes k bs u) ∙ map_length (cased k) bs

pub pushed_utf8 : (k : Case) (old text : List ℕ) → IsUtf8 text → IsUtf8 old → IsUtf8 (old ++ encode_utf8_all (map (cased k) (chars text)))
pushed_utf8 k old text u v = IsUtf8-append old (encode_utf8_all (map (cased k) (chars text))) v (utf8_cased k text u)

pub brought : (k : Case) (old mid new : Room) (text : List ℕ) (n : ℕ) → IsUtf8 text → n ≡ length old.bytes → mid ≡ record { room = old.room; bytes = old.bytes ++ text }
    → new ≡ record { room = mid.room; bytes = take n mid.bytes ++ map (cased k) (drop n mid.bytes) } → new ≡ record { room = old.room; bytes = old.bytes ++ encode_utf8_all (map (cased k) (chars text)) }
brought k old mid new text n u size is after =
    after ∙ rw (is, size) (λ i. record { room = old.room; bytes = pushed_cased k old.bytes text u i })

pub placed : (k : Case) (now : Room) (room n : ℕ) (items whole front back text : List ℕ) → (let r : Room = record { room = room; bytes = items } in r) ≡ now → whole ≡ items → front ≡ take n whole → back ≡ drop n whole → text ≡ map (cased k) back
    → (let r : Room = record { room = room; bytes = front ++ text } in r) ≡ record { room = now.room; bytes = take n now.bytes ++ map (cased k) (drop n now.bytes) }
placed k now room n items whole front back text view w f b t =
    let P : Room → Type 0 = λ r. (let q : Room = record { room = room; bytes = front ++ text } in q) ≡ record { room = r.room; bytes = take n r.bytes ++ map (cased k) (drop n r.bytes) } in
    subst P view (rw (t, b, f, w) refl)

-- ---- equality but for the case

pub same_lower : (xs ys : List ℕ) → IsUtf8 xs → IsUtf8 ys → map to_ascii_lowercase xs ≡ map to_ascii_lowercase ys → map to_ascii_lowercase (chars xs) ≡ map to_ascii_lowercase (chars ys)
same_lower xs ys u v e =
    encodes_same (map (cased Lower) (chars xs)) (map (cased Lower) (chars ys)) (cased_bytes Lower xs u ∙ e ∙ sym (cased_bytes Lower ys v))

pub same_lower_bytes : (xs ys : List ℕ) → IsUtf8 xs → IsUtf8 ys → map to_ascii_lowercase (chars xs) ≡ map to_ascii_lowercase (chars ys) → map to_ascii_lowercase xs ≡ map to_ascii_lowercase ys
same_lower_bytes xs ys u v e = sym (cased_bytes Lower xs u) ∙ ap encode_utf8_all e ∙ cased_bytes Lower ys v

pub same_chars : (xs ys : List ℕ) → IsUtf8 xs → IsUtf8 ys → chars xs ≡ chars ys → xs ≡ ys
same_chars xs ys u v e = sym (encodes-chars xs u) ∙ ap encode_utf8_all e ∙ encodes-chars ys v
