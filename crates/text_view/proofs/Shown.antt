-- The characters that a cursor shows, one step at a time.
use Rattle.std.proofs.Common.{◌≡◌, ℕ, zero, suc, ◌+◌, ◌-◌, ◌*◌, ◌≤◌, List, [], ◌∷◌, ◌++◌, map, take, length, refl, sym, ap, arith}
use Rattle.std.proofs.lemmas.Bool.Decides.{nat_tests}
use Rattle.std.proofs.lemmas.List.{take-map}
use Rattle.std.proofs.lemmas.Str.Ascii.{uppercase-uppercase, lowercase-lowercase, lowercase-uppercase}
use Rattle.std.specs.Str.{chars, chars_after, continuation_len, lead_bits}
use Rattle.std.specs.Char.{to_ascii_uppercase, to_ascii_lowercase}
use Rattle.text_view.specs.declared.cursor.Case.{Case}
use Rattle.text_view.specs.declared.cursor.Case.TheVariants.{Kept, Upper, Lower}
use Rattle.text_view.specs.declared.cursor.Cursor.{Cursor}
use Rattle.text_view.specs.declared.cursor.Escape.{Escape}
use Rattle.text_view.specs.declared.cursor.Escape.TheVariants.{Plain, Quoted, Json}
use Rattle.text_view.specs.Spelled.{shown, cased, spelled, seen}
use Rattle.text_view.proofs.Escapes.{length_unquoted, length_unescaped}

pub shown_nil : (k : Case) → shown k [] ≡ []
unfolding shown
shown_nil k = refl

pub shown_cons : (k : Case) (c : ℕ) (cs : List ℕ) → shown k (c ∷ cs) ≡ cased k c ∷ shown k cs
unfolding shown
shown_cons k c cs = refl

pub ruleset shown_steps = (shown_nil, shown_cons)

-- ---- letter case

uppercase_lowercase : (c : ℕ) → to_ascii_uppercase (to_ascii_lowercase c) ≡ to_ascii_uppercase c
uppercase_lowercase c = grind (arith, nat_tests)

upper_cased : (k : Case) (c : ℕ) → to_ascii_uppercase c ≡ to_ascii_uppercase (cased k c)
upper_cased Kept c = refl
upper_cased Upper c = sym (uppercase-uppercase c)
upper_cased Lower c = sym (uppercase_lowercase c)

lower_cased : (k : Case) (c : ℕ) → to_ascii_lowercase c ≡ to_ascii_lowercase (cased k c)
lower_cased Kept c = refl
lower_cased Upper c = sym (lowercase-uppercase c)
lower_cased Lower c = sym (lowercase-lowercase c)

map_map : (f g h : ℕ → ℕ) → ((c : ℕ) → f c ≡ g (h c)) → (cs : List ℕ) → map f cs ≡ map g (map h cs)
map_map f g h e [] = refl
map_map f g h e (c ∷ cs) = rw (e c, map_map f g h e cs) refl

pub shown_upper : (k : Case) (cs : List ℕ) → shown Upper cs ≡ map to_ascii_uppercase (shown k cs)
unfolding shown
shown_upper k cs = map_map to_ascii_uppercase to_ascii_uppercase (cased k) (upper_cased k) cs

pub shown_lower : (k : Case) (cs : List ℕ) → shown Lower cs ≡ map to_ascii_lowercase (shown k cs)
unfolding shown
shown_lower k cs = map_map to_ascii_lowercase to_ascii_lowercase (cased k) (lower_cased k) cs

-- ---- texts as they are, and in a letter case

map_same : (cs : List ℕ) → map (λ c. c) cs ≡ cs
map_same [] = refl
map_same (c ∷ cs) = ap (λ t. c ∷ t) (map_same cs)

pub shown_kept : (cs : List ℕ) → shown Kept cs ≡ cs
unfolding shown
shown_kept cs = map_same cs

pub shown_text : (k : Case) (cs : List ℕ) → shown k cs ≡ map (cased k) cs
unfolding shown
shown_text k cs = refl

pub shown_append : (k : Case) (xs ys : List ℕ) → shown k (xs ++ ys) ≡ map (cased k) xs ++ shown k ys
unfolding shown
shown_append k [] ys = refl
shown_append k (x ∷ xs) ys = ap (λ l. cased k x ∷ l) (shown_append k xs ys)

pub shown_take : (k : Case) (n : ℕ) (cs : List ℕ) → shown k (take n cs) ≡ take n (shown k cs)
unfolding shown
shown_take k n cs = sym (take-map (cased k) n cs)

-- nothing is shown of no character alone
pub none_shown : (k : Case) (cs : List ℕ) → shown k cs ≡ [] → cs ≡ []
unfolding shown
none_shown k [] h = refl
none_shown k (c ∷ cs) h = absurd (omega (arith, ap length h))

pub length_spelled : (e : Escape) (cs : List ℕ) → length (spelled e cs) ≤ length cs
length_spelled Plain cs = omega arith
length_spelled (Quoted q e) cs = length_unquoted q e cs
length_spelled Json cs = length_unescaped cs

-- ---- no text is longer than the bytes that it stands in

after_short : (n c : ℕ) (bs : List ℕ) → length (chars_after n c bs) ≤ suc (length bs)
after_short zero c [] = omega arith
after_short zero c (b ∷ bs) = omega (arith, after_short (continuation_len b) (lead_bits b) bs)
after_short (suc n) c [] = omega arith
after_short (suc n) c (b ∷ bs) = omega (arith, after_short n (c * 64 + (b - 128)) bs)

pub chars_short : (bs : List ℕ) → length (chars bs) ≤ length bs
unfolding chars
chars_short [] = omega arith
chars_short (b ∷ bs) = after_short (continuation_len b) (lead_bits b) bs

shown_short : (k : Case) (cs : List ℕ) → length (shown k cs) ≤ length cs
unfolding shown
shown_short k [] = omega arith
shown_short k (c ∷ cs) = omega (arith, shown_short k cs)

pub length_seen : (c : Cursor) → length (seen c) ≤ length c.rest.now
length_seen c = omega (arith, shown_short c.case (spelled c.escape (chars c.rest.now)), length_spelled c.escape (chars c.rest.now), chars_short c.rest.now)
