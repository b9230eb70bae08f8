-- Fields and strings that are a slice of their characters.
use Rattle.std.proofs.Common.{◌≡◌, ℕ, suc, ◌+◌, ◌≤◌, ◌<◌, Bool, true, false, ◌||◌, ◌&&◌, ◌==◌, List, [], ◌∷◌, ◌++◌, take, drop, length, refl, sym, ◌∙◌, ap, subst, arith, slice_index, length-append, length-drop}
use Rattle.std.proofs.Math.Seq.{drop-cons}
use Rattle.std.proofs.lemmas.Bool.Decides.{nat_tests}
use Rattle.std.proofs.lemmas.List.{take-append-drop, append-nil, drop_all}
use Rattle.std.proofs.lemmas.Str.{encodes-chars, encode_ascii, chars-append, chars-nil, chars_past_char, IsUtf8-take, IsUtf8-drop, IsCharBoundary-before_ascii, IsCharBoundary-after_ascii}
use Rattle.std.specs.Str.{chars, encode_utf8_all, IsUtf8, NonePass, IsCharBoundary}
use Rattle.std.specs.Char.{encode_utf8}
use Rattle.memchr.specs.Find.{is_byte, is_byte2, Passes, Nowhere, NoneBefore}
use Rattle.text_view.specs.QuotedField.{unquoted, IsPlainField, unclosed_plain, closed_plain}
use Rattle.text_view.specs.JsonString.{unescaped_text}
use Rattle.text_view.proofs.Escapes.{unquoted_nil, unquoted_cons, unescaped_nil}
use Rattle.text_view.proofs.Runs.{all_own, none_right, unquoted_run, unescaped_run, special_low, solidus_low, found_own}

-- an ASCII byte, between the characters before and behind it
pub at_ascii : (bs : List ℕ) (n : ℕ) → IsUtf8 bs → n < length bs → slice_index bs n < 128 → chars bs ≡ chars (take n bs) ++ slice_index bs n ∷ chars (drop (suc n) bs)
at_ascii bs n u l low =
    let at : IsCharBoundary bs n = IsCharBoundary-before_ascii bs n l low in
    let back : drop n bs ≡ slice_index bs n ∷ drop (suc n) bs = drop-cons bs n 0 l in
    let split : drop n bs ≡ encode_utf8 (slice_index bs n) ++ drop (suc n) bs = back ∙ ap (λ e. e ++ drop (suc n) bs) (sym (encode_ascii (slice_index bs n) low)) in
    ap chars (sym (take-append-drop n bs)) ∙ chars-append (take n bs) (drop n bs) (IsUtf8-take bs n u at)
    ∙ ap (λ l. chars (take n bs) ++ l) (chars_past_char (drop n bs) (drop (suc n) bs) (slice_index bs n) (IsUtf8-drop bs n u at) split)

passes_not : (b : Bool) → b ≡ true → b ≡ false → ⊥
passes_not b t f = let e : true ≡ false = sym t ∙ f in absurd (cc)

-- a byte that passes is a character that passes
pub special_there : (p : ℕ → Bool) (bs : List ℕ) (n : ℕ) → ((c : ℕ) → p c ≡ true → c < 128) → IsUtf8 bs → NoneBefore (Passes p bs) 0 (length bs) n × Passes p bs n → NonePass p (chars bs) → ⊥
special_there p bs n low u found own =
    let P : List ℕ → Type 0 = NonePass p in
    let apart : NonePass p (chars (take n bs) ++ slice_index bs n ∷ chars (drop (suc n) bs)) = subst P (at_ascii bs n u found.0.high (low (slice_index bs n) found.1)) own in
    passes_not (p (slice_index bs n)) found.1 (none_right p (chars (take n bs)) (slice_index bs n ∷ chars (drop (suc n) bs)) apart).0

behind_ascii : (bs : List ℕ) (n : ℕ) → IsUtf8 bs → n < length bs → slice_index bs n < 128 → IsUtf8 (drop (suc n) bs)
behind_ascii bs n u l low = let e : n + 1 ≡ suc n = omega arith in let P : ℕ → Type 0 = λ m. IsUtf8 (drop m bs) in subst P e (IsUtf8-drop bs (n + 1) u (IsCharBoundary-after_ascii bs n u l low))

-- ---- strings

pub string_whole : (bs : List ℕ) → IsUtf8 bs → Nowhere (Passes (is_byte 92) bs) 0 (length bs) → NonePass (is_byte 92) (chars bs)
string_whole bs u h = all_own (is_byte 92) bs solidus_low u h

pub string_plain : (cs : List ℕ) → NonePass (is_byte 92) cs → cs ≡ unescaped_text cs
string_plain cs h = sym (ap unescaped_text (sym (append-nil cs)) ∙ unescaped_run cs [] h ∙ ap (λ l. cs ++ l) unescaped_nil ∙ append-nil cs)

-- ---- fields

pub field_plain : (q e : ℕ) (cs : List ℕ) → NonePass (λ c. c == q || c == e) cs → cs ≡ unquoted q e cs
field_plain q e cs h = sym (ap (unquoted q e) (sym (append-nil cs)) ∙ unquoted_run q e cs [] h ∙ ap (λ l. cs ++ l) (unquoted_nil q e) ∙ append-nil cs)

and_false : (b : Bool) → (b && false) ≡ false
and_false true = refl
and_false false = refl

self_test : (q : ℕ) → (q == q) ≡ true
self_test q = grind (arith, nat_tests)

quote_alone : (q e : ℕ) → unquoted q e (q ∷ []) ≡ []
quote_alone q e = unquoted_cons q e q [] ∙ rw (and_false (q == e), self_test q) refl

pub field_closed : (q e : ℕ) (cs : List ℕ) → NonePass (λ c. c == q || c == e) cs → cs ≡ unquoted q e (cs ++ q ∷ [])
field_closed q e cs h = sym (unquoted_run q e cs (q ∷ []) h ∙ ap (λ l. cs ++ l) (quote_alone q e) ∙ append-nil cs)

-- the first that passes is the last of all
record IsLastOne (b q : ℕ) (ys : List ℕ) : Type 0 where
  same : b ≡ q
  none : length ys ≡ 0

last_one : (p : ℕ → Bool) (xs text : List ℕ) (b q : ℕ) (ys : List ℕ) → p b ≡ true → NonePass p text → xs ++ b ∷ ys ≡ text ++ q ∷ [] → IsLastOne b q ys
last_one p [] [] b q ys t h e = record { same = cc; none = ap length (let f : ys ≡ [] = cc in f) }
last_one p [] (c ∷ text) b q ys t h e = let f : b ≡ c = cc in absurd (passes_not (p b) t (ap p f ∙ h.0))
last_one p (x ∷ xs) [] b q ys t h e = let f : xs ++ b ∷ ys ≡ [] = cc in absurd (omega (arith, ap length f, length-append xs (b ∷ ys)))
last_one p (x ∷ xs) (c ∷ text) b q ys t h e = last_one p xs text b q ys t h.1 (let f : xs ++ b ∷ ys ≡ text ++ q ∷ [] = cc in f)

no_chars : (cs bs : List ℕ) → encode_utf8_all cs ≡ bs → length cs ≡ 0 → length bs ≡ 0
no_chars [] bs e h = ap length (sym e)
no_chars (c ∷ cs) bs e h = absurd (omega arith)

-- the first quote or escape is the closing quote at the end
pub record IsClosing (bs : List ℕ) (q n : ℕ) : Type 0 where
  pub quote : slice_index bs n ≡ q
  pub last : length bs ≤ suc n

pub closing : (q e : ℕ) (bs : List ℕ) (n : ℕ) → q < 128 → e < 128 → IsUtf8 bs → NoneBefore (Passes (is_byte2 q e) bs) 0 (length bs) n × Passes (is_byte2 q e) bs n → IsPlainField q e (chars bs) → IsClosing bs q n
closing q e bs n l m u found (unclosed_plain h) = absurd (special_there (is_byte2 q e) bs n (λ c t. special_low q e c l m t) u found h)
closing q e bs n l m u found (closed_plain text h is) =
    let low : slice_index bs n < 128 = special_low q e (slice_index bs n) l m found.1 in
    let at : IsCharBoundary bs n = IsCharBoundary-before_ascii bs n found.0.high low in
    let last : IsLastOne (slice_index bs n) q (chars (drop (suc n) bs)) = last_one (is_byte2 q e) (chars (take n bs)) text (slice_index bs n) q (chars (drop (suc n) bs)) found.1 h (sym (at_ascii bs n u found.0.high low) ∙ is) in
    let u1 : IsUtf8 (drop (suc n) bs) = behind_ascii bs n u found.0.high low in
    record { quote = last.same; last = omega (arith, no_chars (chars (drop (suc n) bs)) (drop (suc n) bs) (encodes-chars (drop (suc n) bs) u1) last.none, length-drop (suc n) bs) }

-- a field whose first quote or escape is its closing quote
pub record Closes (bs : List ℕ) (q e n : ℕ) : Type 0 where
  pub own : NonePass (λ c. c == q || c == e) (chars (take n bs))
  pub whole : chars bs ≡ chars (take n bs) ++ q ∷ []

pub closes : (q e : ℕ) (bs : List ℕ) (n : ℕ) → q < 128 → e < 128 → IsUtf8 bs → NoneBefore (Passes (is_byte2 q e) bs) 0 (length bs) n × Passes (is_byte2 q e) bs n → slice_index bs n ≡ q → length bs ≤ suc n → Closes bs q e n
closes q e bs n l m u found is last =
    let low : slice_index bs n < 128 = special_low q e (slice_index bs n) l m found.1 in
    let ended : chars (drop (suc n) bs) ≡ [] = ap chars (drop_all (suc n) bs last) ∙ chars-nil in
    record {
      own = (found_own (is_byte2 q e) bs n (λ c t. special_low q e c l m t) u found).own;
      whole = at_ascii bs n u found.0.high low ∙ rw (is, ended) refl;
    }

pub field_cut : (q e : ℕ) (bs : List ℕ) (n : ℕ) → Closes bs q e n → chars (take n bs) ≡ unquoted q e (chars bs)
field_cut q e bs n h = field_closed q e (chars (take n bs)) h.own ∙ ap (unquoted q e) (sym h.whole)
