-- A walk over the bytes of a line goes as one over its characters.
use Rattle.std.proofs.Common.{◌↔◌, ◌≡◌, ◌≢◌, ℕ, suc, ◌≤◌, ◌<◌, Bool, true, false, cond, ◌&&◌, ◌||◌, ◌==◌, List, [], ◌∷◌, ◌++◌, map, drop, length, slice_index, refl, sym, ◌∙◌, ap, subst, arith, ⊎_elim}
use Rattle.std.proofs.lemmas.Bool.{cases_lt}
use Rattle.std.proofs.lemmas.List.{append-nil}
use Rattle.std.proofs.lemmas.Str.{chars-nil, chars-append, encode_ascii, IsUtf8-encode, inside_one, encodes-chars, scalars-chars, chars_past_char, length-encode, len_utf8_bounds, byte_from_char}
use Rattle.std.specs.Str.{chars, encode_utf8_all, IsUtf8}
use Rattle.std.proofs.Math.Utf8.{scalar, scalars}
use Rattle.std.specs.Char.{encode_utf8, IsScalar}
use Rattle.std.specs.List.{onto_first}
use Rattle.csv_cutter.specs.declared.dialect.Dialect.{Dialect}
use Rattle.csv_cutter.specs.declared.walk.State.{State}
use Rattle.csv_cutter.specs.declared.walk.State.TheVariants.{Start, Tail, Inside, Paired, Comment}
use Rattle.csv_cutter.specs.Fields.{begins_with}
use Rattle.csv_cutter.specs.Reading.{IsPlainSpelled}
use Rattle.text_view.specs.QuotedField.{IsPlainField}
use Rattle.csv_cutter.specs.Walk.{is_outside, special, is_cut, step, cut_from, cut_fields, Goes, onto}
use Rattle.csv_cutter.proofs.Characters.{eq_not, eq_is, IsApart}
use Rattle.csv_cutter.proofs.Lines.{goes_cut, goes_one, onto_cons, cut_nil, cut_here, cut_onwards}

-- bytes of characters past ASCII
abbrev AreHigh : List ℕ → Type 0
AreHigh [] = Unit {0}
AreHigh (b ∷ bs) = (128 ≤ b) × AreHigh bs

high_by_index : (bs : List ℕ) → ((k : ℕ) → k < length bs → 128 ≤ slice_index bs k) → AreHigh bs
high_by_index [] h = tt
high_by_index (b ∷ bs) h = (h 0 (omega arith), high_by_index bs (λ k l. h (suc k) (omega arith)))

encoded_high : (c : ℕ) → 128 ≤ c → AreHigh (encode_utf8 c)
encoded_high c h =
    high_by_index (encode_utf8 c)
    (λ k l. ⊎_elim
    (λ low. let same = inside_one c [] (encode_utf8 c) k (sym (append-nil (encode_utf8 c))) l low in absurd (omega arith))
    (λ high. high) (cases_lt (slice_index (encode_utf8 c) k) 128))

-- the state behind a character that has no meaning of its own
abbrev settled : State → State
settled Start = Tail
settled Tail = Tail
settled Inside = Inside
settled Paired = Inside
settled Comment = Comment

and_none : (x y : Bool) → y ≡ false → (x && y) ≡ false
and_none true y e = e
and_none false y e = refl

none_and : (x y : Bool) → x ≡ false → (x && y) ≡ false
none_and true y e = absurd (cc)
none_and false y e = refl

high_cut : (d : Dialect) → IsApart d → (s : State) (b : ℕ) → 128 ≤ b → is_cut d s b ≡ false
high_cut d a s b h = and_none (is_outside s) (b == d.field) (eq_not b d.field (λ e. omega (arith, a.field)))

high_step : (d : Dialect) → IsApart d → (s : State) (b : ℕ) (x : Bool) → 128 ≤ b → step d s b x ≡ settled s
high_step d a Start b x h =
    ap (λ t. cond t Start (cond (b == d.quote) Inside Tail)) (eq_not b d.field (λ e. omega (arith, a.field)))
    ∙ ap (λ t. cond t Inside Tail) (eq_not b d.quote (λ e. omega (arith, a.quote)))
high_step d a Tail b x h = ap (λ t. cond t Start Tail) (eq_not b d.field (λ e. omega (arith, a.field)))
high_step d a Inside b x h =
    ap (λ t. cond t Paired (cond (b == d.quote) Tail Inside)) (none_and (b == d.escape) x (eq_not b d.escape (λ e. omega (arith, a.escape))))
    ∙ ap (λ t. cond t Tail Inside) (eq_not b d.quote (λ e. omega (arith, a.quote)))
high_step d a Paired b x h = refl
high_step d a Comment b x h = refl

settled_twice : (s : State) → settled (settled s) ≡ settled s
settled_twice Start = refl
settled_twice Tail = refl
settled_twice Inside = refl
settled_twice Paired = refl
settled_twice Comment = refl

more_high : (d : Dialect) → IsApart d → (s : State) (bs rest : List ℕ) → settled s ≡ s → AreHigh bs → Goes d s bs rest s
more_high d a s [] rest e h = refl
more_high d a s (b ∷ bs) rest e h =
    goes_one d s s s b bs rest (high_cut d a s b h.0) (high_step d a s b (special d (bs ++ rest)) h.0 ∙ e) (more_high d a s bs rest e h.1)

high_goes : (d : Dialect) → IsApart d → (s : State) (b : ℕ) (bs rest : List ℕ) → AreHigh (b ∷ bs) → Goes d s (b ∷ bs) rest (settled s)
high_goes d a s b bs rest h =
    goes_one d s (settled s) (settled s) b bs rest (high_cut d a s b h.0) (high_step d a s b (special d (bs ++ rest)) h.0)
    (more_high d a (settled s) bs rest (settled_twice s) h.1)

-- ---- one character

not_special : (d : Dialect) → IsApart d → (b : ℕ) → 128 ≤ b → (b == d.quote || b == d.escape) ≡ false
not_special d a b h = rw (eq_not b d.quote (λ e. omega (arith, a.quote)), eq_not b d.escape (λ e. omega (arith, a.escape))) refl

high_front : (d : Dialect) → IsApart d → (bs rest : List ℕ) → 0 < length bs → AreHigh bs → special d (bs ++ rest) ≡ false
high_front d a [] rest l h = absurd (omega arith)
high_front d a (b ∷ bs) rest l h = not_special d a b h.0

encoded_some : (c : ℕ) → 0 < length (encode_utf8 c)
encoded_some c = omega (arith, length-encode c, (len_utf8_bounds c).0)

special_encoded : (d : Dialect) → IsApart d → (cs : List ℕ) → special d (encode_utf8_all cs) ≡ special d cs
special_encoded d a [] = refl
special_encoded d a (c ∷ cs) =
    ⊎_elim (λ low. ap (λ bs. special d (bs ++ encode_utf8_all cs)) (encode_ascii c low))
    (λ high. high_front d a (encode_utf8 c) (encode_utf8_all cs) (encoded_some c) (encoded_high c high) ∙ sym (not_special d a c high)) (cases_lt c 128)

char_goes : (d : Dialect) → IsApart d → (s : State) (c : ℕ) (cs : List ℕ) → is_cut d s c ≡ false
    → Goes d s (encode_utf8 c) (encode_utf8_all cs) (step d s c (special d cs))
char_goes d a s c cs h =
    ⊎_elim
    (λ low.
    let P : List ℕ → Type 0 = λ bs. Goes d s bs (encode_utf8_all cs) (step d s c (special d cs)) in
    subst P (sym (encode_ascii c low)) (goes_one d s (step d s c (special d cs)) (step d s c (special d cs)) c [] (encode_utf8_all cs) h (ap (step d s c) (special_encoded d a cs)) refl))
    (λ high. by_bytes high (encode_utf8 c) refl (encoded_some c) (encoded_high c high)) (cases_lt c 128)
  where
    by_bytes : 128 ≤ c → (bs : List ℕ) → encode_utf8 c ≡ bs → 0 < length bs → AreHigh bs → Goes d s bs (encode_utf8_all cs) (step d s c (special d cs))
    by_bytes high [] e l g = absurd (omega arith)
    by_bytes high (b ∷ bs) e l g =
        let P : State → Type 0 = Goes d s (b ∷ bs) (encode_utf8_all cs) in
        subst P (sym (high_step d a s c (special d cs) high)) (high_goes d a s b bs (encode_utf8_all cs) g)

-- ---- a whole line

-- a walk cuts off one part at least
pub record HasFirst (parts : List (List ℕ)) : Type 0 where
  pub first : List ℕ
  pub others : List (List ℕ)
  pub is : parts ≡ first ∷ others

onto_one : (c : ℕ) (parts : List (List ℕ)) → HasFirst (onto_first c parts)
onto_one c [] = record { first = c ∷ []; others = []; is = refl }
onto_one c (p ∷ ps) = record { first = c ∷ p; others = ps; is = refl }

along : (parts other : List (List ℕ)) → parts ≡ other → HasFirst other → HasFirst parts
along parts other e h = record { first = h.first; others = h.others; is = e ∙ h.is }

pub has_first : (d : Dialect) (s : State) (cs : List ℕ) → HasFirst (cut_from d s cs)
has_first d s [] = along (cut_from d s []) ([] ∷ []) (cut_nil d s) (record { first = []; others = []; is = refl })
has_first d s (c ∷ cs) = by_cut (is_cut d s c) refl
  where
    by_cut : (b : Bool) → is_cut d s c ≡ b → HasFirst (cut_from d s (c ∷ cs))
    by_cut true e = along (cut_from d s (c ∷ cs)) ([] ∷ cut_from d Start cs) (cut_here d s c cs e) (record { first = []; others = cut_from d Start cs; is = refl })
    by_cut false e =
        along (cut_from d s (c ∷ cs)) (onto_first c (cut_from d (step d s c (special d cs)) cs)) (cut_onwards d s c cs e) (onto_one c (cut_from d (step d s c (special d cs)) cs))

one_char : (c : ℕ) → IsScalar c → chars (encode_utf8 c) ≡ c ∷ []
one_char c s =
    ap chars (sym (append-nil (encode_utf8 c))) ∙ chars_past_char (encode_utf8 c ++ []) [] c (let P : List ℕ → Type 0 = IsUtf8 in subst P (sym (append-nil (encode_utf8 c))) (IsUtf8-encode c s)) refl
    ∙ ap (λ l. c ∷ l) chars-nil

chars_onto : (c : ℕ) (parts : List (List ℕ)) → IsScalar c → HasFirst parts → map chars (onto (encode_utf8 c) parts) ≡ onto_first c (map chars parts)
chars_onto c parts s h =
    ap (λ l. map chars (onto (encode_utf8 c) l)) h.is ∙ ap (map chars) (onto_cons (encode_utf8 c) h.first h.others)
    ∙ ap (λ l. l ∷ map chars h.others) (chars-append (encode_utf8 c) h.first (IsUtf8-encode c s) ∙ ap (λ l. l ++ chars h.first) (one_char c s))
    ∙ ap (λ l. onto_first c (map chars l)) (sym h.is)

scalar_front : (x y : Bool) → (x && y) ≡ true → x ≡ true
scalar_front true y e = refl
scalar_front false y e = absurd (cc)

scalar_rest : (x y : Bool) → (x && y) ≡ true → y ≡ true
scalar_rest true y e = e
scalar_rest false y e = absurd (cc)

pub cut_encoded : (d : Dialect) → IsApart d → (s : State) (cs : List ℕ) → scalars cs ≡ true → map chars (cut_from d s (encode_utf8_all cs)) ≡ cut_from d s cs
cut_encoded d a s [] h = ap (map chars) (cut_nil d s) ∙ ap (λ l. l ∷ []) chars-nil ∙ sym (cut_nil d s)
cut_encoded d a s (c ∷ cs) h =
    by_cut (λ t. cut_encoded d a t cs (scalar_rest (scalar c) (scalars cs) h)) (is_cut d s c) refl
  where
    by_cut : ((t : State) → map chars (cut_from d t (encode_utf8_all cs)) ≡ cut_from d t cs) → (b : Bool) → is_cut d s c ≡ b
        → map chars (cut_from d s (encode_utf8 c ++ encode_utf8_all cs)) ≡ cut_from d s (c ∷ cs)
    by_cut ih true e =
        let low : c < 128 = omega (arith, a.field, eq_is c d.field (scalar_rest (is_outside s) (c == d.field) e)) in
        ap (λ bs. map chars (cut_from d s (bs ++ encode_utf8_all cs))) (encode_ascii c low)
        ∙ ap (map chars) (cut_here d s c (encode_utf8_all cs) e) ∙ ap (λ l. l ∷ map chars (cut_from d Start (encode_utf8_all cs))) chars-nil
        ∙ ap (λ l. [] ∷ l) (ih Start) ∙ sym (cut_here d s c cs e)
    by_cut ih false e =
        let t : State = step d s c (special d cs) in
        ap (map chars) (goes_cut d s (encode_utf8 c) (encode_utf8_all cs) t (char_goes d a s c cs e))
        ∙ chars_onto c (cut_from d t (encode_utf8_all cs)) (scalar_front (scalar c) (scalars cs) h) (has_first d t (encode_utf8_all cs))
        ∙ ap (onto_first c) (ih t) ∙ sym (cut_onwards d s c cs e)

-- the spelled fields of a line in UTF-8, in characters
pub cut_chars : (d : Dialect) → IsApart d → (line : List ℕ) → IsUtf8 line → map chars (cut_fields d line) ≡ cut_fields d (chars line)
cut_chars d a line u =
    ap (λ l. map chars (cut_fields d l)) (sym (encodes-chars line u)) ∙ cut_encoded d a Start (chars line) (scalars-chars line u)

-- ---- the quote that a field begins with

pub quote_front : (bs : List ℕ) (q : ℕ) → IsUtf8 bs → q < 128 → 0 < length bs → slice_index bs 0 ≡ q → chars bs ≡ q ∷ chars (drop 1 bs)
quote_front [] q u low l e = absurd (omega arith)
quote_front (b ∷ bs) q u low l e = chars_past_char (b ∷ bs) bs q u (ap (λ x. x ∷ bs) e ∙ ap (λ l. l ++ bs) (sym (encode_ascii q low)))

other_front : (bs cs : List ℕ) (q : ℕ) → q < 128 → encode_utf8_all cs ≡ bs → slice_index bs 0 ≢ q → begins_with q cs ≡ false
other_front bs [] q low e h = refl
other_front bs (c ∷ cs) q low e h = by_test (c == q) refl
  where
    by_test : (b : Bool) → (c == q) ≡ b → (c == q) ≡ false
    by_test true t = let same : c ≡ q = eq_is c q t in absurd (h (byte_from_char bs (encode_utf8_all cs) c (sym e) (omega arith) ∙ same))
    by_test false t = t

pub no_quote_front : (bs : List ℕ) (q : ℕ) → IsUtf8 bs → q < 128 → (0 < length bs → slice_index bs 0 ≢ q) → begins_with q (chars bs) ≡ false
no_quote_front [] q u low h = ap (begins_with q) chars-nil
no_quote_front (b ∷ bs) q u low h = other_front (b ∷ bs) (chars (b ∷ bs)) q low (encodes-chars (b ∷ bs) u) (h (omega arith))

-- a field behind its quote is a slice of itself exactly where the whole field is
pub plain_behind : (d : Dialect) (spelled raw : List ℕ) (P : Type 0) → spelled ≡ d.quote ∷ raw → P ↔ IsPlainField d.quote d.escape raw → P ↔ IsPlainSpelled d spelled
plain_behind d spelled raw P e h =
    let Q : List ℕ → Type 0 = IsPlainSpelled d in
    ((λ p. subst Q (sym e) (λ same. h.0 p)), λ q. h.1 (let all : IsPlainSpelled d (d.quote ∷ raw) = subst Q e q in all refl))
