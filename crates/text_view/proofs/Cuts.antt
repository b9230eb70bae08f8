-- A lent text that is cut where a step ends spells a front of its characters.
use Rattle.std.proofs.Common.{◌≡◌, ℕ, zero, suc, ◌+◌, ◌-◌, ◌≤◌, ◌<◌, ◌≢◌, inl, inr, Option, Some, None, IfSome, Bool, true, false, cond, ◌==◌, ◌&&◌, nat_lt, List, [], ◌∷◌, ◌++◌, take, drop, length, refl, sym, ◌∙◌, ap, subst, arith, append_assoc, length-append, length-take, slice_index}
use Rattle.std.proofs.lemmas.Bool.{cases_lt}
use Rattle.std.proofs.lemmas.Bool.Decides.{nat_tests}
use Rattle.std.proofs.lemmas.List.{take-append-drop, append-nil, append_cancel_right, take_all, drop_all}
use Rattle.std.proofs.lemmas.Str.{encodes-chars, encodes-append, chars-append, IsUtf8-take, IsCharBoundary-at_seam}
use Rattle.std.specs.Str.{chars, encode_utf8_all, IsUtf8, IsCharBoundary}
use Rattle.std.specs.Char.{digit_value}
use Rattle.text_view.specs.declared.cursor.Escape.{Escape}
use Rattle.text_view.specs.declared.cursor.Escape.TheVariants.{Plain, Quoted, Json}
use Rattle.text_view.specs.declared.cursor.Case.{Case}
use Rattle.text_view.specs.declared.cursor.Cursor.{Cursor}
use Rattle.text_view.specs.declared.cursor.Step.{Step}
use Rattle.text_view.specs.QuotedField.{unquoted, begins_special}
use Rattle.text_view.specs.JsonString.{has_code, hex_in, hex_value, is_high_surrogate, is_low_surrogate, is_letter, pair_value, take_escape, take_code, take_pair, take_letter, take_char, Taken, unescaped_text, solidus_alone}
use Rattle.text_view.specs.Spelled.{spelled, shown, seen}
use Rattle.text_view.specs.Fronts.{Walks, CutsBefore, EndsIn}
use Rattle.text_view.proofs.Counts.{take_front, drop_front}
use Rattle.text_view.proofs.Escapes.{unquoted_nil, unquoted_cons, unescaped_nil, unescaped_cons, unescaped_other}
use Rattle.text_view.proofs.Shown.{shown_take, none_shown}

-- ---- walks

pub walks_none : (e : Escape) (cs : List ℕ) → Walks e cs 0 e cs
walks_none e cs = record { passed = []; text = []; split = refl; size = refl; fronts = λ front back h. refl }

pub walks_on : (a b c : Escape) (cs mid rest : List ℕ) (n : ℕ) → Walks a cs n b mid → Walks b mid 1 c rest → Walks a cs (n + 1) c rest
walks_on a b c cs mid rest n w v = record {
  passed = w.passed ++ v.passed;
  text = w.text ++ v.text;
  split = w.split ∙ ap (λ l. w.passed ++ l) v.split ∙ sym (append_assoc w.passed v.passed rest);
  size = omega (arith, length-append w.text v.text, w.size, v.size);
  fronts = λ front back h.
      ap (spelled a) (append_assoc w.passed v.passed front)
      ∙ w.fronts (v.passed ++ front) back (v.split ∙ ap (λ l. v.passed ++ l) h ∙ sym (append_assoc v.passed front back))
      ∙ ap (λ l. w.text ++ l) (v.fronts front back h)
      ∙ sym (append_assoc w.text v.text (spelled c front));
}

nothing : (e : Escape) → spelled e [] ≡ []
nothing Plain = refl
nothing (Quoted q e) = unquoted_nil q e
nothing Json = unescaped_nil

-- what was passed spells what was read
alone : (a b : Escape) (cs rest : List ℕ) (n : ℕ) (w : Walks a cs n b rest) → spelled a w.passed ≡ w.text
alone a b cs rest n w =
    ap (spelled a) (sym (append-nil w.passed)) ∙ w.fronts [] rest refl ∙ ap (λ l. w.text ++ l) (nothing b) ∙ append-nil w.text

whole : (a b : Escape) (cs rest : List ℕ) (n : ℕ) (w : Walks a cs n b rest) → spelled a cs ≡ w.text ++ spelled b rest
whole a b cs rest n w = ap (spelled a) w.split ∙ w.fronts rest [] (sym (append-nil rest))

-- a loop's steps, counted from the end
pub walks_begin : (e : Escape) (cs : List ℕ) (n : ℕ) → Walks e cs (n - n) e cs
walks_begin e cs n = let z : n - n ≡ 0 = omega arith in rw z (walks_none e cs)

pub walks_more : (a b c : Escape) (cs mid rest : List ℕ) (n left : ℕ) → 0 < left → left ≤ n → Walks a cs (n - left) b mid → Walks b mid 1 c rest → Walks a cs (n - (left - 1)) c rest
walks_more a b c cs mid rest n left h k w v = let z : n - (left - 1) ≡ (n - left) + 1 = omega arith in rw z (walks_on a b c cs mid rest (n - left) w v)

pub dropped : (left c : ℕ) (was now all : List ℕ) → 0 < left → was ≡ c ∷ now → drop left was ≡ all → drop (left - 1) now ≡ all
dropped zero c was now all h e d = absurd (omega arith)
dropped (suc n) c was now all h e d = let z : suc n - 1 ≡ n = omega arith in rw z (sym (ap (drop (suc n)) e) ∙ d)

pub cuts_behind : (a b : Escape) (cs rest : List ℕ) (n : ℕ) → Walks a cs n b rest → CutsBefore a cs n rest
cuts_behind a b cs rest n w = record {
  passed = w.passed;
  split = w.split;
  front = alone a b cs rest n w ∙ sym (ap (take n) (whole a b cs rest n w) ∙ take_front w.text (spelled b rest) n w.size);
}

-- nothing was left to come
pub cuts_ended : (a b : Escape) (cs rest : List ℕ) (n count : ℕ) → Walks a cs n b rest → n ≤ count → spelled b rest ≡ [] → CutsBefore a cs count rest
cuts_ended a b cs rest n count w fits ended =
    let all : spelled a cs ≡ w.text = whole a b cs rest n w ∙ ap (λ l. w.text ++ l) ended ∙ append-nil w.text in
    let short : length (spelled a cs) ≤ count = omega (arith, ap length all, w.size) in
    record { passed = w.passed; split = w.split; front = alone a b cs rest n w ∙ sym all ∙ sym (take_all count (spelled a cs) short) }

pub cuts_stopped : (e : Escape) (cs : List ℕ) (was now : Cursor) (n left : ℕ) → Walks e cs (n - left) was.escape (chars was.rest.now) → seen was ≡ [] → now ≡ was → CutsBefore e cs n (chars now.rest.now)
cuts_stopped e cs was now n left w ended same =
    let P : Cursor → Type 0 = λ (c : Cursor). CutsBefore e cs n (chars c.rest.now) in
    subst P (sym same) (cuts_ended e was.escape cs (chars was.rest.now) (n - left) n w (omega arith) (none_shown was.case (spelled was.escape (chars was.rest.now)) ended))

pub shows_front : (k : Case) (e : Escape) (cs front rest : List ℕ) (n : ℕ) → CutsBefore e cs n rest → cs ≡ front ++ rest → shown k (spelled e front) ≡ take n (shown k (spelled e cs))
shows_front k e cs front rest n c split =
    let same : front ≡ c.passed = append_cancel_right front c.passed rest (sym split ∙ c.split) in
    ap (shown k) (ap (spelled e) same ∙ c.front) ∙ shown_take k n (spelled e cs)

-- ---- the bytes before an end of the text

pub record SplitsAt (text : List ℕ) (ending : List ℕ) (place : ℕ) : Type 0 where
  pub boundary : IsCharBoundary text place
  pub within : length ending ≤ length text
  pub parts : chars text ≡ chars (take place text) ++ chars ending

pub splits_at : (text ending : List ℕ) (place : ℕ) → IsUtf8 text → IsUtf8 ending → EndsIn (chars text) (chars ending) → place ≡ length text - length ending → SplitsAt text ending place
splits_at text ending place u v ends at =
    let bytes : List ℕ = encode_utf8_all ends.front in
    let split : text ≡ bytes ++ ending = sym (encodes-chars text u) ∙ ap encode_utf8_all ends.split ∙ encodes-append ends.front (chars ending) ∙ ap (λ l. bytes ++ l) (encodes-chars ending v) in
    let size : place ≡ length bytes = omega (arith, at, ap length split, length-append bytes ending) in
    let boundary : IsCharBoundary text place = subst (IsCharBoundary text) (sym size) (IsCharBoundary-at_seam text bytes ending split v) in
    let front : IsUtf8 (take place text) = IsUtf8-take text place u boundary in
    let back : drop place text ≡ ending = ap (drop place) split ∙ drop_front bytes ending place (sym size) in
    record {
      boundary = boundary;
      within = omega (arith, ap length split, length-append bytes ending);
      parts = ap chars (sym (take-append-drop place text)) ∙ chars-append (take place text) (drop place text) front ∙ ap (λ l. chars (take place text) ++ chars l) back;
    }

-- ---- one step of each spelling

pub walks_plain : (cs rest : List ℕ) (c : ℕ) → cs ≡ c ∷ rest → Walks Plain cs 1 Plain rest
walks_plain cs rest c split = record { passed = c ∷ []; text = c ∷ []; split = split; size = refl; fronts = λ front back h. refl }

-- an escape before a quote or an escape
pub walks_escaped : (q e : ℕ) (cs left rest : List ℕ) (first second : ℕ) → cs ≡ first ∷ left → left ≡ second ∷ rest → (first == e && begins_special q e left) ≡ true
    → Walks (Quoted q e) cs 1 (Quoted q e) rest
walks_escaped q e cs left rest first second split further special = record {
  passed = first ∷ second ∷ [];
  text = second ∷ [];
  split = split ∙ ap (λ l. first ∷ l) further;
  size = refl;
  fronts = λ front back h.
      let test : (first == e && begins_special q e (second ∷ front)) ≡ true = ap (λ l. first == e && begins_special q e l) (sym further) ∙ special in
      unquoted_cons q e first (second ∷ front) ∙ rw test refl;
}

none_special : (q e : ℕ) (front back : List ℕ) → begins_special q e (front ++ back) ≡ false → begins_special q e front ≡ false
none_special q e [] back h = refl
none_special q e (c ∷ front) back h = h

falls : (x y z : Bool) → (x && y) ≡ false → (y ≡ false → z ≡ false) → (x && z) ≡ false
falls false y z h g = refl
falls true y z h g = g h

-- no escape: so before each front of what follows
unescaped_front : (q e first : ℕ) (left front back : List ℕ) → (first == e && begins_special q e left) ≡ false → left ≡ front ++ back → (first == e && begins_special q e front) ≡ false
unescaped_front q e first left front back h split =
    falls (first == e) (begins_special q e left) (begins_special q e front) h (λ g. none_special q e front back (ap (begins_special q e) (sym split) ∙ g))

is_same : (a b : ℕ) → a ≡ b → (a == b) ≡ true
is_same a b h = grind (arith, nat_tests)

is_other : (a b : ℕ) → a ≢ b → (a == b) ≡ false
is_other a b h = grind (arith, nat_tests)

-- the closing quote, and the first character behind it
pub walks_closing : (q e : ℕ) (cs left rest : List ℕ) (first : ℕ) (behind : Escape) → cs ≡ first ∷ left → (first == e && begins_special q e left) ≡ false → first ≡ q
    → Walks Plain left 1 behind rest → Walks (Quoted q e) cs 1 behind rest
walks_closing q e cs left rest first behind split lone quote w = record {
  passed = first ∷ w.passed;
  text = w.text;
  split = split ∙ ap (λ l. first ∷ l) w.split;
  size = w.size;
  fronts = λ front back h.
      let test : (first == e && begins_special q e (w.passed ++ front)) ≡ false =
      unescaped_front q e first left (w.passed ++ front) back lone (w.split ∙ ap (λ l. w.passed ++ l) h ∙ sym (append_assoc w.passed front back)) in
      unquoted_cons q e first (w.passed ++ front) ∙ rw (test, is_same first q quote) (w.fronts front back h);
}

pub closing_step : (q e : ℕ) (cs left : List ℕ) (first : ℕ) (r : Option Step) → cs ≡ first ∷ left → (first == e && begins_special q e left) ≡ false → first ≡ q
    → IfSome r (λ s. Walks Plain left 1 s.escape (chars s.rest.now)) → IfSome r (λ s. Walks (Quoted q e) cs 1 s.escape (chars s.rest.now))
closing_step q e cs left first None split lone quote h = tt
closing_step q e cs left first (Some s) split lone quote h = walks_closing q e cs left (chars s.rest.now) first s.escape split lone quote h

-- a character that stands for itself
pub walks_single : (q e : ℕ) (cs rest : List ℕ) (first : ℕ) → cs ≡ first ∷ rest → (first == e && begins_special q e rest) ≡ false → first ≢ q
    → Walks (Quoted q e) cs 1 (Quoted q e) rest
walks_single q e cs rest first split lone other = record {
  passed = first ∷ [];
  text = first ∷ [];
  split = split;
  size = refl;
  fronts = λ front back h.
      let test : (first == e && begins_special q e front) ≡ false = unescaped_front q e first rest front back lone h in
      unquoted_cons q e first front ∙ rw (test, is_other first q other) refl;
}

-- ---- JSON strings: an escape is told by its own characters alone

and_false : (x y : Bool) → y ≡ false → (x && y) ≡ false
and_false true y h = h
and_false false y h = refl

first_false : (x y : Bool) → x ≡ false → (x && y) ≡ false
first_false x y h = rw h refl

abbrev hex : ℕ → Bool
hex c = nat_lt (digit_value c) 16

short_code : (cs : List ℕ) → length cs < 5 → has_code cs ≡ false
short_code [] h = refl
short_code (a ∷ []) h = and_false (a == 117) false refl
short_code (a ∷ b ∷ []) h = and_false (a == 117) (hex b && false) (and_false (hex b) false refl)
short_code (a ∷ b ∷ c ∷ []) h = and_false (a == 117) (hex b && (hex c && false)) (and_false (hex b) (hex c && false) (and_false (hex c) false refl))
short_code (a ∷ b ∷ c ∷ d ∷ []) h =
    and_false (a == 117) (hex b && (hex c && (hex d && false))) (and_false (hex b) (hex c && (hex d && false)) (and_false (hex c) (hex d && false) (and_false (hex d) false refl)))
short_code (a ∷ b ∷ c ∷ d ∷ e ∷ cs) h = absurd (omega arith)

-- one of two, where those that reach no further agree
choose : (b : Bool) (x y z : Taken) (n : ℕ) → (cond b y z).further ≤ n → (y.further ≤ n → x ≡ y) → cond b x z ≡ cond b y z
choose true x y z n h same = same h
choose false x y z n h same = refl

abbrev pair_test : List ℕ → Bool
pair_test rest = slice_index rest 0 == 92 && (has_code (drop 1 rest) && is_low_surrogate (hex_value (hex_in (drop 1 rest))))

abbrev pair_or : Bool → ℕ → Taken
pair_or test value = cond test (record { character = value; further = 11 }) solidus_alone

no_pair : (test : Bool) (value n : ℕ) → (pair_or test value).further ≤ 5 + n → n < 6 → pair_or test value ≡ solidus_alone
no_pair true value n h k = absurd (omega arith)
no_pair false value n h k = refl

short_rest : (rest : List ℕ) → length rest < 6 → length (drop 1 rest) < 5
short_rest [] h = omega arith
short_rest (c ∷ cs) h = omega arith

pair_short : (high : ℕ) (front back : List ℕ) → length front < 6 → (take_pair high (front ++ back)).further ≤ 5 + length front → take_pair high front ≡ take_pair high (front ++ back)
pair_short high front back short h =
    let ahead : Bool = has_code (drop 1 front) in
    let low : Bool = is_low_surrogate (hex_value (hex_in (drop 1 front))) in
    let test : pair_test front ≡ false = and_false (slice_index front 0 == 92) (ahead && low) (first_false ahead low (short_code (drop 1 front) (short_rest front short))) in
    ap (λ b. pair_or b (pair_value high (hex_value (hex_in (drop 1 front))))) test
    ∙ sym (no_pair (pair_test (front ++ back)) (pair_value high (hex_value (hex_in (drop 1 (front ++ back))))) (length front) h short)

pair_front : (high : ℕ) (front back : List ℕ) → (take_pair high (front ++ back)).further ≤ 5 + length front → take_pair high front ≡ take_pair high (front ++ back)
pair_front high (x ∷ a ∷ b ∷ c ∷ d ∷ e ∷ front) back h = refl
pair_front high [] back h = pair_short high [] back (omega arith) h
pair_front high (x ∷ []) back h = pair_short high (x ∷ []) back (omega arith) h
pair_front high (x ∷ a ∷ []) back h = pair_short high (x ∷ a ∷ []) back (omega arith) h
pair_front high (x ∷ a ∷ b ∷ []) back h = pair_short high (x ∷ a ∷ b ∷ []) back (omega arith) h
pair_front high (x ∷ a ∷ b ∷ c ∷ []) back h = pair_short high (x ∷ a ∷ b ∷ c ∷ []) back (omega arith) h
pair_front high (x ∷ a ∷ b ∷ c ∷ d ∷ []) back h = pair_short high (x ∷ a ∷ b ∷ c ∷ d ∷ []) back (omega arith) h

code_front : (unit : ℕ) (front back : List ℕ) → (take_code unit (front ++ back)).further ≤ 5 + length front → take_code unit front ≡ take_code unit (front ++ back)
code_front unit front back h =
    choose (is_high_surrogate unit) (take_pair unit front) (take_pair unit (front ++ back)) (cond (is_low_surrogate unit) solidus_alone (record { character = unit; further = 5 })) (5 + length front) h (pair_front unit front back)

-- an escape that takes fewer than five is none with a code
pair_small : (test : Bool) (value : ℕ) → (pair_or test value).further < 5 → pair_or test value ≡ solidus_alone
pair_small true value h = absurd (omega arith)
pair_small false value h = refl

one_small : (low : Bool) (unit : ℕ) → (cond low solidus_alone (record { character = unit; further = 5 })).further < 5 → cond low solidus_alone (record { character = unit; further = 5 }) ≡ solidus_alone
one_small true unit h = refl
one_small false unit h = absurd (omega arith)

by_half : (high low : Bool) (pair : Taken) (unit : ℕ) → (cond high pair (cond low solidus_alone (record { character = unit; further = 5 }))).further < 5 → (pair.further < 5 → pair ≡ solidus_alone) → cond high pair (cond low solidus_alone (record { character = unit; further = 5 })) ≡ solidus_alone
by_half true low pair unit h small = small h
by_half false low pair unit h small = one_small low unit h

code_small : (unit : ℕ) (rest : List ℕ) → (take_code unit rest).further < 5 → take_code unit rest ≡ solidus_alone
code_small unit rest h =
    by_half (is_high_surrogate unit) (is_low_surrogate unit) (take_pair unit rest) unit h (pair_small (pair_test rest) (pair_value unit (hex_value (hex_in (drop 1 rest)))))

abbrev letter_or : Bool → ℕ → Taken
letter_or test value = cond test (record { character = value; further = 1 }) solidus_alone

letter_none : (test : Bool) (value : ℕ) → (letter_or test value).further ≤ 0 → letter_or test value ≡ solidus_alone
letter_none true value h = absurd (omega arith)
letter_none false value h = refl

equal_u : (c : ℕ) → (c == 117) ≡ true → c ≡ 117
equal_u c h = grind (arith, nat_tests)

letter_u : (c : ℕ) → (c == 117) ≡ true → take_letter c ≡ solidus_alone
letter_u c h = let e : c ≡ 117 = equal_u c h in rw e refl

first_true : (x y : Bool) → (x && y) ≡ true → x ≡ true
first_true true y h = refl
first_true false y h = h

-- a front with no room for a code
short_escape : (code : Taken) (has : Bool) (front back : List ℕ) → length front < 5 → has_code (front ++ back) ≡ has → (cond has code (take_letter (slice_index (front ++ back) 0))).further ≤ length front → (code.further < 5 → code ≡ solidus_alone)
    → take_letter (slice_index front 0) ≡ cond has code (take_letter (slice_index (front ++ back) 0))
short_escape code true [] back short e h small = sym (small (omega arith))
short_escape code true (a ∷ front) back short e h small = letter_u a (first_true (a == 117) _ e) ∙ sym (small (omega arith))
short_escape code false [] back short e h small = sym (letter_none (is_letter (slice_index back 0)) _ h)
short_escape code false (a ∷ front) back short e h small = refl

escape_short : (front back : List ℕ) → length front < 5 → (take_escape (front ++ back)).further ≤ length front → take_escape front ≡ take_escape (front ++ back)
escape_short front back short h =
    ap (λ b. cond b (take_code (hex_value (hex_in front)) (drop 5 front)) (take_letter (slice_index front 0))) (short_code front short)
    ∙ short_escape (take_code (hex_value (hex_in (front ++ back))) (drop 5 (front ++ back))) (has_code (front ++ back)) front back short refl h (code_small (hex_value (hex_in (front ++ back))) (drop 5 (front ++ back)))

escape_front : (front back : List ℕ) → (take_escape (front ++ back)).further ≤ length front → take_escape front ≡ take_escape (front ++ back)
escape_front (a ∷ b ∷ c ∷ d ∷ e ∷ front) back h =
    let unit : ℕ = hex_value (hex_in (a ∷ b ∷ c ∷ d ∷ e ∷ front)) in
    let room : (take_escape (a ∷ b ∷ c ∷ d ∷ e ∷ (front ++ back))).further ≤ 5 + length front = omega arith in
    choose (has_code (a ∷ b ∷ c ∷ d ∷ e ∷ front)) (take_code unit front) (take_code unit (front ++ back)) (take_letter a) (5 + length front) room (code_front unit front back)
escape_front [] back h = escape_short [] back (omega arith) h
escape_front (a ∷ []) back h = escape_short (a ∷ []) back (omega arith) h
escape_front (a ∷ b ∷ []) back h = escape_short (a ∷ b ∷ []) back (omega arith) h
escape_front (a ∷ b ∷ c ∷ []) back h = escape_short (a ∷ b ∷ c ∷ []) back (omega arith) h
escape_front (a ∷ b ∷ c ∷ d ∷ []) back h = escape_short (a ∷ b ∷ c ∷ d ∷ []) back (omega arith) h

-- what an escape takes, and a front of what stands behind it
record Kept (t : Taken) (cs front : List ℕ) : Type 0 where
  same : take_escape (take t.further cs ++ front) ≡ t
  left : drop t.further (take t.further cs ++ front) ≡ front

kept_within : (cs front back : List ℕ) → (take_escape cs).further ≤ length cs → drop (take_escape cs).further cs ≡ front ++ back → Kept (take_escape cs) cs front
kept_within cs front back fits split =
    let n : ℕ = (take_escape cs).further in
    let size : length (take n cs) ≡ n = omega (arith, length-take n cs) in
    let all : (take n cs ++ front) ++ back ≡ cs = append_assoc (take n cs) front back ∙ ap (λ l. take n cs ++ l) (sym split) ∙ take-append-drop n cs in
    let room : (take_escape ((take n cs ++ front) ++ back)).further ≤ length (take n cs ++ front) = omega (arith, ap (λ l. (take_escape l).further) all, length-append (take n cs) front, size) in
    record {
      same = escape_front (take n cs ++ front) back room ∙ ap take_escape all;
      left = drop_front (take n cs) front n size;
    }

nil_front : (front back : List ℕ) → [] ≡ front ++ back → front ≡ []
nil_front [] back h = refl
nil_front (c ∷ front) back h = absurd (omega (arith, ap length h))

kept_past : (cs front back : List ℕ) → length cs < (take_escape cs).further → drop (take_escape cs).further cs ≡ front ++ back → Kept (take_escape cs) cs front
kept_past cs front back past split =
    let n : ℕ = (take_escape cs).further in
    let empty : front ≡ [] = nil_front front back (sym (drop_all n cs (omega arith)) ∙ split) in
    let all : take n cs ++ front ≡ cs = ap (λ l. take n cs ++ l) empty ∙ append-nil (take n cs) ∙ take_all n cs (omega arith) in
    record {
      same = ap take_escape all;
      left = ap (drop n) all ∙ drop_all n cs (omega arith) ∙ sym empty;
    }

kept : (cs front back : List ℕ) → drop (take_escape cs).further cs ≡ front ++ back → Kept (take_escape cs) cs front
kept cs front back split = elim (cases_lt (length cs) (take_escape cs).further) [
  | inl past ↦ kept_past cs front back past split
  | inr fits ↦ kept_within cs front back fits split
]

-- an escape, or a reverse solidus that begins none
pub walks_json_escape : (cs behind rest : List ℕ) (first c : ℕ) → cs ≡ first ∷ behind → first ≡ 92 → c ≡ (take_escape behind).character → rest ≡ drop (take_escape behind).further behind → Walks Json cs 1 Json rest
walks_json_escape cs behind rest first c split is value left =
    let n : ℕ = (take_escape behind).further in
    record {
      passed = first ∷ take n behind;
      text = (take_escape behind).character ∷ [];
      split = split ∙ ap (λ l. first ∷ l) (sym (take-append-drop n behind) ∙ ap (λ l. take n behind ++ l) (sym left));
      size = refl;
      fronts = λ front back h.
          let k : Kept (take_escape behind) behind front = kept behind front back (sym left ∙ h) in
          ap (λ d. unescaped_text (d ∷ (take n behind ++ front))) is
          ∙ unescaped_cons 92 (take n behind ++ front)
          ∙ ap (λ (t : Taken). t.character ∷ unescaped_text (drop t.further (take n behind ++ front))) k.same
          ∙ ap (λ l. (take_escape behind).character ∷ unescaped_text l) k.left;
    }

-- a character that stands for itself
pub walks_json_single : (cs rest : List ℕ) (first : ℕ) → cs ≡ first ∷ rest → first ≢ 92 → Walks Json cs 1 Json rest
walks_json_single cs rest first split other = record {
  passed = first ∷ [];
  text = first ∷ [];
  split = split;
  size = refl;
  fronts = λ front back h. unescaped_other first front other;
}
