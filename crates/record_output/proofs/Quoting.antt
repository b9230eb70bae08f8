-- Which fields stand in quotes, and the escapes in them.
use Rattle.std.specs.Prelude.{◌≡◌, ℕ, suc, ◌+◌, ◌<◌, ◌≤◌, Bool, true, false, ◌||◌, ◌==◌, List, [], ◌∷◌, ◌++◌, length, take, drop, slice_index, Option, Some, None, is_some, refl, if◌then◌else◌}
use Rattle.std.proofs.Common.{◌∙◌, ap, ap₂, sym, arith, length-append, length-drop}
use Rattle.std.proofs.lemmas.Bool.{false_from_ne_true}
use Rattle.std.proofs.lemmas.List.Folds.{list_any_at}
use Rattle.std.specs.List.{list_any, flat_map}
use Rattle.memchr.specs.Find.{IsFirstByte, is_byte, is_byte2, is_byte3}
use Rattle.select_request.specs.declared.request.CsvOutput.{CsvOutput}
use Rattle.select_request.specs.declared.request.Delimiter.TheVariants.{One, Two}
use Rattle.record_output.specs.CsvFields.{is_delimiter_byte, is_quoted, escaped, escaped_text, within_quotes, csv_field}
use Rattle.record_output.proofs.Escaping.{all_own, first_escaped, no_shorter}

-- ---- a search tells whether some byte passes

none_any : (test : ℕ → Bool) (hay : List ℕ) → ((k : ℕ) → k < length hay → test (slice_index hay k) ≡ true → ⊥) → list_any test hay ≡ false
none_any test [] none = refl
none_any test (c ∷ hay) none =
    ap₂ (λ a b. a || b) (false_from_ne_true (test c) (none 0 (omega arith))) (none_any test hay (λ k within passes. none (suc k) (omega arith) passes))

pub found_any : (test : ℕ → Bool) (hay : List ℕ) (r : Option ℕ) → IsFirstByte test hay r → is_some r ≡ list_any test hay
found_any test hay None h = sym (none_any test hay (λ k within passes. h k (omega arith) within passes))
found_any test hay (Some k) h = sym (list_any_at test hay k 0 h.0.high h.1)

either_or : (a b c d : Bool) → ((a || b) || (c || d)) ≡ ((a || c) || (b || d))
either_or true b c d = refl
either_or false true true d = refl
either_or false true false d = refl
either_or false false true d = refl
either_or false false false d = refl

any_or : (p q : ℕ → Bool) (xs : List ℕ) → list_any (λ c. p c || q c) xs ≡ (list_any p xs || list_any q xs)
any_or p q [] = refl
any_or p q (x ∷ xs) = ap (λ b. (p x || q x) || b) (any_or p q xs) ∙ either_or (p x) (q x) (list_any p xs) (list_any q xs)

or_assoc : (a b c : Bool) → (a || (b || c)) ≡ ((a || b) || c)
or_assoc true b c = refl
or_assoc false b c = refl

any_same : (p q : ℕ → Bool) (xs : List ℕ) → ((c : ℕ) → p c ≡ q c) → list_any p xs ≡ list_any q xs
any_same p q [] same = refl
any_same p q (x ∷ xs) same = ap₂ (λ a b. a || b) (same x) (any_same p q xs same)

-- a delimiter of two bytes is looked for by two searches
pub guarded_two : (field quote a b : ℕ) (text : List ℕ)
    → list_any (λ c. c == field || c == quote || (c == a || c == b)) text ≡ (list_any (is_byte3 field quote a) text || list_any (is_byte b) text)
guarded_two field quote a b text =
    any_same (λ c. c == field || c == quote || (c == a || c == b)) (λ c. is_byte3 field quote a c || is_byte b c) text (λ c. or_assoc (c == field || c == quote) (c == a) (c == b))
    ∙ any_or (is_byte3 field quote a) (is_byte b) text

pub quoted_one : (csv : CsvOutput) (text : List ℕ) (end : ℕ) (r : Option ℕ) → csv.always ≡ false → csv.delimiter ≡ One end → IsFirstByte (is_byte3 csv.field csv.quote end) text r
    → is_some r ≡ is_quoted csv text
unfolding is_quoted
quoted_one csv text end r always is found =
    found_any (is_byte3 csv.field csv.quote end) text r found
    ∙ sym (ap₂ (λ a d. a || list_any (λ c. c == csv.field || c == csv.quote || is_delimiter_byte d c) text) always is)

two_is : (csv : CsvOutput) (text : List ℕ) (a b : ℕ) → csv.always ≡ false → csv.delimiter ≡ Two a b
    → (list_any (is_byte3 csv.field csv.quote a) text || list_any (is_byte b) text) ≡ is_quoted csv text
unfolding is_quoted
two_is csv text a b always is =
    sym (guarded_two csv.field csv.quote a b text)
    ∙ sym (ap₂ (λ t d. t || list_any (λ c. c == csv.field || c == csv.quote || is_delimiter_byte d c) text) always is)

pub quoted_two : (csv : CsvOutput) (text : List ℕ) (a b : ℕ) (front back : Option ℕ) (first : Bool) → csv.always ≡ false → csv.delimiter ≡ Two a b
    → first ≡ is_some front → first ≡ false → IsFirstByte (is_byte3 csv.field csv.quote a) text front → IsFirstByte (is_byte b) text back → is_some back ≡ is_quoted csv text
quoted_two csv text a b front back first always is e none found here =
    ap₂ (λ x y. x || y) (sym none ∙ e ∙ found_any (is_byte3 csv.field csv.quote a) text front found) (found_any (is_byte b) text back here)
    ∙ two_is csv text a b always is

-- ---- escapes

own : (csv : CsvOutput) (c : ℕ) → is_byte2 csv.quote csv.escape c ≡ false → escaped csv c ≡ c ∷ []
own csv c e = rw e refl

at_escaped : (csv : CsvOutput) (c : ℕ) → is_byte2 csv.quote csv.escape c ≡ true → escaped csv c ≡ csv.escape ∷ c ∷ []
at_escaped csv c e = rw e refl

pub cut_none : (csv : CsvOutput) (text : List ℕ) → IsFirstByte (is_byte2 csv.quote csv.escape) text None → escaped_text csv text ≡ text
unfolding escaped_text
cut_none csv text none = all_own (escaped csv) (is_byte2 csv.quote csv.escape) (own csv) text (λ k within passes. none k (omega arith) within passes)

pub cut_some : (csv : CsvOutput) (text : List ℕ) (at : ℕ) → IsFirstByte (is_byte2 csv.quote csv.escape) text (Some at)
    → escaped_text csv text ≡ (take at text ++ csv.escape ∷ slice_index text at ∷ []) ++ escaped_text csv (drop (at + 1) text)
unfolding escaped_text
cut_some csv text at found =
    first_escaped (escaped csv) (is_byte2 csv.quote csv.escape) (own csv) text at found.0.high (λ j before passes. found.0.before j (omega arith) before passes)
    ∙ ap (λ l. (take at text ++ l) ++ flat_map (escaped csv) (drop (at + 1) text)) (at_escaped csv (slice_index text at) found.1)

pub cut_shorter : (csv : CsvOutput) (text : List ℕ) (at : ℕ) → IsFirstByte (is_byte2 csv.quote csv.escape) text (Some at) → length (drop (at + 1) text) < length text
cut_shorter csv text at found = omega (arith, found.0.high, length-drop (at + 1) text)

-- ---- a field is no shorter than its text

some_byte : (b : Bool) (e c : ℕ) → 0 < length (if b then e ∷ c ∷ [] else c ∷ [])
some_byte true e c = omega arith
some_byte false e c = omega arith

quoted_longer : (csv : CsvOutput) (text : List ℕ) → length text ≤ length (within_quotes csv text)
unfolding escaped_text
quoted_longer csv text =
    omega (arith, no_shorter (escaped csv) (λ c. some_byte (c == csv.quote || c == csv.escape) csv.escape c) text, length-append (flat_map (escaped csv) text) (csv.quote ∷ []))

longer_by : (b : Bool) (text quoted : List ℕ) → length text ≤ length quoted → length text ≤ length (if b then quoted else text)
longer_by true text quoted h = h
longer_by false text quoted h = omega arith

pub field_longer : (csv : CsvOutput) (text : List ℕ) → length text ≤ length (csv_field csv text)
unfolding csv_field
field_longer csv text = longer_by (is_quoted csv text) text (within_quotes csv text) (quoted_longer csv text)
