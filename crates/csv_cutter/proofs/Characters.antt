-- What a valid dialect's characters are.
use Rattle.std.proofs.Common.{◌≡◌, ◌≢◌, ℕ, ◌<◌, Bool, true, false, ◌&&◌, ◌||◌, ◌==◌, not, ◌≤◌, length, List, [], ◌∷◌, refl, sym, ◌∙◌, ap, arith}
use Rattle.std.proofs.lemmas.Bool.Decides.{nat_tests}
use Rattle.csv_cutter.specs.declared.dialect.Dialect.{Dialect}
use Rattle.select_request.specs.declared.request.Delimiter.{Delimiter}
use Rattle.select_request.specs.declared.request.Delimiter.TheVariants.{One, Two}
use Rattle.select_request.specs.Values.{holds, is_character}
use Rattle.select_request.specs.Printable.{is_delimiter, is_varied}
use Rattle.csv_cutter.specs.Dialects.{is_valid, has_characters, is_apart, delimiter_bytes, first_of}

pub eq_self : (c : ℕ) → (c == c) ≡ true
eq_self c = grind (arith, nat_tests)

pub eq_not : (c d : ℕ) → c ≢ d → (c == d) ≡ false
eq_not c d h = grind (arith, nat_tests)

pub eq_is : (c d : ℕ) → (c == d) ≡ true → c ≡ d
eq_is c d h = grind (arith, nat_tests)

pub clash : true ≡ false → ⊥
clash e = cc

pub not_eq : (c d : ℕ) → (c == d) ≡ false → c ≢ d
not_eq c d h = λ e. clash (sym (ap (λ x. x == d) e ∙ eq_self d) ∙ h)

-- the facts of a valid dialect that cutting needs
pub record IsApart (d : Dialect) : Type 0 where
  pub field_quote : d.field ≢ d.quote
  pub field_escape : d.field ≢ d.escape
  pub field : d.field < 128
  pub quote : d.quote < 128
  pub escape : d.escape < 128

pub apart : (d : Dialect) → is_valid d ≡ true → IsApart d
unfolding is_valid
apart d h = record {
  field_quote = grind (arith, nat_tests);
  field_escape = grind (arith, nat_tests);
  field = grind (arith, nat_tests);
  quote = grind (arith, nat_tests);
  escape = grind (arith, nat_tests);
}

pub quote_low : (d : Dialect) → is_valid d ≡ true → d.quote < 128
quote_low d h = (apart d h).quote

pub escape_low : (d : Dialect) → is_valid d ≡ true → d.escape < 128
escape_low d h = (apart d h).escape

-- ---- the record delimiter

abbrev pub more_of : Delimiter → List ℕ
more_of (One a) = []
more_of (Two a b) = b ∷ []

or_none : (x y : Bool) → (x || y) ≡ false → x ≡ false
or_none true y e = e
or_none false y e = refl

bytes_parts : (delimiter : Delimiter) → delimiter_bytes delimiter ≡ first_of delimiter ∷ more_of delimiter
bytes_parts (One a) = refl
bytes_parts (Two a b) = refl

first_holds : (delimiter : Delimiter) (c : ℕ) → holds delimiter c ≡ false → first_of delimiter ≢ c
first_holds (One a) c h = not_eq a c h
first_holds (Two a b) c h = not_eq a c (or_none (a == c) (b == c) h)

first_low : (delimiter : Delimiter) → is_delimiter delimiter ≡ true → first_of delimiter < 128
first_low (One a) h = grind (arith, nat_tests)
first_low (Two a b) h = grind (arith, nat_tests)

-- the first byte of the delimiter is none of the other characters
pub record Delimits (d : Dialect) : Type 0 where
  pub first : ℕ
  pub more : List ℕ
  pub is : delimiter_bytes d.delimiter ≡ first ∷ more
  pub quote : first ≢ d.quote
  pub escape : first ≢ d.escape
  pub comment : first ≢ d.comment
  pub field : first ≢ d.field
  pub short : length more ≤ 1
  pub named : first_of d.delimiter ≡ first
  pub low : first < 128

-- what a valid dialect says of its delimiter
record Parted (d : Dialect) : Type 0 where
  quote : holds d.delimiter d.quote ≡ false
  escape : holds d.delimiter d.escape ≡ false
  comment : holds d.delimiter d.comment ≡ false
  field : holds d.delimiter d.field ≡ false
  ascii : is_delimiter d.delimiter ≡ true

and_left : (x y : Bool) → (x && y) ≡ true → x ≡ true
and_left true y e = refl
and_left false y e = absurd (cc)

and_right : (x y : Bool) → (x && y) ≡ true → y ≡ true
and_right true y e = e
and_right false y e = absurd (cc)

not_is : (x : Bool) → not x ≡ true → x ≡ false
not_is true e = absurd (cc)
not_is false e = refl

-- the last of nine tests that hold together, and those before it
last_five : (a b c x y z u v w : Bool) → (a && b && c && x && y && z && u && v && w) ≡ true → (y ≡ true) × (z ≡ true) × (w ≡ true) × (x ≡ true)
last_five a b c x y z u v w h =
    let eight = and_left (a && b && c && x && y && z && u && v) w h in
    let six = and_left (a && b && c && x && y && z) u (and_left (a && b && c && x && y && z && u) v eight) in
    (and_right (a && b && c && x) y (and_left (a && b && c && x && y) z six), and_right (a && b && c && x && y) z six, and_right (a && b && c && x && y && z && u && v) w h, and_right (a && b && c) x (and_left (a && b && c && x) y (and_left (a && b && c && x && y) z six)))

parted : (d : Dialect) → is_valid d ≡ true → Parted d
unfolding is_valid
parted d h =
    let whole = last_five (not (d.field == d.quote)) (not (d.field == d.comment)) (not (d.quote == d.comment))
    (not (holds d.delimiter d.field)) (not (holds d.delimiter d.quote)) (not (holds d.delimiter d.comment))
    (not (d.escape == d.field)) (not (d.escape == d.comment)) (not (holds d.delimiter d.escape))
    (and_right (has_characters d && is_varied d.delimiter) (is_apart d) h) in
    let characters = and_left (has_characters d) (is_varied d.delimiter) (and_left (has_characters d && is_varied d.delimiter) (is_apart d) h) in
    record {
      quote = not_is (holds d.delimiter d.quote) whole.0;
      escape = not_is (holds d.delimiter d.escape) whole.2;
      comment = not_is (holds d.delimiter d.comment) whole.1;
      field = not_is (holds d.delimiter d.field) whole.3;
      ascii = and_right (is_character d.field && is_character d.quote && is_character d.escape && is_character d.comment) (is_delimiter d.delimiter) characters;
    }

more_short : (delimiter : Delimiter) → length (more_of delimiter) ≤ 1
more_short (One a) = omega arith
more_short (Two a b) = omega arith

pub delimits : (d : Dialect) → is_valid d ≡ true → Delimits d
delimits d h = let p = parted d h in record {
  first = first_of d.delimiter;
  more = more_of d.delimiter;
  is = bytes_parts d.delimiter;
  quote = first_holds d.delimiter d.quote p.quote;
  escape = first_holds d.delimiter d.escape p.escape;
  comment = first_holds d.delimiter d.comment p.comment;
  field = first_holds d.delimiter d.field p.field;
  short = more_short d.delimiter;
  named = refl;
  low = first_low d.delimiter p.ascii;
}
