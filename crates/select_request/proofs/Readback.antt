-- Each value is read back from its text.
use Rattle.std.specs.Prelude.{◌≡◌, ℕ, ◌^◌, ◌<◌, Bool, true, false, nat_lt, nat_le, ◌&&◌, ◌==◌, not, List, [], ◌∷◌, length, None, Some, decimal, refl}
use Rattle.std.proofs.Common.{arith}
use Rattle.std.proofs.lemmas.Bool.{cond-true, and_from, ltb-true}
use Rattle.std.proofs.lemmas.Bool.Decides.{nat_tests}
use Rattle.std.proofs.lemmas.Fmt.{digits_value-decimal, digits_decimal, decimal_nonempty}
use Rattle.std.specs.Str.{all_ascii_digits}
use Rattle.std.specs.Str.Parse.{digits_value}
use Rattle.select_request.specs.Values.{is_word, is_character, is_digits, truth_of, header_of, quoting_of, character_of, input_delimiter_of, output_delimiter_of, whole_number_of, range_of}
use Rattle.select_request.specs.Printed.{truth_text, header_text, quoting_text, delimiter_text}
use Rattle.select_request.specs.Printable.{is_delimiter, is_varied, is_range}
use Rattle.select_request.proofs.Printables.{and_left, and_right}
use Rattle.select_request.proofs.WholeNumber.{own}
use Rattle.select_request.proofs.Lookups.{of_start, of_end}
use Rattle.select_request.specs.declared.request.Delimiter.{Delimiter}
use Rattle.select_request.specs.declared.request.Delimiter.TheVariants.{One, Two}
use Rattle.select_request.specs.declared.request.Header.{Header}
use Rattle.select_request.specs.declared.request.Header.TheVariants.{Without, Ignore, Use}
use Rattle.select_request.specs.declared.request.ScanRange.{ScanRange}
use Rattle.select_request.specs.declared.request.ScanRange.TheVariants.{Between, From, Last}

pub truth_read : (b : Bool) → truth_of (truth_text b) ≡ Some b
unfolding is_word
truth_read true = refl
truth_read false = refl

pub header_read : (h : Header) → header_of (header_text h) ≡ Some h
unfolding is_word
header_read Without = refl
header_read Ignore = refl
header_read Use = refl

pub quoting_read : (b : Bool) → quoting_of (quoting_text b) ≡ Some b
unfolding is_word
quoting_read true = refl
quoting_read false = refl

pub character_read : (b : ℕ) → is_character b ≡ true → character_of (b ∷ []) ≡ Some b
character_read b h = cond-true (is_character b) (Some b) None h

pub input_delimiter_read : (d : Delimiter) → is_delimiter d ≡ true → is_varied d ≡ true → input_delimiter_of (delimiter_text d) ≡ Some d
input_delimiter_read (One a) h v = cond-true (is_character a) (Some (One a)) None h
input_delimiter_read (Two a b) h v =
    cond-true (is_character a && is_character b && not (a == b)) (Some (Two a b)) None (and_from (is_character a && is_character b) (not (a == b)) h v)

pub output_delimiter_read : (d : Delimiter) → is_delimiter d ≡ true → output_delimiter_of (delimiter_text d) ≡ Some d
output_delimiter_read (One a) h = cond-true (is_character a) (Some (One a)) None h
output_delimiter_read (Two a b) h = cond-true (is_character a && is_character b) (Some (Two a b)) None h

digits_are_digits : (text : List ℕ) → all_ascii_digits text ≡ true → 0 < length text → is_digits text ≡ true
digits_are_digits [] h some = absurd (omega arith)
digits_are_digits (b ∷ bytes) h some = h

pub number_read : (n : ℕ) → n < 2 ^ 63 → whole_number_of (decimal n) ≡ Some n
unfolding whole_number_of
number_read n small =
    let below : n < 2 ^ 64 = omega arith in
    let value : digits_value 10 (decimal n) ≡ n = digits_value-decimal own n below in
    let digits : is_digits (decimal n) ≡ true = digits_are_digits (decimal n) (digits_decimal own n below) (decimal_nonempty n below) in
    let fits : nat_lt n (2 ^ 63) ≡ true = grind (arith, nat_tests) in
    rw (digits, value, fits) refl

at_most : (a b : ℕ) → nat_le a b ≡ true → nat_lt b a ≡ false
at_most a b h = grind (arith, nat_tests)

pub at_most_less : (a b : ℕ) (n : ℕ) → nat_le a b ≡ true → nat_lt b n ≡ true → a < n
at_most_less a b n h k = grind (arith, nat_tests)

not_zero : (n : ℕ) → nat_lt 0 n ≡ true → (n == 0) ≡ false
not_zero n h = grind (arith, nat_tests)

pub range_read : (g : ScanRange) → is_range g ≡ true → range_of (of_start (Some g)) (of_end (Some g)) ≡ Some g
range_read (Between start end) h =
    let order = and_left (nat_le start end) (nat_lt end (2 ^ 63)) h in
    let small = and_right (nat_le start end) (nat_lt end (2 ^ 63)) h in
    rw (number_read start (at_most_less start end (2 ^ 63) order small), number_read end (ltb-true end (2 ^ 63) small), at_most start end order) refl
range_read (From start) h = rw (number_read start (ltb-true start (2 ^ 63) h)) refl
range_read (Last count) h =
    let some = and_left (nat_lt 0 count) (nat_lt count (2 ^ 63)) h in
    let small = and_right (nat_lt 0 count) (nat_lt count (2 ^ 63)) h in
    rw (number_read count (ltb-true count (2 ^ 63) small), not_zero count some) refl
