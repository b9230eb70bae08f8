-- The request of elements that pass all checks is valid.
use Rattle.std.specs.Prelude.{◌≡◌, ℕ, zero, suc, ◌^◌, ◌<◌, Bool, true, false, nat_lt, nat_le, ◌&&◌, ◌==◌, not, List, [], ◌∷◌, Option, None, Some, is_some, unwrap_or, codes, if◌then◌else◌, refl}
use Rattle.std.proofs.Common.{◌∙◌, ap, subst, arith}
use Rattle.std.proofs.lemmas.Bool.{false≢true, and_from, ltb-true}
use Rattle.std.proofs.lemmas.Bool.Decides.{nat_tests}
use Rattle.std.specs.Str.Parse.{digits_value}
use Rattle.select_request.specs.Values.{is_word, is_character, is_digits, json_of, character_of, input_delimiter_of, output_delimiter_of, whole_number_of, between, from_start, last_bytes, range_of, allows_range, input_is_apart, output_is_apart}
use Rattle.select_request.specs.Request.{has, text_in, value_at, value_in, comma, double_quote, number_sign, line_feed, csv_input_from, input_from, csv_output_from, output_from, range_from, request_from}
use Rattle.select_request.specs.Checks.{checks, fits_where_there, is_met, fault_at, first_unmet, first_fault}
use Rattle.select_request.specs.Printable.{is_delimiter, is_varied, is_csv_input, is_csv_output, is_input, is_output, is_range, is_range_of, is_valid}
use Rattle.select_request.specs.declared.checks.Check.{Check}
use Rattle.select_request.specs.declared.checks.Check.TheVariants.{Fits, InputIsApart, OutputIsApart, AllowsRange}
use Rattle.request_elements.specs.declared.element.Element.TheVariants.{CsvInput, Comments, InputFieldDelimiter, InputQuoteCharacter, InputQuoteEscapeCharacter, InputRecordDelimiter, JsonInput, JsonType, CsvOutput, OutputFieldDelimiter, OutputQuoteCharacter, OutputQuoteEscapeCharacter, CsvRecordDelimiter, JsonRecordDelimiter, ScanRange, Start, End}
use Rattle.request_elements.specs.declared.found.Found.{Found}
use Rattle.select_request.specs.declared.request.Delimiter.{Delimiter}
use Rattle.select_request.specs.declared.request.Delimiter.TheVariants.{One, Two}
use Rattle.select_request.specs.declared.request.Input.TheVariants.{Csv as CsvObject, JsonLines, JsonDocument, Parquet}
use Rattle.select_request.specs.declared.request.Output.TheVariants.{Csv as CsvReply, Json}
use Rattle.select_request.specs.declared.request.ScanRange.{ScanRange as Range}
use Rattle.select_request.specs.declared.request.ScanRange.TheVariants.{Between, From, Last}
use Rattle.select_request.specs.declared.request.SelectRequest.{SelectRequest}
use Rattle.select_request.proofs.Printables.{and_left, and_right}

-- ---- the checks that are met

abbrev AllMet : List Found → List Check → Type 0
AllMet found [] = Unit {0}
AllMet found (check ∷ later) = (is_met found check ≡ true) × AllMet found later

some_is_none : {A : Type 0} (a : A) → Some a ≡ None → ⊥
some_is_none a e = cc

met_and_later : (found : List Found) (check : Check) (later : List Check) (b : Bool) → is_met found check ≡ b
    → (if b then first_unmet found later else Some (fault_at found check)) ≡ None → (is_met found check ≡ true) × (first_unmet found later ≡ None)
met_and_later found check later true is h = (is, h)
met_and_later found check later false is h = absurd (some_is_none (fault_at found check) h)

all_met : (found : List Found) (list : List Check) → first_unmet found list ≡ None → AllMet found list
all_met found [] h = tt
all_met found (check ∷ later) h =
    let parts = met_and_later found check later (is_met found check) refl h in
    (parts.0, all_met found later parts.1)

record Met (found : List Found) : Type 0 where
  comment : is_met found (Fits Comments) ≡ true
  input_field : is_met found (Fits InputFieldDelimiter) ≡ true
  input_quote : is_met found (Fits InputQuoteCharacter) ≡ true
  input_escape : is_met found (Fits InputQuoteEscapeCharacter) ≡ true
  input_delimiter : is_met found (Fits InputRecordDelimiter) ≡ true
  input_apart : is_met found InputIsApart ≡ true
  output_field : is_met found (Fits OutputFieldDelimiter) ≡ true
  output_quote : is_met found (Fits OutputQuoteCharacter) ≡ true
  output_escape : is_met found (Fits OutputQuoteEscapeCharacter) ≡ true
  csv_delimiter : is_met found (Fits CsvRecordDelimiter) ≡ true
  output_apart : is_met found OutputIsApart ≡ true
  json_delimiter : is_met found (Fits JsonRecordDelimiter) ≡ true
  allows : is_met found AllowsRange ≡ true

-- the k-th of the checks
abbrev MetAt : List Found → ℕ → List Check → Type 0
MetAt found k [] = Unit {0}
MetAt found zero (check ∷ later) = is_met found check ≡ true
MetAt found (suc k) (check ∷ later) = MetAt found k later

met_at : (found : List Found) (k : ℕ) (list : List Check) → AllMet found list → MetAt found k list
met_at found k [] h = tt
met_at found zero (check ∷ later) h = h.0
met_at found (suc k) (check ∷ later) h = met_at found k later h.1

met : (found : List Found) → first_fault found ≡ None → Met found
unfolding first_fault checks
met found none =
    let h = all_met found checks none in
    record {
      comment = met_at found 9 checks h;
      input_field = met_at found 10 checks h;
      input_quote = met_at found 12 checks h;
      input_escape = met_at found 13 checks h;
      input_delimiter = met_at found 14 checks h;
      input_apart = met_at found 15 checks h;
      output_field = met_at found 21 checks h;
      output_quote = met_at found 22 checks h;
      output_escape = met_at found 23 checks h;
      csv_delimiter = met_at found 25 checks h;
      output_apart = met_at found 26 checks h;
      json_delimiter = met_at found 27 checks h;
      allows = met_at found 29 checks h;
    }

-- ---- values

guarded : {A : Type 0} (t : Bool) (a : A) → is_some (if t then Some a else None) ≡ true → t ≡ true
guarded true a h = refl
guarded false a h = h

taken : {A : Type 0} (t : Bool) (a default : A) → t ≡ true → unwrap_or (if t then Some a else None) default ≡ a
taken t a default h = rw h refl

character_fits : (text : List ℕ) (default : ℕ) → is_some (character_of text) ≡ true → is_character (unwrap_or (character_of text) default) ≡ true
character_fits [] default h = absurd (false≢true h)
character_fits (b ∷ []) default h =
    let t = guarded (is_character b) b h in ap is_character (taken (is_character b) b default t) ∙ t
character_fits (b ∷ c ∷ text) default h = absurd (false≢true h)

character_in : (text : Option (List ℕ)) (default : ℕ) → is_character default ≡ true → fits_where_there Comments text ≡ true → is_character (value_at character_of default text) ≡ true
character_in None default d h = d
character_in (Some text) default d h = character_fits text default h

input_delimiter_fits : (text : List ℕ) (default : Delimiter) → is_some (input_delimiter_of text) ≡ true
    → (is_delimiter (unwrap_or (input_delimiter_of text) default) ≡ true) × (is_varied (unwrap_or (input_delimiter_of text) default) ≡ true)
input_delimiter_fits [] default h = absurd (false≢true h)
input_delimiter_fits (b ∷ []) default h =
    let t = guarded (is_character b) (One b) h in
    (ap is_delimiter (taken (is_character b) (One b) default t) ∙ t, ap is_varied (taken (is_character b) (One b) default t))
input_delimiter_fits (b ∷ c ∷ []) default h =
    let characters = is_character b && is_character c in
    let t = guarded (characters && not (b == c)) (Two b c) h in
    let is = taken (characters && not (b == c)) (Two b c) default t in
    (ap is_delimiter is ∙ and_left characters (not (b == c)) t, ap is_varied is ∙ and_right characters (not (b == c)) t)
input_delimiter_fits (b ∷ c ∷ d ∷ text) default h = absurd (false≢true h)

input_delimiter_in : (text : Option (List ℕ)) → fits_where_there InputRecordDelimiter text ≡ true
    → (is_delimiter (value_at input_delimiter_of (One line_feed) text) ≡ true) × (is_varied (value_at input_delimiter_of (One line_feed) text) ≡ true)
input_delimiter_in None h = (refl, refl)
input_delimiter_in (Some text) h = input_delimiter_fits text (One line_feed) h

output_delimiter_fits : (text : List ℕ) (default : Delimiter) → is_some (output_delimiter_of text) ≡ true → is_delimiter (unwrap_or (output_delimiter_of text) default) ≡ true
output_delimiter_fits [] default h = absurd (false≢true h)
output_delimiter_fits (b ∷ []) default h =
    let t = guarded (is_character b) (One b) h in ap is_delimiter (taken (is_character b) (One b) default t) ∙ t
output_delimiter_fits (b ∷ c ∷ []) default h =
    let t = guarded (is_character b && is_character c) (Two b c) h in ap is_delimiter (taken (is_character b && is_character c) (Two b c) default t) ∙ t
output_delimiter_fits (b ∷ c ∷ d ∷ text) default h = absurd (false≢true h)

output_delimiter_in : (text : Option (List ℕ)) → fits_where_there CsvRecordDelimiter text ≡ true → is_delimiter (value_at output_delimiter_of (One line_feed) text) ≡ true
output_delimiter_in None h = refl
output_delimiter_in (Some text) h = output_delimiter_fits text (One line_feed) h

csv_input_valid : (found : List Found) → Met found → is_csv_input (csv_input_from found) ≡ true
csv_input_valid found m =
    let csv = csv_input_from found in
    let delimiter = input_delimiter_in (text_in InputRecordDelimiter found) m.input_delimiter in
    and_from _ (input_is_apart csv)
    (and_from _ (is_varied csv.delimiter)
    (and_from _ (is_delimiter csv.delimiter)
    (and_from _ (is_character csv.escape)
    (and_from _ (is_character csv.quote)
    (and_from (is_character csv.comment) (is_character csv.field)
    (character_in (text_in Comments found) number_sign refl m.comment)
    (character_in (text_in InputFieldDelimiter found) comma refl m.input_field))
    (character_in (text_in InputQuoteCharacter found) double_quote refl m.input_quote))
    (character_in (text_in InputQuoteEscapeCharacter found) double_quote refl m.input_escape))
    delimiter.0)
    delimiter.1)
    m.input_apart

csv_output_valid : (found : List Found) → Met found → is_csv_output (csv_output_from found) ≡ true
csv_output_valid found m =
    let csv = csv_output_from found in
    and_from _ (output_is_apart csv)
    (and_from _ (is_delimiter csv.delimiter)
    (and_from _ (is_character csv.escape)
    (and_from (is_character csv.field) (is_character csv.quote)
    (character_in (text_in OutputFieldDelimiter found) comma refl m.output_field)
    (character_in (text_in OutputQuoteCharacter found) double_quote refl m.output_quote))
    (character_in (text_in OutputQuoteEscapeCharacter found) double_quote refl m.output_escape))
    (output_delimiter_in (text_in CsvRecordDelimiter found) m.csv_delimiter))
    m.output_apart

-- a JSON object is LINES or DOCUMENT, and either is valid
json_input : (lines document : Bool) → is_input (unwrap_or (if lines then Some JsonLines else if document then Some JsonDocument else None) JsonLines) ≡ true
json_input true document = refl
json_input false true = refl
json_input false false = refl

json_valid : (text : Option (List ℕ)) → is_input (value_at json_of JsonLines text) ≡ true
json_valid None = refl
json_valid (Some text) = json_input (is_word (codes "LINES") text) (is_word (codes "DOCUMENT") text)

input_by_formats : (csv json : Bool) (found : List Found) → Met found
    → is_input (if csv then CsvObject (csv_input_from found) else if json then value_in json_of JsonLines JsonType found else Parquet) ≡ true
input_by_formats true json found m = csv_input_valid found m
input_by_formats false true found m = json_valid (text_in JsonType found)
input_by_formats false false found m = refl

output_by_format : (csv : Bool) (found : List Found) → Met found
    → is_output (if csv then CsvReply (csv_output_from found) else Json (value_in output_delimiter_of (One line_feed) JsonRecordDelimiter found)) ≡ true
output_by_format true found m = csv_output_valid found m
output_by_format false found m = output_delimiter_in (text_in JsonRecordDelimiter found) m.json_delimiter

-- ---- ranges

small_by : (t : Bool) (v n : ℕ) → (t ≡ true → nat_lt v (2 ^ 63) ≡ true) → (if t then Some v else None) ≡ Some n → n < 2 ^ 63
small_by true v n f h = let below : v < 2 ^ 63 = ltb-true v (2 ^ 63) (f refl) in let same : v ≡ n = cc in omega arith
small_by false v n f h = absurd ((λ (e : None ≡ Some n). let no : ⊥ = cc in no) h)

number_small : (text : List ℕ) (n : ℕ) → whole_number_of text ≡ Some n → n < 2 ^ 63
unfolding whole_number_of
number_small text n h = small_by (is_digits text && nat_lt (digits_value 10 text) (2 ^ 63)) (digits_value 10 text) n (λ t. and_right (is_digits text) (nat_lt (digits_value 10 text) (2 ^ 63)) t) h

none_is_some : {A : Type 0} (a : A) → None ≡ Some a → ⊥
none_is_some a e = cc

some_same : {A : Type 0} (a b : A) → Some a ≡ Some b → a ≡ b
some_same a b e = cc

small : (n : ℕ) → n < 2 ^ 63 → nat_lt n (2 ^ 63) ≡ true
small n h = grind (arith, nat_tests)

above_zero : (n : ℕ) → (n == 0) ≡ false → nat_lt 0 n ≡ true
above_zero n h = grind (arith, nat_tests)

not_above : (a b : ℕ) → nat_lt b a ≡ false → nat_le a b ≡ true
not_above a b h = grind (arith, nat_tests)

from_valid : (o : Option ℕ) (g : Range) → ((n : ℕ) → o ≡ Some n → n < 2 ^ 63) → from_start o ≡ Some g → is_range g ≡ true
from_valid None g f h = absurd (none_is_some g h)
from_valid (Some n) g f h = subst (λ (z : Range). is_range z ≡ true) (some_same (From n) g h) (small n (f n refl))

last_by : (n : ℕ) (g : Range) (t : Bool) → (n == 0) ≡ t → n < 2 ^ 63 → (if t then None else Some (Last n)) ≡ Some g → is_range g ≡ true
last_by n g true e b h = absurd (none_is_some g h)
last_by n g false e b h = subst (λ (z : Range). is_range z ≡ true) (some_same (Last n) g h) (and_from (nat_lt 0 n) (nat_lt n (2 ^ 63)) (above_zero n e) (small n b))

last_valid : (o : Option ℕ) (g : Range) → ((n : ℕ) → o ≡ Some n → n < 2 ^ 63) → last_bytes o ≡ Some g → is_range g ≡ true
last_valid None g f h = absurd (none_is_some g h)
last_valid (Some n) g f h = last_by n g (n == 0) refl (f n refl) h

between_by : (a b : ℕ) (g : Range) (t : Bool) → nat_lt b a ≡ t → b < 2 ^ 63 → (if t then None else Some (Between a b)) ≡ Some g → is_range g ≡ true
between_by a b g true e s h = absurd (none_is_some g h)
between_by a b g false e s h = subst (λ (z : Range). is_range z ≡ true) (some_same (Between a b) g h) (and_from (nat_le a b) (nat_lt b (2 ^ 63)) (not_above a b e) (small b s))

between_valid : (o p : Option ℕ) (g : Range) → ((n : ℕ) → p ≡ Some n → n < 2 ^ 63) → between o p ≡ Some g → is_range g ≡ true
between_valid None p g f h = absurd (none_is_some g h)
between_valid (Some a) None g f h = absurd (none_is_some g h)
between_valid (Some a) (Some b) g f h = between_by a b g (nat_lt b a) refl (f b refl) h

range_valid : (start end : Option (List ℕ)) (g : Range) → range_of start end ≡ Some g → is_range g ≡ true
range_valid None None g h = absurd (none_is_some g h)
range_valid (Some s) None g h = from_valid (whole_number_of s) g (number_small s) h
range_valid None (Some e) g h = last_valid (whole_number_of e) g (number_small e) h
range_valid (Some s) (Some e) g h = between_valid (whole_number_of s) (whole_number_of e) g (number_small e) h

range_by : (found : List Found) (b : Bool) (o : Option Range) → range_of (text_in Start found) (text_in End found) ≡ o
    → (if b then allows_range (input_from found) else true) ≡ true → is_range_of (input_from found) (if b then o else None) ≡ true
range_by found false o e a = refl
range_by found true None e a = refl
range_by found true (Some g) e a =
    and_from (is_range g) (allows_range (input_from found)) (range_valid (text_in Start found) (text_in End found) g e) a

-- the request of elements that pass all checks is valid
pub passing_is_valid : (found : List Found) → first_fault found ≡ None → is_valid (request_from found) ≡ true
unfolding request_from is_valid
passing_is_valid found none =
    let m = met found none in
    and_from _ (is_range_of (input_from found) (range_from found))
    (and_from (is_input (input_from found)) (is_output (output_from found))
    (input_by_formats (has CsvInput found) (has JsonInput found) found m) (output_by_format (has CsvOutput found) found m))
    (range_by found (has ScanRange found) (range_of (text_in Start found) (text_in End found)) refl m.allows)

pub spelled_is_valid : (request : SelectRequest) (found : List Found) → request ≡ request_from found → first_fault found ≡ None → is_valid request ≡ true
spelled_is_valid request found values passes = rw values (passing_is_valid found passes)
