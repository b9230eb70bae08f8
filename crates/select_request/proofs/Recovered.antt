-- The elements of a printed body pass all checks, and spell the request.
use Rattle.std.specs.Prelude.{◌≡◌, ℕ, ◌+◌, Bool, true, false, nat_lt, ◌&&◌, List, [], ◌∷◌, Option, None, Some, is_some, unwrap_or, if◌then◌else◌, refl}
use Rattle.std.proofs.Common.{sym, ◌∙◌, ap, subst}
use Rattle.select_request.specs.Values.{is_word, is_character, truth_of, header_of, quoting_of, json_of, character_of, input_delimiter_of, output_delimiter_of, range_of, allows_range, input_is_apart, output_is_apart}
use Rattle.select_request.specs.Request.{text_in, value_at, comma, double_quote, number_sign, line_feed, request_from}
use Rattle.select_request.specs.Checks.{checks, fits_where_there, is_met, first_unmet, first_fault}
use Rattle.select_request.specs.Printed.{truth_text, header_text, quoting_text, delimiter_text}
use Rattle.select_request.proofs.PrintedElements.{found_of}
use Rattle.select_request.specs.Printable.{is_delimiter, is_varied, is_csv_input, is_csv_output, is_input, is_output, is_range, is_range_of, is_printable}
use Rattle.select_request.specs.declared.checks.Check.{Check}
use Rattle.select_request.specs.declared.checks.Check.TheVariants.{Holds, Fits, HasFormat, HasOneFormat, InputIsApart, OutputIsApart, IsRange, AllowsRange}
use Rattle.request_elements.specs.declared.element.Element.{Element}
use Rattle.request_elements.specs.declared.element.Element.TheVariants.{Expression, Enabled, InputSerialization, CsvInput, AllowQuotedRecordDelimiter, Comments, InputFieldDelimiter, FileHeaderInfo, InputQuoteCharacter, InputQuoteEscapeCharacter, InputRecordDelimiter, JsonInput, JsonType, ParquetInput, OutputSerialization, CsvOutput, OutputFieldDelimiter, OutputQuoteCharacter, OutputQuoteEscapeCharacter, QuoteFields, CsvRecordDelimiter, JsonOutput, JsonRecordDelimiter, ScanRange, Start, End}
use Rattle.request_elements.specs.declared.found.Found.{Found}
use Rattle.select_request.specs.declared.request.CsvInput.{CsvInput as CsvInputSettings}
use Rattle.select_request.specs.declared.request.CsvOutput.{CsvOutput as CsvOutputSettings}
use Rattle.select_request.specs.declared.request.Delimiter.TheVariants.{One}
use Rattle.select_request.specs.declared.request.Header.TheVariants.{Without}
use Rattle.select_request.specs.declared.request.Input.{Input}
use Rattle.select_request.specs.declared.request.Input.TheVariants.{Csv as CsvObject, JsonLines, JsonDocument, Parquet}
use Rattle.select_request.specs.declared.request.Output.{Output}
use Rattle.select_request.specs.declared.request.Output.TheVariants.{Csv as CsvReply, Json}
use Rattle.select_request.specs.declared.request.ScanRange.{ScanRange as Range}
use Rattle.select_request.specs.declared.request.SelectRequest.{SelectRequest}
use mathlib.Core.Path.{fun_ext}
use Rattle.select_request.proofs.Lookups.{wanted, found_is}
use Rattle.select_request.proofs.Printables.{and_left, and_right, Printable, printable}
use Rattle.select_request.proofs.Readback.{truth_read, header_read, quoting_read, character_read, input_delimiter_read, output_delimiter_read, range_read}

-- ---- checks and values by the texts alone

abbrev pub Texts : Type 0
Texts = Element → Option (List ℕ)

abbrev csv_input_by : Texts → CsvInputSettings
csv_input_by t = record {
  quoted_delimiters = value_at truth_of false (t AllowQuotedRecordDelimiter);
  comment = value_at character_of number_sign (t Comments);
  field = value_at character_of comma (t InputFieldDelimiter);
  header = value_at header_of Without (t FileHeaderInfo);
  quote = value_at character_of double_quote (t InputQuoteCharacter);
  escape = value_at character_of double_quote (t InputQuoteEscapeCharacter);
  delimiter = value_at input_delimiter_of (One line_feed) (t InputRecordDelimiter);
}

abbrev csv_output_by : Texts → CsvOutputSettings
csv_output_by t = record {
  field = value_at character_of comma (t OutputFieldDelimiter);
  quote = value_at character_of double_quote (t OutputQuoteCharacter);
  escape = value_at character_of double_quote (t OutputQuoteEscapeCharacter);
  always = value_at quoting_of false (t QuoteFields);
  delimiter = value_at output_delimiter_of (One line_feed) (t CsvRecordDelimiter);
}

abbrev input_by : Texts → Input
input_by t = if is_some (t CsvInput) then CsvObject (csv_input_by t) else if is_some (t JsonInput) then value_at json_of JsonLines (t JsonType) else Parquet

abbrev output_by : Texts → Output
output_by t = if is_some (t CsvOutput) then CsvReply (csv_output_by t) else Json (value_at output_delimiter_of (One line_feed) (t JsonRecordDelimiter))

abbrev range_by : Texts → Option Range
range_by t = if is_some (t ScanRange) then range_of (t Start) (t End) else None

abbrev request_by : Texts → SelectRequest
request_by t = record {
  expression = unwrap_or (t Expression) [];
  progress = value_at truth_of false (t Enabled);
  input = input_by t;
  output = output_by t;
  range = range_by t;
}

abbrev counted_by : Texts → Element → ℕ
counted_by t e = if is_some (t e) then 1 else 0

abbrev formats_by : Texts → Element → ℕ
formats_by t InputSerialization = counted_by t CsvInput + counted_by t JsonInput + counted_by t ParquetInput
formats_by t e = counted_by t CsvOutput + counted_by t JsonOutput

abbrev is_met_by : Texts → Check → Bool
is_met_by t (Holds parent e) = if is_some (t parent) then is_some (t e) else true
is_met_by t (Fits e) = fits_where_there e (t e)
is_met_by t (HasFormat e) = nat_lt 0 (formats_by t e)
is_met_by t (HasOneFormat e) = nat_lt (formats_by t e) 2
is_met_by t InputIsApart = input_is_apart (csv_input_by t)
is_met_by t OutputIsApart = output_is_apart (csv_output_by t)
is_met_by t IsRange = if is_some (t ScanRange) then is_some (range_by t) else true
is_met_by t AllowsRange = if is_some (t ScanRange) then allows_range (input_by t) else true

abbrev texts_of : List Found → Texts
texts_of found e = text_in e found

by_texts : (found : List Found) (check : Check) → is_met found check ≡ is_met_by (texts_of found) check
by_texts found (Holds parent e) = refl
by_texts found (Fits e) = refl
by_texts found (HasFormat InputSerialization) = refl
by_texts found (HasFormat e) = refl
by_texts found (HasOneFormat InputSerialization) = refl
by_texts found (HasOneFormat e) = refl
by_texts found InputIsApart = refl
by_texts found OutputIsApart = refl
by_texts found IsRange = refl
by_texts found AllowsRange = refl

request_by_texts : (found : List Found) → request_from found ≡ request_by (texts_of found)
unfolding request_from
request_by_texts found = refl

-- the texts of a printed body
texts_are : (r : SelectRequest) → texts_of (found_of r) ≡ wanted r
texts_are r = fun_ext (found_is r)

-- ---- the values

pub record CsvInputHolds (csv : CsvInputSettings) : Type 0 where
  pub comment : is_character csv.comment ≡ true
  pub field : is_character csv.field ≡ true
  pub quote : is_character csv.quote ≡ true
  pub escape : is_character csv.escape ≡ true
  pub delimiter : is_delimiter csv.delimiter ≡ true
  pub varied : is_varied csv.delimiter ≡ true
  pub apart : input_is_apart csv ≡ true

pub csv_input_holds : (csv : CsvInputSettings) → is_csv_input csv ≡ true → CsvInputHolds csv
csv_input_holds csv h =
    let c = is_character csv.comment in
    let f = is_character csv.field in
    let q = is_character csv.quote in
    let e = is_character csv.escape in
    let d = is_delimiter csv.delimiter in
    let v = is_varied csv.delimiter in
    let h6 = and_left (c && f && q && e && d && v) (input_is_apart csv) h in
    let h5 = and_left (c && f && q && e && d) v h6 in
    let h4 = and_left (c && f && q && e) d h5 in
    let h3 = and_left (c && f && q) e h4 in
    let h2 = and_left (c && f) q h3 in
    record {
      comment = and_left c f h2;
      field = and_right c f h2;
      quote = and_right (c && f) q h3;
      escape = and_right (c && f && q) e h4;
      delimiter = and_right (c && f && q && e) d h5;
      varied = and_right (c && f && q && e && d) v h6;
      apart = and_right (c && f && q && e && d && v) (input_is_apart csv) h;
    }

pub record CsvOutputHolds (csv : CsvOutputSettings) : Type 0 where
  pub field : is_character csv.field ≡ true
  pub quote : is_character csv.quote ≡ true
  pub escape : is_character csv.escape ≡ true
  pub delimiter : is_delimiter csv.delimiter ≡ true
  pub apart : output_is_apart csv ≡ true

pub csv_output_holds : (csv : CsvOutputSettings) → is_csv_output csv ≡ true → CsvOutputHolds csv
csv_output_holds csv h =
    let f = is_character csv.field in
    let q = is_character csv.quote in
    let e = is_character csv.escape in
    let d = is_delimiter csv.delimiter in
    let h4 = and_left (f && q && e && d) (output_is_apart csv) h in
    let h3 = and_left (f && q && e) d h4 in
    let h2 = and_left (f && q) e h3 in
    record {
      field = and_left f q h2;
      quote = and_right f q h2;
      escape = and_right (f && q) e h3;
      delimiter = and_right (f && q && e) d h4;
      apart = and_right (f && q && e && d) (output_is_apart csv) h;
    }

-- a text that is there and is read
abbrev read_as : {A : Type 0} → (value_of : List ℕ → Option A) (default : A) (text : List ℕ) (a : A) → value_of text ≡ Some a → value_at value_of default (Some text) ≡ a
read_as value_of default text a h = ap (λ o. unwrap_or o default) h

-- the texts of a printed body, by the request's parts
abbrev texts : List ℕ → Bool → Input → Output → Option Range → Texts
texts x p i o g = wanted (record { expression = x; progress = p; input = i; output = o; range = g })

csv_input_read : (x : List ℕ) (p : Bool) (csv : CsvInputSettings) (o : Output) (g : Option Range) → CsvInputHolds csv → csv_input_by (texts x p (CsvObject csv) o g) ≡ csv
csv_input_read x p csv o g h = λ i. record {
  quoted_delimiters = read_as truth_of false (truth_text csv.quoted_delimiters) csv.quoted_delimiters (truth_read csv.quoted_delimiters) i;
  comment = read_as character_of number_sign (csv.comment ∷ []) csv.comment (character_read csv.comment h.comment) i;
  field = read_as character_of comma (csv.field ∷ []) csv.field (character_read csv.field h.field) i;
  header = read_as header_of Without (header_text csv.header) csv.header (header_read csv.header) i;
  quote = read_as character_of double_quote (csv.quote ∷ []) csv.quote (character_read csv.quote h.quote) i;
  escape = read_as character_of double_quote (csv.escape ∷ []) csv.escape (character_read csv.escape h.escape) i;
  delimiter = read_as input_delimiter_of (One line_feed) (delimiter_text csv.delimiter) csv.delimiter (input_delimiter_read csv.delimiter h.delimiter h.varied) i;
}

csv_output_read : (x : List ℕ) (p : Bool) (i : Input) (csv : CsvOutputSettings) (g : Option Range) → CsvOutputHolds csv → csv_output_by (texts x p i (CsvReply csv) g) ≡ csv
csv_output_read x p i csv g h = λ k. record {
  field = read_as character_of comma (csv.field ∷ []) csv.field (character_read csv.field h.field) k;
  quote = read_as character_of double_quote (csv.quote ∷ []) csv.quote (character_read csv.quote h.quote) k;
  escape = read_as character_of double_quote (csv.escape ∷ []) csv.escape (character_read csv.escape h.escape) k;
  always = read_as quoting_of false (quoting_text csv.always) csv.always (quoting_read csv.always) k;
  delimiter = read_as output_delimiter_of (One line_feed) (delimiter_text csv.delimiter) csv.delimiter (output_delimiter_read csv.delimiter h.delimiter) k;
}

json_input_read : (x : List ℕ) (p : Bool) (o : Output) (g : Option Range) → input_by (texts x p JsonLines o g) ≡ JsonLines
unfolding is_word
json_input_read x p o g = refl

document_read : (x : List ℕ) (p : Bool) (o : Output) (g : Option Range) → input_by (texts x p JsonDocument o g) ≡ JsonDocument
unfolding is_word
document_read x p o g = refl

input_read : (x : List ℕ) (p : Bool) (i : Input) (o : Output) (g : Option Range) → is_input i ≡ true → input_by (texts x p i o g) ≡ i
input_read x p (CsvObject csv) o g h = ap CsvObject (csv_input_read x p csv o g (csv_input_holds csv h))
input_read x p JsonLines o g h = json_input_read x p o g
input_read x p JsonDocument o g h = document_read x p o g
input_read x p Parquet o g h = refl

output_read : (x : List ℕ) (p : Bool) (i : Input) (o : Output) (g : Option Range) → is_output o ≡ true → output_by (texts x p i o g) ≡ o
output_read x p i (CsvReply csv) g h = ap CsvReply (csv_output_read x p i csv g (csv_output_holds csv h))
output_read x p i (Json d) g h = ap Json (read_as output_delimiter_of (One line_feed) (delimiter_text d) d (output_delimiter_read d h))

range_is_read : (x : List ℕ) (p : Bool) (i : Input) (o : Output) (g : Option Range) → is_range_of i g ≡ true → range_by (texts x p i o g) ≡ g
range_is_read x p i o None h = refl
range_is_read x p i o (Some range) h = range_read range (and_left (is_range range) (allows_range i) h)

request_read : (r : SelectRequest) → Printable r → request_by (wanted r) ≡ r
request_read r h = λ k. record {
  expression = r.expression;
  progress = read_as truth_of false (truth_text r.progress) r.progress (truth_read r.progress) k;
  input = input_read r.expression r.progress r.input r.output r.range h.input k;
  output = output_read r.expression r.progress r.input r.output r.range h.output k;
  range = range_is_read r.expression r.progress r.input r.output r.range h.range k;
}

-- ---- the checks

abbrev pub AllMet : Texts → List Check → Type 0
AllMet t [] = Unit {0}
AllMet t (check ∷ later) = (is_met_by t check ≡ true) × AllMet t later

none_unmet : (found : List Found) (list : List Check) → AllMet (texts_of found) list → first_unmet found list ≡ None
none_unmet found [] h = refl
none_unmet found (check ∷ later) h = let met : is_met found check ≡ true = by_texts found check ∙ h.0 in rw met (none_unmet found later h.1)

module _ (x : List ℕ) (p : Bool) (o : Output) (g : Option Range) where
  input_format : (i : Input) → is_met_by (texts x p i o g) (HasFormat InputSerialization) ≡ true
  input_format (CsvObject csv) = refl
  input_format JsonLines = refl
  input_format JsonDocument = refl
  input_format Parquet = refl

  one_input_format : (i : Input) → is_met_by (texts x p i o g) (HasOneFormat InputSerialization) ≡ true
  one_input_format (CsvObject csv) = refl
  one_input_format JsonLines = refl
  one_input_format JsonDocument = refl
  one_input_format Parquet = refl

  quoted_fits : (i : Input) → is_met_by (texts x p i o g) (Fits AllowQuotedRecordDelimiter) ≡ true
  quoted_fits (CsvObject csv) = ap is_some (truth_read csv.quoted_delimiters)
  quoted_fits JsonLines = refl
  quoted_fits JsonDocument = refl
  quoted_fits Parquet = refl

  comment_fits : (i : Input) → is_input i ≡ true → is_met_by (texts x p i o g) (Fits Comments) ≡ true
  comment_fits (CsvObject csv) h = ap is_some (character_read csv.comment (csv_input_holds csv h).comment)
  comment_fits JsonLines h = refl
  comment_fits JsonDocument h = refl
  comment_fits Parquet h = refl

  input_field_fits : (i : Input) → is_input i ≡ true → is_met_by (texts x p i o g) (Fits InputFieldDelimiter) ≡ true
  input_field_fits (CsvObject csv) h = ap is_some (character_read csv.field (csv_input_holds csv h).field)
  input_field_fits JsonLines h = refl
  input_field_fits JsonDocument h = refl
  input_field_fits Parquet h = refl

  header_fits : (i : Input) → is_met_by (texts x p i o g) (Fits FileHeaderInfo) ≡ true
  header_fits (CsvObject csv) = ap is_some (header_read csv.header)
  header_fits JsonLines = refl
  header_fits JsonDocument = refl
  header_fits Parquet = refl

  input_quote_fits : (i : Input) → is_input i ≡ true → is_met_by (texts x p i o g) (Fits InputQuoteCharacter) ≡ true
  input_quote_fits (CsvObject csv) h = ap is_some (character_read csv.quote (csv_input_holds csv h).quote)
  input_quote_fits JsonLines h = refl
  input_quote_fits JsonDocument h = refl
  input_quote_fits Parquet h = refl

  input_escape_fits : (i : Input) → is_input i ≡ true → is_met_by (texts x p i o g) (Fits InputQuoteEscapeCharacter) ≡ true
  input_escape_fits (CsvObject csv) h = ap is_some (character_read csv.escape (csv_input_holds csv h).escape)
  input_escape_fits JsonLines h = refl
  input_escape_fits JsonDocument h = refl
  input_escape_fits Parquet h = refl

  input_delimiter_fits : (i : Input) → is_input i ≡ true → is_met_by (texts x p i o g) (Fits InputRecordDelimiter) ≡ true
  input_delimiter_fits (CsvObject csv) h = ap is_some (input_delimiter_read csv.delimiter (csv_input_holds csv h).delimiter (csv_input_holds csv h).varied)
  input_delimiter_fits JsonLines h = refl
  input_delimiter_fits JsonDocument h = refl
  input_delimiter_fits Parquet h = refl

  input_apart : (i : Input) → is_input i ≡ true → is_met_by (texts x p i o g) InputIsApart ≡ true
  input_apart (CsvObject csv) h = ap input_is_apart (csv_input_read x p csv o g (csv_input_holds csv h)) ∙ (csv_input_holds csv h).apart
  input_apart JsonLines h = refl
  input_apart JsonDocument h = refl
  input_apart Parquet h = refl

  holds_type : (i : Input) → is_met_by (texts x p i o g) (Holds JsonInput JsonType) ≡ true
  holds_type (CsvObject csv) = refl
  holds_type JsonLines = refl
  holds_type JsonDocument = refl
  holds_type Parquet = refl

  type_fits : (i : Input) → is_met_by (texts x p i o g) (Fits JsonType) ≡ true
  unfolding is_word
  type_fits (CsvObject csv) = refl
  type_fits JsonLines = refl
  type_fits JsonDocument = refl
  type_fits Parquet = refl

module _ (x : List ℕ) (p : Bool) (i : Input) (g : Option Range) where
  output_format : (o : Output) → is_met_by (texts x p i o g) (HasFormat OutputSerialization) ≡ true
  output_format (CsvReply csv) = refl
  output_format (Json d) = refl

  one_output_format : (o : Output) → is_met_by (texts x p i o g) (HasOneFormat OutputSerialization) ≡ true
  one_output_format (CsvReply csv) = refl
  one_output_format (Json d) = refl

  output_field_fits : (o : Output) → is_output o ≡ true → is_met_by (texts x p i o g) (Fits OutputFieldDelimiter) ≡ true
  output_field_fits (CsvReply csv) h = ap is_some (character_read csv.field (csv_output_holds csv h).field)
  output_field_fits (Json d) h = refl

  output_quote_fits : (o : Output) → is_output o ≡ true → is_met_by (texts x p i o g) (Fits OutputQuoteCharacter) ≡ true
  output_quote_fits (CsvReply csv) h = ap is_some (character_read csv.quote (csv_output_holds csv h).quote)
  output_quote_fits (Json d) h = refl

  output_escape_fits : (o : Output) → is_output o ≡ true → is_met_by (texts x p i o g) (Fits OutputQuoteEscapeCharacter) ≡ true
  output_escape_fits (CsvReply csv) h = ap is_some (character_read csv.escape (csv_output_holds csv h).escape)
  output_escape_fits (Json d) h = refl

  quoting_fits : (o : Output) → is_met_by (texts x p i o g) (Fits QuoteFields) ≡ true
  quoting_fits (CsvReply csv) = ap is_some (quoting_read csv.always)
  quoting_fits (Json d) = refl

  csv_delimiter_fits : (o : Output) → is_output o ≡ true → is_met_by (texts x p i o g) (Fits CsvRecordDelimiter) ≡ true
  csv_delimiter_fits (CsvReply csv) h = ap is_some (output_delimiter_read csv.delimiter (csv_output_holds csv h).delimiter)
  csv_delimiter_fits (Json d) h = refl

  output_apart : (o : Output) → is_output o ≡ true → is_met_by (texts x p i o g) OutputIsApart ≡ true
  output_apart (CsvReply csv) h = ap output_is_apart (csv_output_read x p i csv g (csv_output_holds csv h)) ∙ (csv_output_holds csv h).apart
  output_apart (Json d) h = refl

  json_delimiter_fits : (o : Output) → is_output o ≡ true → is_met_by (texts x p i o g) (Fits JsonRecordDelimiter) ≡ true
  json_delimiter_fits (CsvReply csv) h = refl
  json_delimiter_fits (Json d) h = ap is_some (output_delimiter_read d h)

range_met : (x : List ℕ) (p : Bool) (i : Input) (o : Output) (g : Option Range) → is_range_of i g ≡ true → is_met_by (texts x p i o g) IsRange ≡ true
range_met x p i o None h = refl
range_met x p i o (Some range) h = ap is_some (range_read range (and_left (is_range range) (allows_range i) h))

range_allowed : (x : List ℕ) (p : Bool) (i : Input) (o : Output) (g : Option Range) → is_input i ≡ true → is_range_of i g ≡ true → is_met_by (texts x p i o g) AllowsRange ≡ true
range_allowed x p i o None valid h = refl
range_allowed x p i o (Some range) valid h =
    ap allows_range (input_read x p i o (Some range) valid) ∙ and_right (is_range range) (allows_range i) h

all_met : (r : SelectRequest) → Printable r → AllMet (wanted r) checks
unfolding checks is_word
all_met r h =
    let x = r.expression in
    let p = r.progress in
    let i = r.input in
    let o = r.output in
    let g = r.range in (
      refl,
      (
        refl,
        (
          refl,
          (
            ap is_some (truth_read p),
            (
              refl,
              (
                refl,
                (
                  input_format x p o g i,
                  (
                    one_input_format x p o g i,
                    (
                      quoted_fits x p o g i,
                      (
                        comment_fits x p o g i h.input,
                        (
                          input_field_fits x p o g i h.input,
                          (
                            header_fits x p o g i,
                            (
                              input_quote_fits x p o g i h.input,
                              (
                                input_escape_fits x p o g i h.input,
                                (
                                  input_delimiter_fits x p o g i h.input,
                                  (
                                    input_apart x p o g i h.input,
                                    (
                                      holds_type x p o g i,
                                      (
                                        type_fits x p o g i,
                                        (
                                          refl,
                                          (
                                            output_format x p i g o,
                                            (
                                              one_output_format x p i g o,
                                              (
                                                output_field_fits x p i g o h.output,
                                                (
                                                  output_quote_fits x p i g o h.output,
                                                  (
                                                    output_escape_fits x p i g o h.output,
                                                    (
                                                      quoting_fits x p i g o,
                                                      (
                                                        csv_delimiter_fits x p i g o h.output,
                                                        (
                                                          output_apart x p i g o h.output,
                                                          (
                                                            json_delimiter_fits x p i g o h.output,
                                                            (range_met x p i o g h.range, (range_allowed x p i o g h.input h.range, tt)),
                                                          ),
                                                        ),
                                                      ),
                                                    ),
                                                  ),
                                                ),
                                              ),
                                            ),
                                          ),
                                        ),
                                      ),
                                    ),
                                  ),
                                ),
                              ),
                            ),
                          ),
                        ),
                      ),
                    ),
                  ),
                ),
              ),
            ),
          ),
        ),
      ),
    )

-- the elements of a printed body have no fault
pub printed_passes : (r : SelectRequest) → is_printable r ≡ true → first_fault (found_of r) ≡ None
unfolding first_fault
printed_passes r h = none_unmet (found_of r) checks (subst (λ (t : Texts). AllMet t checks) (sym (texts_are r)) (all_met r (printable r h)))

-- and spell the request
pub printed_spells : (r : SelectRequest) → is_printable r ≡ true → request_from (found_of r) ≡ r
printed_spells r h = request_by_texts (found_of r) ∙ ap request_by (texts_are r) ∙ request_read r (printable r h)
