-- A printed body is spelled by the grammar for the elements of its request.
use Rattle.std.specs.Prelude.{◌≡◌, ℕ, ◌^◌, ◌<◌, Bool, true, false, ◌&&◌, not, ◌==◌, nat_lt, nat_le, List, [], ◌∷◌, length, Option, None, Some, codes, decimal, IsUtf8, refl}
use Rattle.std.specs.List.{list_all}
use Rattle.std.specs.Str.{all_ascii_digits}
use Rattle.std.specs.Char.{is_ascii_digit}
use Rattle.std.proofs.Common.{sym, subst, arith}
use Rattle.std.proofs.lemmas.Bool.{or_from, ltb-true, not-true}
use Rattle.std.proofs.lemmas.Bool.Decides.{nat_tests}
use Rattle.std.proofs.lemmas.List.{append-nil}
use Rattle.std.proofs.lemmas.Fmt.{digits_decimal}
use Rattle.request_elements.specs.Pieces.{Symbol, has, symbols_of}
use Rattle.request_elements.specs.TextValue.{text_value}
use Rattle.request_elements.specs.Grammar.{element_within, request_body}
use Rattle.select_request.specs.Values.{is_character, allows_range}
use Rattle.select_request.specs.Printable.{is_delimiter, is_input, is_output, is_range_of, is_expression, is_printable}
use Rattle.select_request.specs.Printed.{Part, escaped, truth_text, header_text, quoting_text, delimiter_text, parts_of, printed}
use Rattle.select_request.proofs.PrintedElements.{found_in, found_of}
use Rattle.request_elements.specs.declared.element.Element.TheVariants.{Request, Expression, ExpressionType, RequestProgress, Enabled, InputSerialization, CompressionType, CsvInput, AllowQuotedRecordDelimiter, Comments, InputFieldDelimiter, FileHeaderInfo, InputQuoteCharacter, InputQuoteEscapeCharacter, InputRecordDelimiter, JsonInput, JsonType, ParquetInput, OutputSerialization, CsvOutput, OutputFieldDelimiter, OutputQuoteCharacter, OutputQuoteEscapeCharacter, QuoteFields, CsvRecordDelimiter, JsonOutput, JsonRecordDelimiter, ScanRange, Start, End}
use Rattle.request_elements.specs.declared.found.Found.{Found}
use Rattle.select_request.specs.declared.request.CsvInput.{CsvInput as CsvInputSettings}
use Rattle.select_request.specs.declared.request.CsvOutput.{CsvOutput as CsvOutputSettings}
use Rattle.select_request.specs.declared.request.Delimiter.{Delimiter}
use Rattle.select_request.specs.declared.request.Delimiter.TheVariants.{One, Two}
use Rattle.select_request.specs.declared.request.Header.{Header}
use Rattle.select_request.specs.declared.request.Header.TheVariants.{Without, Ignore, Use}
use Rattle.select_request.specs.declared.request.Input.{Input}
use Rattle.select_request.specs.declared.request.Input.TheVariants.{Csv as CsvObject, JsonLines, JsonDocument, Parquet}
use Rattle.select_request.specs.declared.request.Output.{Output}
use Rattle.select_request.specs.declared.request.Output.TheVariants.{Csv as CsvReply, Json}
use Rattle.select_request.specs.declared.request.ScanRange.{ScanRange as Range}
use Rattle.select_request.specs.declared.request.ScanRange.TheVariants.{Between, From, Last}
use Rattle.select_request.specs.declared.request.SelectRequest.{SelectRequest}
use Rattle.select_request.proofs.Lookups.{request_with}
use Rattle.select_request.proofs.Printables.{and_left, and_right, Printable, printable}
use Rattle.select_request.proofs.PrintedPieces.{symbols_in, symbols_of_parts}
use Rattle.select_request.proofs.Readback.{at_most_less}
use Rattle.select_request.proofs.Recovered.{CsvInputHolds, csv_input_holds, CsvOutputHolds, csv_output_holds}
use Rattle.select_request.proofs.Resolved.{ascii_is_utf8, text_value_escaped}
use Rattle.select_request.proofs.Trees.{Tree, with_text, node, Trees, none, tree, tree_parts, is_tree, TreeReads, TreesRead, no_blanks, tree_spelled}
use Rattle.select_request.proofs.WholeNumber.{own}

-- ---- the tree of a request

abbrev csv_input_tree : CsvInputSettings → Tree
csv_input_tree csv = node CsvInput
    (tree (with_text AllowQuotedRecordDelimiter (truth_text csv.quoted_delimiters))
    (tree (with_text Comments (csv.comment ∷ []))
    (tree (with_text InputFieldDelimiter (csv.field ∷ []))
    (tree (with_text FileHeaderInfo (header_text csv.header))
    (tree (with_text InputQuoteCharacter (csv.quote ∷ []))
    (tree (with_text InputQuoteEscapeCharacter (csv.escape ∷ []))
    (tree (with_text InputRecordDelimiter (delimiter_text csv.delimiter)) none)))))))

abbrev input_tree : Input → Tree
input_tree (CsvObject csv) = csv_input_tree csv
input_tree JsonLines = node JsonInput (tree (with_text JsonType (codes "LINES")) none)
input_tree JsonDocument = node JsonInput (tree (with_text JsonType (codes "DOCUMENT")) none)
input_tree Parquet = node ParquetInput none

abbrev csv_output_tree : CsvOutputSettings → Tree
csv_output_tree csv = node CsvOutput
    (tree (with_text OutputFieldDelimiter (csv.field ∷ []))
    (tree (with_text OutputQuoteCharacter (csv.quote ∷ []))
    (tree (with_text OutputQuoteEscapeCharacter (csv.escape ∷ []))
    (tree (with_text QuoteFields (quoting_text csv.always))
    (tree (with_text CsvRecordDelimiter (delimiter_text csv.delimiter)) none)))))

abbrev output_tree : Output → Tree
output_tree (CsvReply csv) = csv_output_tree csv
output_tree (Json delimiter) = node JsonOutput (tree (with_text JsonRecordDelimiter (delimiter_text delimiter)) none)

abbrev range_trees : Option Range → Trees
range_trees None = none
range_trees (Some (Between start end)) = tree (node ScanRange (tree (with_text Start (decimal start)) (tree (with_text End (decimal end)) none))) none
range_trees (Some (From start)) = tree (node ScanRange (tree (with_text Start (decimal start)) none)) none
range_trees (Some (Last count)) = tree (node ScanRange (tree (with_text End (decimal count)) none)) none

abbrev tree_of : SelectRequest → Tree
tree_of r = node Request
    (tree (with_text Expression r.expression)
    (tree (with_text ExpressionType (codes "SQL"))
    (tree (node RequestProgress (tree (with_text Enabled (truth_text r.progress)) none))
    (tree (node InputSerialization (tree (with_text CompressionType (codes "NONE")) (tree (input_tree r.input) none)))
    (tree (node OutputSerialization (tree (output_tree r.output) none))
    (range_trees r.range))))))

parts_are : (x : List ℕ) (p : Bool) (i : Input) (o : Output) (g : Option Range) → tree_parts (tree_of (request_with x p i o g)) ≡ parts_of (request_with x p i o g)
unfolding parts_of
parts_are x p (CsvObject csv) (CsvReply out) None = refl
parts_are x p (CsvObject csv) (CsvReply out) (Some (Between a b)) = refl
parts_are x p (CsvObject csv) (CsvReply out) (Some (From a)) = refl
parts_are x p (CsvObject csv) (CsvReply out) (Some (Last b)) = refl
parts_are x p (CsvObject csv) (Json d) None = refl
parts_are x p (CsvObject csv) (Json d) (Some (Between a b)) = refl
parts_are x p (CsvObject csv) (Json d) (Some (From a)) = refl
parts_are x p (CsvObject csv) (Json d) (Some (Last b)) = refl
parts_are x p JsonLines (CsvReply out) None = refl
parts_are x p JsonLines (CsvReply out) (Some (Between a b)) = refl
parts_are x p JsonLines (CsvReply out) (Some (From a)) = refl
parts_are x p JsonLines (CsvReply out) (Some (Last b)) = refl
parts_are x p JsonLines (Json d) None = refl
parts_are x p JsonLines (Json d) (Some (Between a b)) = refl
parts_are x p JsonLines (Json d) (Some (From a)) = refl
parts_are x p JsonLines (Json d) (Some (Last b)) = refl
parts_are x p JsonDocument (CsvReply out) None = refl
parts_are x p JsonDocument (CsvReply out) (Some (Between a b)) = refl
parts_are x p JsonDocument (CsvReply out) (Some (From a)) = refl
parts_are x p JsonDocument (CsvReply out) (Some (Last b)) = refl
parts_are x p JsonDocument (Json d) None = refl
parts_are x p JsonDocument (Json d) (Some (Between a b)) = refl
parts_are x p JsonDocument (Json d) (Some (From a)) = refl
parts_are x p JsonDocument (Json d) (Some (Last b)) = refl
parts_are x p Parquet (CsvReply out) None = refl
parts_are x p Parquet (CsvReply out) (Some (Between a b)) = refl
parts_are x p Parquet (CsvReply out) (Some (From a)) = refl
parts_are x p Parquet (CsvReply out) (Some (Last b)) = refl
parts_are x p Parquet (Json d) None = refl
parts_are x p Parquet (Json d) (Some (Between a b)) = refl
parts_are x p Parquet (Json d) (Some (From a)) = refl
parts_are x p Parquet (Json d) (Some (Last b)) = refl

each_stands : (x : List ℕ) (p : Bool) (i : Input) (o : Output) (g : Option Range) → is_tree (tree_of (request_with x p i o g)) 3 ≡ true
each_stands x p (CsvObject csv) (CsvReply out) None = refl
each_stands x p (CsvObject csv) (CsvReply out) (Some (Between a b)) = refl
each_stands x p (CsvObject csv) (CsvReply out) (Some (From a)) = refl
each_stands x p (CsvObject csv) (CsvReply out) (Some (Last b)) = refl
each_stands x p (CsvObject csv) (Json d) None = refl
each_stands x p (CsvObject csv) (Json d) (Some (Between a b)) = refl
each_stands x p (CsvObject csv) (Json d) (Some (From a)) = refl
each_stands x p (CsvObject csv) (Json d) (Some (Last b)) = refl
each_stands x p JsonLines (CsvReply out) None = refl
each_stands x p JsonLines (CsvReply out) (Some (Between a b)) = refl
each_stands x p JsonLines (CsvReply out) (Some (From a)) = refl
each_stands x p JsonLines (CsvReply out) (Some (Last b)) = refl
each_stands x p JsonLines (Json d) None = refl
each_stands x p JsonLines (Json d) (Some (Between a b)) = refl
each_stands x p JsonLines (Json d) (Some (From a)) = refl
each_stands x p JsonLines (Json d) (Some (Last b)) = refl
each_stands x p JsonDocument (CsvReply out) None = refl
each_stands x p JsonDocument (CsvReply out) (Some (Between a b)) = refl
each_stands x p JsonDocument (CsvReply out) (Some (From a)) = refl
each_stands x p JsonDocument (CsvReply out) (Some (Last b)) = refl
each_stands x p JsonDocument (Json d) None = refl
each_stands x p JsonDocument (Json d) (Some (Between a b)) = refl
each_stands x p JsonDocument (Json d) (Some (From a)) = refl
each_stands x p JsonDocument (Json d) (Some (Last b)) = refl
each_stands x p Parquet (CsvReply out) None = refl
each_stands x p Parquet (CsvReply out) (Some (Between a b)) = refl
each_stands x p Parquet (CsvReply out) (Some (From a)) = refl
each_stands x p Parquet (CsvReply out) (Some (Last b)) = refl
each_stands x p Parquet (Json d) None = refl
each_stands x p Parquet (Json d) (Some (Between a b)) = refl
each_stands x p Parquet (Json d) (Some (From a)) = refl
each_stands x p Parquet (Json d) (Some (Last b)) = refl

-- ---- its texts

-- ASCII characters are read back
ascii_holds : (text : List ℕ) → list_all is_character text ≡ true → (list_all (λ b. nat_lt b 128) text ≡ true) × (has 0 text ≡ false)
ascii_holds [] h = (refl, refl)
ascii_holds (b ∷ text) h =
    let here = and_left (is_character b) (list_all is_character text) h in
    let later = ascii_holds text (and_right (is_character b) (list_all is_character text) h) in
    let some = and_left (nat_lt 0 b) (nat_lt b 128) here in
    let nul : (b == 0) ≡ false = grind (arith, nat_tests) in
    (rw (and_right (nat_lt 0 b) (nat_lt b 128) here, later.0) refl, or_from (b == 0) (has 0 text) nul later.1)

characters_read : (text : List ℕ) → list_all is_character text ≡ true → text_value (escaped text) ≡ Some text
characters_read text h = let holds = ascii_holds text h in text_value_escaped text (ascii_is_utf8 text holds.0) holds.1

truth_reads : (b : Bool) → text_value (escaped (truth_text b)) ≡ Some (truth_text b)
truth_reads true = characters_read (codes "TRUE") refl
truth_reads false = characters_read (codes "FALSE") refl

header_reads : (h : Header) → text_value (escaped (header_text h)) ≡ Some (header_text h)
header_reads Without = characters_read (codes "NONE") refl
header_reads Ignore = characters_read (codes "IGNORE") refl
header_reads Use = characters_read (codes "USE") refl

quoting_reads : (b : Bool) → text_value (escaped (quoting_text b)) ≡ Some (quoting_text b)
quoting_reads true = characters_read (codes "ALWAYS") refl
quoting_reads false = characters_read (codes "ASNEEDED") refl

character_reads : (b : ℕ) → is_character b ≡ true → text_value (escaped (b ∷ [])) ≡ Some (b ∷ [])
character_reads b h = characters_read (b ∷ []) (rw h refl)

delimiter_reads : (d : Delimiter) → is_delimiter d ≡ true → text_value (escaped (delimiter_text d)) ≡ Some (delimiter_text d)
delimiter_reads (One a) h = character_reads a h
delimiter_reads (Two a b) h = characters_read (a ∷ b ∷ []) (rw (and_left (is_character a) (is_character b) h, and_right (is_character a) (is_character b) h) refl)

digits_are_characters : (text : List ℕ) → all_ascii_digits text ≡ true → list_all is_character text ≡ true
digits_are_characters [] h = refl
digits_are_characters (b ∷ text) h =
    let digit = and_left (is_ascii_digit b) (all_ascii_digits text) h in
    let here : is_character b ≡ true = grind (arith, nat_tests) in
    rw (here, digits_are_characters text (and_right (is_ascii_digit b) (all_ascii_digits text) h)) refl

decimal_reads : (n : ℕ) → n < 2 ^ 63 → text_value (escaped (decimal n)) ≡ Some (decimal n)
decimal_reads n h = let below : n < 2 ^ 64 = omega arith in characters_read (decimal n) (digits_are_characters (decimal n) (digits_decimal own n below))

csv_input_reads : (csv : CsvInputSettings) → CsvInputHolds csv → TreeReads (csv_input_tree csv)
csv_input_reads csv h = (
  truth_reads csv.quoted_delimiters,
  (
    character_reads csv.comment h.comment,
    (
      character_reads csv.field h.field,
      (
        header_reads csv.header,
        (character_reads csv.quote h.quote, (character_reads csv.escape h.escape, (delimiter_reads csv.delimiter h.delimiter, tt))),
      ),
    ),
  ),
)

input_reads : (i : Input) → is_input i ≡ true → TreeReads (input_tree i)
input_reads (CsvObject csv) h = csv_input_reads csv (csv_input_holds csv h)
input_reads JsonLines h = (characters_read (codes "LINES") refl, tt)
input_reads JsonDocument h = (characters_read (codes "DOCUMENT") refl, tt)
input_reads Parquet h = tt

csv_output_reads : (csv : CsvOutputSettings) → CsvOutputHolds csv → TreeReads (csv_output_tree csv)
csv_output_reads csv h = (
  character_reads csv.field h.field,
  (
    character_reads csv.quote h.quote,
    (
      character_reads csv.escape h.escape,
      (quoting_reads csv.always, (delimiter_reads csv.delimiter h.delimiter, tt)),
    ),
  ),
)

output_reads : (o : Output) → is_output o ≡ true → TreeReads (output_tree o)
output_reads (CsvReply csv) h = csv_output_reads csv (csv_output_holds csv h)
output_reads (Json d) h = (delimiter_reads d h, tt)

range_reads : (i : Input) (g : Option Range) → is_range_of i g ≡ true → TreesRead (range_trees g)
range_reads i None h = tt
range_reads i (Some (Between start end)) h =
    let range = and_left (nat_le start end && nat_lt end (2 ^ 63)) (allows_range i) h in
    let order = and_left (nat_le start end) (nat_lt end (2 ^ 63)) range in
    let small = and_right (nat_le start end) (nat_lt end (2 ^ 63)) range in
    ((decimal_reads start (at_most_less start end (2 ^ 63) order small), (decimal_reads end (ltb-true end (2 ^ 63) small), tt)), tt)
range_reads i (Some (From start)) h = ((decimal_reads start (ltb-true start (2 ^ 63) (and_left (nat_lt start (2 ^ 63)) (allows_range i) h)), tt), tt)
range_reads i (Some (Last count)) h =
    let range = and_left (nat_lt 0 count && nat_lt count (2 ^ 63)) (allows_range i) h in
    ((decimal_reads count (ltb-true count (2 ^ 63) (and_right (nat_lt 0 count) (nat_lt count (2 ^ 63)) range)), tt), tt)

expression_reads : (x : List ℕ) → IsUtf8 x → is_expression x ≡ true → text_value (escaped x) ≡ Some x
expression_reads x u h = text_value_escaped x u (not-true (has 0 x) (and_right (nat_le (length x) 262144) (not (has 0 x)) h))

tree_reads : (r : SelectRequest) → IsUtf8 r.expression → Printable r → TreeReads (tree_of r)
tree_reads r u h = (
  expression_reads r.expression u h.expression,
  (
    characters_read (codes "SQL") refl,
    (
      (truth_reads r.progress, tt),
      (
        (characters_read (codes "NONE") refl, (input_reads r.input h.input, tt)),
        (
          (output_reads r.output h.output, tt),
          range_reads r.input r.range h.range,
        ),
      ),
    ),
  ),
)

-- ---- the body

body_spelled : (found : List Found) (symbols : List Symbol) → (element_within 3 Request).Spells found symbols → request_body.Spells found symbols
unfolding request_body
body_spelled found symbols w = record {
  value = None;
  left = [];
  right = symbols;
  joined = refl;
  whole = (false, (refl, refl));
  after = record {
    value = None;
    left = [];
    right = symbols;
    joined = refl;
    whole = no_blanks;
    after = record { value = found; left = symbols; right = []; joined = sym (append-nil symbols); whole = w; after = (None, refl, no_blanks) };
  };
}

-- the pieces of a printed body spell its elements
pub printed_has_elements : (r : SelectRequest) → IsUtf8 r.expression → is_printable r ≡ true → request_body.Spells (found_of r) (symbols_of (printed r))
unfolding found_of
printed_has_elements r u h =
    let parts : tree_parts (tree_of r) ≡ parts_of r = parts_are r.expression r.progress r.input r.output r.range in
    let spelled = tree_spelled (tree_of r) 3 0 (each_stands r.expression r.progress r.input r.output r.range) (tree_reads r u (printable r h)) in
    let of_parts = subst (λ (ps : List Part). (element_within 3 Request).Spells (found_in 0 ps) (symbols_in 0 ps)) parts spelled in
    rw (symbols_of_parts (parts_of r)) (body_spelled (found_in 0 (parts_of r)) (symbols_in 0 (parts_of r)) of_parts)
