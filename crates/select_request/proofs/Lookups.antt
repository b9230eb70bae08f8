-- The elements of a printed body, looked up by element.
use Rattle.std.specs.Prelude.{◌≡◌, ℕ, ◌+◌, Bool, true, false, List, [], ◌∷◌, length, Option, None, Some, codes, decimal, if◌then◌else◌, refl}
use Rattle.std.proofs.Common.{◌∙◌}
use Rattle.request_elements.specs.Elements.{same_element}
use Rattle.select_request.specs.Request.{find, text_at, text_in}
use Rattle.select_request.specs.Printed.{Part, opens, leaf, closes, print_part, truth_text, header_text, quoting_text, delimiter_text, parts_of}
use Rattle.select_request.proofs.PrintedElements.{found_in, found_of}
use Rattle.request_elements.specs.declared.element.Element.{Element}
use Rattle.request_elements.specs.declared.element.Element.TheVariants.{Request, Expression, ExpressionType, RequestProgress, Enabled, InputSerialization, CompressionType, CsvInput, AllowQuotedRecordDelimiter, Comments, InputFieldDelimiter, FileHeaderInfo, InputQuoteCharacter, InputQuoteEscapeCharacter, InputRecordDelimiter, JsonInput, JsonType, ParquetInput, OutputSerialization, CsvOutput, OutputFieldDelimiter, OutputQuoteCharacter, OutputQuoteEscapeCharacter, QuoteFields, CsvRecordDelimiter, JsonOutput, JsonRecordDelimiter, ScanRange, Start, End}
use Rattle.request_elements.specs.declared.found.Found.{Found}
use Rattle.select_request.specs.declared.request.CsvInput.{CsvInput as CsvInputSettings}
use Rattle.select_request.specs.declared.request.CsvOutput.{CsvOutput as CsvOutputSettings}
use Rattle.select_request.specs.declared.request.Delimiter.{Delimiter}
use Rattle.select_request.specs.declared.request.Input.{Input}
use Rattle.select_request.specs.declared.request.Input.TheVariants.{Csv as CsvObject, JsonLines, JsonDocument, Parquet}
use Rattle.select_request.specs.declared.request.Output.{Output}
use Rattle.select_request.specs.declared.request.Output.TheVariants.{Csv as CsvReply, Json}
use Rattle.select_request.specs.declared.request.ScanRange.{ScanRange as Range}
use Rattle.select_request.specs.declared.request.ScanRange.TheVariants.{Between, From, Last}
use Rattle.select_request.specs.declared.request.SelectRequest.{SelectRequest}

-- the text of an element among parts
abbrev pub text_of : Element → List Part → Option (List ℕ)
text_of e [] = None
text_of e (opens x ∷ parts) = if same_element x e then Some [] else text_of e parts
text_of e (leaf x text ∷ parts) = if same_element x e then Some text else text_of e parts
text_of e (closes x ∷ parts) = text_of e parts

one_or_later : (e x : Element) (f : Found) (found : List Found) (later : Option (List ℕ)) → text_in e found ≡ later
    → text_at (if same_element x e then Some f else find e found) ≡ (if same_element x e then Some f.text else later)
one_or_later e x f found later h =
    elim (same_element x e) as (λ b. text_at (if b then Some f else find e found) ≡ (if b then Some f.text else later)) [ true ↦ refl | false ↦ h ]

-- the places don't matter
pub found_text : (e : Element) (at : ℕ) (parts : List Part) → text_in e (found_in at parts) ≡ text_of e parts
found_text e at [] = refl
found_text e at (opens x ∷ parts) = one_or_later e x (record { element = x; at = at; text = [] }) _ _ (found_text e (at + length (print_part (opens x))) parts)
found_text e at (leaf x text ∷ parts) = one_or_later e x (record { element = x; at = at; text = text }) _ _ (found_text e (at + length (print_part (leaf x text))) parts)
found_text e at (closes x ∷ parts) = found_text e (at + length (print_part (closes x))) parts

-- ---- what is looked up in a printed body

abbrev pub of_csv_input : (CsvInputSettings → List ℕ) → Input → Option (List ℕ)
of_csv_input text (CsvObject csv) = Some (text csv)
of_csv_input text JsonLines = None
of_csv_input text JsonDocument = None
of_csv_input text Parquet = None

abbrev pub of_json_input : List ℕ → List ℕ → Input → Option (List ℕ)
of_json_input lines document (CsvObject csv) = None
of_json_input lines document JsonLines = Some lines
of_json_input lines document JsonDocument = Some document
of_json_input lines document Parquet = None

abbrev pub of_parquet : Input → Option (List ℕ)
of_parquet (CsvObject csv) = None
of_parquet JsonLines = None
of_parquet JsonDocument = None
of_parquet Parquet = Some []

abbrev pub of_csv_output : (CsvOutputSettings → List ℕ) → Output → Option (List ℕ)
of_csv_output text (CsvReply csv) = Some (text csv)
of_csv_output text (Json delimiter) = None

abbrev pub of_json_output : (Delimiter → List ℕ) → Output → Option (List ℕ)
of_json_output text (CsvReply csv) = None
of_json_output text (Json delimiter) = Some (text delimiter)

abbrev pub of_range : Option Range → Option (List ℕ)
of_range None = None
of_range (Some range) = Some []

abbrev pub of_start : Option Range → Option (List ℕ)
of_start None = None
of_start (Some (Between start end)) = Some (decimal start)
of_start (Some (From start)) = Some (decimal start)
of_start (Some (Last count)) = None

abbrev pub of_end : Option Range → Option (List ℕ)
of_end None = None
of_end (Some (Between start end)) = Some (decimal end)
of_end (Some (From start)) = None
of_end (Some (Last count)) = Some (decimal count)

abbrev pub wanted : SelectRequest → Element → Option (List ℕ)
wanted r Request = Some []
wanted r Expression = Some r.expression
wanted r ExpressionType = Some (codes "SQL")
wanted r RequestProgress = Some []
wanted r Enabled = Some (truth_text r.progress)
wanted r InputSerialization = Some []
wanted r CompressionType = Some (codes "NONE")
wanted r CsvInput = of_csv_input (λ csv. []) r.input
wanted r AllowQuotedRecordDelimiter = of_csv_input (λ csv. truth_text csv.quoted_delimiters) r.input
wanted r Comments = of_csv_input (λ csv. csv.comment ∷ []) r.input
wanted r InputFieldDelimiter = of_csv_input (λ csv. csv.field ∷ []) r.input
wanted r FileHeaderInfo = of_csv_input (λ csv. header_text csv.header) r.input
wanted r InputQuoteCharacter = of_csv_input (λ csv. csv.quote ∷ []) r.input
wanted r InputQuoteEscapeCharacter = of_csv_input (λ csv. csv.escape ∷ []) r.input
wanted r InputRecordDelimiter = of_csv_input (λ csv. delimiter_text csv.delimiter) r.input
wanted r JsonInput = of_json_input [] [] r.input
wanted r JsonType = of_json_input (codes "LINES") (codes "DOCUMENT") r.input
wanted r ParquetInput = of_parquet r.input
wanted r OutputSerialization = Some []
wanted r CsvOutput = of_csv_output (λ csv. []) r.output
wanted r OutputFieldDelimiter = of_csv_output (λ csv. csv.field ∷ []) r.output
wanted r OutputQuoteCharacter = of_csv_output (λ csv. csv.quote ∷ []) r.output
wanted r OutputQuoteEscapeCharacter = of_csv_output (λ csv. csv.escape ∷ []) r.output
wanted r QuoteFields = of_csv_output (λ csv. quoting_text csv.always) r.output
wanted r CsvRecordDelimiter = of_csv_output (λ csv. delimiter_text csv.delimiter) r.output
wanted r JsonOutput = of_json_output (λ delimiter. []) r.output
wanted r JsonRecordDelimiter = of_json_output delimiter_text r.output
wanted r ScanRange = of_range r.range
wanted r Start = of_start r.range
wanted r End = of_end r.range

abbrev pub request_with : List ℕ → Bool → Input → Output → Option Range → SelectRequest
request_with x p i o g = record { expression = x; progress = p; input = i; output = o; range = g }

text_is : (x : List ℕ) (p : Bool) (i : Input) (o : Output) (g : Option Range) (e : Element)
    → text_of e (parts_of (request_with x p i o g)) ≡ wanted (request_with x p i o g) e
unfolding parts_of
text_is x p (CsvObject csv) (CsvReply out) None Request = refl
text_is x p (CsvObject csv) (CsvReply out) None e = refl
text_is x p (CsvObject csv) (CsvReply out) (Some (Between a b)) Request = refl
text_is x p (CsvObject csv) (CsvReply out) (Some (Between a b)) e = refl
text_is x p (CsvObject csv) (CsvReply out) (Some (From a)) Request = refl
text_is x p (CsvObject csv) (CsvReply out) (Some (From a)) e = refl
text_is x p (CsvObject csv) (CsvReply out) (Some (Last b)) Request = refl
text_is x p (CsvObject csv) (CsvReply out) (Some (Last b)) e = refl
text_is x p (CsvObject csv) (Json d) None Request = refl
text_is x p (CsvObject csv) (Json d) None e = refl
text_is x p (CsvObject csv) (Json d) (Some (Between a b)) Request = refl
text_is x p (CsvObject csv) (Json d) (Some (Between a b)) e = refl
text_is x p (CsvObject csv) (Json d) (Some (From a)) Request = refl
text_is x p (CsvObject csv) (Json d) (Some (From a)) e = refl
text_is x p (CsvObject csv) (Json d) (Some (Last b)) Request = refl
text_is x p (CsvObject csv) (Json d) (Some (Last b)) e = refl
text_is x p JsonLines (CsvReply out) None Request = refl
text_is x p JsonLines (CsvReply out) None e = refl
text_is x p JsonLines (CsvReply out) (Some (Between a b)) Request = refl
text_is x p JsonLines (CsvReply out) (Some (Between a b)) e = refl
text_is x p JsonLines (CsvReply out) (Some (From a)) Request = refl
text_is x p JsonLines (CsvReply out) (Some (From a)) e = refl
text_is x p JsonLines (CsvReply out) (Some (Last b)) Request = refl
text_is x p JsonLines (CsvReply out) (Some (Last b)) e = refl
text_is x p JsonLines (Json d) None Request = refl
text_is x p JsonLines (Json d) None e = refl
text_is x p JsonLines (Json d) (Some (Between a b)) Request = refl
text_is x p JsonLines (Json d) (Some (Between a b)) e = refl
text_is x p JsonLines (Json d) (Some (From a)) Request = refl
text_is x p JsonLines (Json d) (Some (From a)) e = refl
text_is x p JsonLines (Json d) (Some (Last b)) Request = refl
text_is x p JsonLines (Json d) (Some (Last b)) e = refl
text_is x p JsonDocument (CsvReply out) None Request = refl
text_is x p JsonDocument (CsvReply out) None e = refl
text_is x p JsonDocument (CsvReply out) (Some (Between a b)) Request = refl
text_is x p JsonDocument (CsvReply out) (Some (Between a b)) e = refl
text_is x p JsonDocument (CsvReply out) (Some (From a)) Request = refl
text_is x p JsonDocument (CsvReply out) (Some (From a)) e = refl
text_is x p JsonDocument (CsvReply out) (Some (Last b)) Request = refl
text_is x p JsonDocument (CsvReply out) (Some (Last b)) e = refl
text_is x p JsonDocument (Json d) None Request = refl
text_is x p JsonDocument (Json d) None e = refl
text_is x p JsonDocument (Json d) (Some (Between a b)) Request = refl
text_is x p JsonDocument (Json d) (Some (Between a b)) e = refl
text_is x p JsonDocument (Json d) (Some (From a)) Request = refl
text_is x p JsonDocument (Json d) (Some (From a)) e = refl
text_is x p JsonDocument (Json d) (Some (Last b)) Request = refl
text_is x p JsonDocument (Json d) (Some (Last b)) e = refl
text_is x p Parquet (CsvReply out) None Request = refl
text_is x p Parquet (CsvReply out) None e = refl
text_is x p Parquet (CsvReply out) (Some (Between a b)) Request = refl
text_is x p Parquet (CsvReply out) (Some (Between a b)) e = refl
text_is x p Parquet (CsvReply out) (Some (From a)) Request = refl
text_is x p Parquet (CsvReply out) (Some (From a)) e = refl
text_is x p Parquet (CsvReply out) (Some (Last b)) Request = refl
text_is x p Parquet (CsvReply out) (Some (Last b)) e = refl
text_is x p Parquet (Json d) None Request = refl
text_is x p Parquet (Json d) None e = refl
text_is x p Parquet (Json d) (Some (Between a b)) Request = refl
text_is x p Parquet (Json d) (Some (Between a b)) e = refl
text_is x p Parquet (Json d) (Some (From a)) Request = refl
text_is x p Parquet (Json d) (Some (From a)) e = refl
text_is x p Parquet (Json d) (Some (Last b)) Request = refl
text_is x p Parquet (Json d) (Some (Last b)) e = refl

-- each element of a printed body has the text that is wanted
pub found_is : (r : SelectRequest) (e : Element) → text_in e (found_of r) ≡ wanted r e
unfolding found_of
found_is r e = found_text e 0 (parts_of r) ∙ text_is r.expression r.progress r.input r.output r.range e
