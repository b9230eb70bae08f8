-- The elements of a request body (Amazon S3 API Reference, SelectObjectContent): their names, and which
-- stand in which.
use Rattle.std.specs.Prelude.{ℕ, Bool, true, false, nat_eq, ◌&&◌, List, [], ◌∷◌, Option, None, Some, codes, bytes_eq, if◌then◌else◌}
use Rattle.request_elements.specs.declared.element.Element.{Element}
use Rattle.request_elements.specs.declared.element.Element.TheVariants.{Request, Expression, ExpressionType, RequestProgress, Enabled, InputSerialization, CompressionType, CsvInput, AllowQuotedRecordDelimiter, Comments, InputFieldDelimiter, FileHeaderInfo, InputQuoteCharacter, InputQuoteEscapeCharacter, InputRecordDelimiter, JsonInput, JsonType, ParquetInput, OutputSerialization, CsvOutput, OutputFieldDelimiter, OutputQuoteCharacter, OutputQuoteEscapeCharacter, QuoteFields, CsvRecordDelimiter, JsonOutput, JsonRecordDelimiter, ScanRange, Start, End}

-- the name of its tags
abbrev pub name_of : Element → List ℕ
name_of Request = codes "SelectObjectContentRequest"
name_of Expression = codes "Expression"
name_of ExpressionType = codes "ExpressionType"
name_of RequestProgress = codes "RequestProgress"
name_of Enabled = codes "Enabled"
name_of InputSerialization = codes "InputSerialization"
name_of CompressionType = codes "CompressionType"
name_of CsvInput = codes "CSV"
name_of AllowQuotedRecordDelimiter = codes "AllowQuotedRecordDelimiter"
name_of Comments = codes "Comments"
name_of InputFieldDelimiter = codes "FieldDelimiter"
name_of FileHeaderInfo = codes "FileHeaderInfo"
name_of InputQuoteCharacter = codes "QuoteCharacter"
name_of InputQuoteEscapeCharacter = codes "QuoteEscapeCharacter"
name_of InputRecordDelimiter = codes "RecordDelimiter"
name_of JsonInput = codes "JSON"
name_of JsonType = codes "Type"
name_of ParquetInput = codes "Parquet"
name_of OutputSerialization = codes "OutputSerialization"
name_of CsvOutput = codes "CSV"
name_of OutputFieldDelimiter = codes "FieldDelimiter"
name_of OutputQuoteCharacter = codes "QuoteCharacter"
name_of OutputQuoteEscapeCharacter = codes "QuoteEscapeCharacter"
name_of QuoteFields = codes "QuoteFields"
name_of CsvRecordDelimiter = codes "RecordDelimiter"
name_of JsonOutput = codes "JSON"
name_of JsonRecordDelimiter = codes "RecordDelimiter"
name_of ScanRange = codes "ScanRange"
name_of Start = codes "Start"
name_of End = codes "End"

-- whether it holds a text, and no elements
abbrev pub is_leaf : Element → Bool
is_leaf Request = false
is_leaf Expression = true
is_leaf ExpressionType = true
is_leaf RequestProgress = false
is_leaf Enabled = true
is_leaf InputSerialization = false
is_leaf CompressionType = true
is_leaf CsvInput = false
is_leaf AllowQuotedRecordDelimiter = true
is_leaf Comments = true
is_leaf InputFieldDelimiter = true
is_leaf FileHeaderInfo = true
is_leaf InputQuoteCharacter = true
is_leaf InputQuoteEscapeCharacter = true
is_leaf InputRecordDelimiter = true
is_leaf JsonInput = false
is_leaf JsonType = true
is_leaf ParquetInput = false
is_leaf OutputSerialization = false
is_leaf CsvOutput = false
is_leaf OutputFieldDelimiter = true
is_leaf OutputQuoteCharacter = true
is_leaf OutputQuoteEscapeCharacter = true
is_leaf QuoteFields = true
is_leaf CsvRecordDelimiter = true
is_leaf JsonOutput = false
is_leaf JsonRecordDelimiter = true
is_leaf ScanRange = false
is_leaf Start = true
is_leaf End = true

-- the element that it stands in
abbrev pub parent_of : Element → Option Element
parent_of Request = None
parent_of Expression = Some Request
parent_of ExpressionType = Some Request
parent_of RequestProgress = Some Request
parent_of Enabled = Some RequestProgress
parent_of InputSerialization = Some Request
parent_of CompressionType = Some InputSerialization
parent_of CsvInput = Some InputSerialization
parent_of AllowQuotedRecordDelimiter = Some CsvInput
parent_of Comments = Some CsvInput
parent_of InputFieldDelimiter = Some CsvInput
parent_of FileHeaderInfo = Some CsvInput
parent_of InputQuoteCharacter = Some CsvInput
parent_of InputQuoteEscapeCharacter = Some CsvInput
parent_of InputRecordDelimiter = Some CsvInput
parent_of JsonInput = Some InputSerialization
parent_of JsonType = Some JsonInput
parent_of ParquetInput = Some InputSerialization
parent_of OutputSerialization = Some Request
parent_of CsvOutput = Some OutputSerialization
parent_of OutputFieldDelimiter = Some CsvOutput
parent_of OutputQuoteCharacter = Some CsvOutput
parent_of OutputQuoteEscapeCharacter = Some CsvOutput
parent_of QuoteFields = Some CsvOutput
parent_of CsvRecordDelimiter = Some CsvOutput
parent_of JsonOutput = Some OutputSerialization
parent_of JsonRecordDelimiter = Some JsonOutput
parent_of ScanRange = Some Request
parent_of Start = Some ScanRange
parent_of End = Some ScanRange

-- its place in the table
abbrev pub number_of : Element → ℕ
number_of Request = 0
number_of Expression = 1
number_of ExpressionType = 2
number_of RequestProgress = 3
number_of Enabled = 4
number_of InputSerialization = 5
number_of CompressionType = 6
number_of CsvInput = 7
number_of AllowQuotedRecordDelimiter = 8
number_of Comments = 9
number_of InputFieldDelimiter = 10
number_of FileHeaderInfo = 11
number_of InputQuoteCharacter = 12
number_of InputQuoteEscapeCharacter = 13
number_of InputRecordDelimiter = 14
number_of JsonInput = 15
number_of JsonType = 16
number_of ParquetInput = 17
number_of OutputSerialization = 18
number_of CsvOutput = 19
number_of OutputFieldDelimiter = 20
number_of OutputQuoteCharacter = 21
number_of OutputQuoteEscapeCharacter = 22
number_of QuoteFields = 23
number_of CsvRecordDelimiter = 24
number_of JsonOutput = 25
number_of JsonRecordDelimiter = 26
number_of ScanRange = 27
number_of Start = 28
number_of End = 29

abbrev pub same_element : Element → Element → Bool
same_element a b = nat_eq (number_of a) (number_of b)

-- whether this element is the parent
abbrev pub is_parent : Element → Option Element → Bool
is_parent parent None = false
is_parent parent (Some element) = same_element parent element

-- whether the second element stands in the first
abbrev pub is_child : Element → Element → Bool
is_child parent child = is_parent parent (parent_of child)

-- the table: each element behind the one that it stands in
abbrev pub all_elements : List Element
all_elements = Request ∷ Expression ∷ ExpressionType ∷ RequestProgress ∷ Enabled ∷ InputSerialization ∷ CompressionType ∷ CsvInput ∷ AllowQuotedRecordDelimiter ∷ Comments ∷ InputFieldDelimiter ∷ FileHeaderInfo ∷ InputQuoteCharacter ∷ InputQuoteEscapeCharacter ∷ InputRecordDelimiter ∷ JsonInput ∷ JsonType ∷ ParquetInput ∷ OutputSerialization ∷ CsvOutput ∷ OutputFieldDelimiter ∷ OutputQuoteCharacter ∷ OutputQuoteEscapeCharacter ∷ QuoteFields ∷ CsvRecordDelimiter ∷ JsonOutput ∷ JsonRecordDelimiter ∷ ScanRange ∷ Start ∷ End ∷ []

-- the first of these elements that stands in the parent and has the name
abbrev pub first_named : Element → List ℕ → List Element → Option Element
first_named parent name [] = None
first_named parent name (e ∷ elements) = if is_child parent e && bytes_eq (name_of e) name then Some e else first_named parent name elements

-- the element of this name that stands in the parent
unfoldable pub child_named : Element → List ℕ → Option Element
child_named parent name = first_named parent name all_elements
