-- The texts of the codes, and the message that tells a code and its place.
use Rattle.std.specs.Prelude.{ℕ, List, ◌++◌, codes}
use Rattle.std.specs.Fmt.{decimal}
use Rattle.select_reply.specs.declared.code.Code.{Code}
use Rattle.select_reply.specs.declared.code.Code.TheVariants as code

abbrev pub code_text : Code → List ℕ
code_text code.MalformedXML = codes "MalformedXML"
code_text code.MissingRequiredParameter = codes "MissingRequiredParameter"
code_text code.InvalidExpressionType = codes "InvalidExpressionType"
code_text code.InvalidRequestParameter = codes "InvalidRequestParameter"
code_text code.InvalidCompressionFormat = codes "InvalidCompressionFormat"
code_text code.InvalidScanRange = codes "InvalidScanRange"
code_text code.UnsupportedScanRangeInput = codes "UnsupportedScanRangeInput"
code_text code.Lexer = codes "Lexer"
code_text code.Syntax = codes "Syntax"
code_text code.UnknownFunction = codes "UnknownFunction"
code_text code.UnsupportedType = codes "UnsupportedType"
code_text code.AggregateMixed = codes "AggregateMixed"
code_text code.BadEscape = codes "BadEscape"
code_text code.TooLong = codes "TooLong"
code_text code.TooDeep = codes "TooDeep"
code_text code.TooMany = codes "TooMany"
code_text code.NotBuilt = codes "NotBuilt"
code_text code.UnknownColumn = codes "UnknownColumn"
code_text code.UnsupportedSource = codes "UnsupportedSource"
code_text code.UnsupportedParquetType = codes "UnsupportedParquetType"
code_text code.UnsupportedParquetCodec = codes "UnsupportedParquetCodec"
code_text code.TooManyColumns = codes "TooManyColumns"
code_text code.NotParquet = codes "NotParquet"
code_text code.FooterTooLarge = codes "FooterTooLarge"
code_text code.BadFooter = codes "BadFooter"
code_text code.BadSchema = codes "BadSchema"
code_text code.BadPlaces = codes "BadPlaces"
code_text code.GroupsOutOfOrder = codes "GroupsOutOfOrder"
code_text code.OverMaxRecordSize = codes "OverMaxRecordSize"
code_text code.InvalidTextEncoding = codes "InvalidTextEncoding"
code_text code.TooManyFields = codes "TooManyFields"
code_text code.JSONParsingError = codes "JSONParsingError"
code_text code.JSONTooDeep = codes "JSONTooDeep"
code_text code.BadPage = codes "BadPage"
code_text code.PageTooLarge = codes "PageTooLarge"
code_text code.UnsupportedParquetEncoding = codes "UnsupportedParquetEncoding"
code_text code.CastFailed = codes "CastFailed"
code_text code.IntegerOverflow = codes "IntegerOverflow"
code_text code.NumberOverflow = codes "NumberOverflow"
code_text code.DivideByZero = codes "DivideByZero"
code_text code.TimestampOutOfRange = codes "TimestampOutOfRange"
code_text code.InvalidOperands = codes "InvalidOperands"

-- the message of an error: the code, and the place in bytes
abbrev pub message : Code → ℕ → List ℕ
message code at = code_text code ++ codes " at byte " ++ decimal at
