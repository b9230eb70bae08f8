-- The codes of refusals.
use Rattle.select_reply.specs.declared.code.Code.{Code}
use Rattle.select_reply.specs.declared.code.Code.TheVariants as code
use Rattle.select_request.specs.declared.fault.RequestFaultCode.{RequestFaultCode}
use Rattle.select_request.specs.declared.fault.RequestFaultCode.TheVariants as request
use Rattle.sql_grammar.specs.declared.error.SqlCode.{SqlCode}
use Rattle.sql_grammar.specs.declared.error.SqlCode.TheVariants as sql

-- each has the code of the same name

abbrev pub request_code : RequestFaultCode → Code
request_code request.MalformedXML = code.MalformedXML
request_code request.MissingRequiredParameter = code.MissingRequiredParameter
request_code request.InvalidExpressionType = code.InvalidExpressionType
request_code request.InvalidRequestParameter = code.InvalidRequestParameter
request_code request.InvalidCompressionFormat = code.InvalidCompressionFormat
request_code request.InvalidScanRange = code.InvalidScanRange
request_code request.UnsupportedScanRangeInput = code.UnsupportedScanRangeInput

abbrev pub sql_code : SqlCode → Code
sql_code sql.Lexer = code.Lexer
sql_code sql.Syntax = code.Syntax
sql_code sql.UnknownFunction = code.UnknownFunction
sql_code sql.UnsupportedType = code.UnsupportedType
sql_code sql.AggregateMixed = code.AggregateMixed
sql_code sql.BadEscape = code.BadEscape
sql_code sql.TooLong = code.TooLong
sql_code sql.TooDeep = code.TooDeep
sql_code sql.TooMany = code.TooMany
