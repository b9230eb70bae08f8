-- The code that a fault of a value gives to its record.
use Rattle.sql_timestamp.specs.declared.fault.ValueFault.{ValueFault}
use Rattle.sql_timestamp.specs.declared.fault.ValueFault.TheVariants as fault
use Rattle.select_reply.specs.declared.code.Code.{Code}
use Rattle.select_reply.specs.declared.code.Code.TheVariants.{CastFailed, IntegerOverflow, NumberOverflow, DivideByZero, TimestampOutOfRange, InvalidOperands, InvalidTextEncoding}

-- the code of the same name
abbrev pub value_code : ValueFault → Code
value_code fault.CastFailed = CastFailed
value_code fault.IntegerOverflow = IntegerOverflow
value_code fault.NumberOverflow = NumberOverflow
value_code fault.DivideByZero = DivideByZero
value_code fault.TimestampOutOfRange = TimestampOutOfRange
value_code fault.InvalidOperands = InvalidOperands
value_code fault.InvalidTextEncoding = InvalidTextEncoding
