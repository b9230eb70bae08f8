-- MIN and MAX (S3 Select reference, aggregate functions; SQL-92, section 6.5): the first value that none precedes, as each next value is
-- compared with the one that is kept. A text of over 4,096 bytes is refused first, then an object or array, then an unknown comparison.
use Rattle.std.specs.Prelude.{ℕ, nat_le, Bool, true, false, List, length, Result, Ok, Err, if◌then◌else◌}
use Rattle.std.specs.Str.{encode_utf8_all}
use Rattle.sql_timestamp.specs.declared.fault.ValueFault.{ValueFault}
use Rattle.sql_timestamp.specs.declared.fault.ValueFault.TheVariants.{InvalidOperands}
use Rattle.sql_value.specs.declared.value.Value.{Value}
use Rattle.sql_value.specs.declared.value.Value.TheVariants.{Missing, Null, Bool as Truth, Int, Dec, Text, Stamp, Node, Bad}
use Rattle.sql_value.specs.declared.comparing.Order.{Order}
use Rattle.sql_value.specs.declared.comparing.Order.TheVariants as order
use Rattle.sql_value.specs.Compared.{order_of}
use Rattle.sql_totals.specs.declared.fault.TotalFault.{TotalFault}
use Rattle.sql_totals.specs.declared.fault.TotalFault.TheVariants as refused
use Rattle.sql_totals.specs.declared.keeping.Extreme.{Extreme}
use Rattle.sql_totals.specs.declared.keeping.Extreme.TheVariants.{Least, Greatest}

-- whether a value precedes the one that is kept, by its order to that one
abbrev pub precedes : Extreme → Order → Result Bool ValueFault
precedes extreme order.Unknown = Err InvalidOperands
precedes extreme order.Equal = Ok false
precedes Least order.Less = Ok true
precedes Greatest order.Less = Ok false
precedes Least order.Greater = Ok false
precedes Greatest order.Greater = Ok true

-- whether it is kept in the other's place; NULL is none that is kept, and the first value is compared with nothing
abbrev pub replaces : Extreme → Value → Value → Result Bool ValueFault
replaces extreme Null v = Ok true
replaces extreme Missing v = precedes extreme (order_of v Missing)
replaces extreme (Truth b) v = precedes extreme (order_of v (Truth b))
replaces extreme (Int n) v = precedes extreme (order_of v (Int n))
replaces extreme (Dec d) v = precedes extreme (order_of v (Dec d))
replaces extreme (Text t) v = precedes extreme (order_of v (Text t))
replaces extreme (Stamp s) v = precedes extreme (order_of v (Stamp s))
replaces extreme (Node bytes) v = precedes extreme (order_of v (Node bytes))
replaces extreme (Bad fault) v = precedes extreme (order_of v (Bad fault))

abbrev pub kept_by : Result Bool ValueFault → Value → Value → Result Value TotalFault
kept_by (Err fault) kept v = Err (refused.Value fault)
kept_by (Ok false) kept v = Ok kept
kept_by (Ok true) kept v = Ok v

abbrev pub kept_of_two : Extreme → Value → Value → Result Value TotalFault
kept_of_two extreme kept v = kept_by (replaces extreme kept v) kept v

-- how many bytes of UTF-8 a text has at most
abbrev pub fits_room : List ℕ → Bool
fits_room t = nat_le (length (encode_utf8_all t)) 4096

abbrev pub kept_text : Extreme → Value → List ℕ → Result Value TotalFault
kept_text extreme kept t = if fits_room t then kept_of_two extreme kept (Text t) else Err refused.OverMaxRecordSize

-- what is kept of a value and one more
abbrev pub kept_with : Extreme → Value → Value → Result Value TotalFault
kept_with extreme kept (Text t) = kept_text extreme kept t
kept_with extreme kept (Node bytes) = Err (refused.Value InvalidOperands)
kept_with extreme kept Missing = kept_of_two extreme kept Missing
kept_with extreme kept Null = kept_of_two extreme kept Null
kept_with extreme kept (Truth b) = kept_of_two extreme kept (Truth b)
kept_with extreme kept (Int n) = kept_of_two extreme kept (Int n)
kept_with extreme kept (Dec d) = kept_of_two extreme kept (Dec d)
kept_with extreme kept (Stamp s) = kept_of_two extreme kept (Stamp s)
kept_with extreme kept (Bad fault) = kept_of_two extreme kept (Bad fault)
