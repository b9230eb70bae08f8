-- What a text of either kind shows.
use Rattle.std.specs.Prelude.{ℕ, List}
use Rattle.std.specs.Str.{chars}
use Rattle.sql_decimal.specs.Printing.{printed}
use Rattle.sql_timestamp.specs.Printing.{printed_timestamp}
use Rattle.value_text.specs.declared.text.Kind.{Kind}
use Rattle.value_text.specs.declared.text.Kind.TheVariants.{Lent, Number, Moment}
use Rattle.value_text.specs.Cuts.{cut_of}

-- the lent characters, or those that are left of what is printed
abbrev pub held : Kind → List ℕ
held (Lent text) = text
held (Number cut dec) = cut_of cut (chars (printed dec))
held (Moment cut stamp) = cut_of cut (chars (printed_timestamp stamp))
