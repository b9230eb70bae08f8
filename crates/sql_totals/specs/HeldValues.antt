-- The value that is kept, by where it is held.
use Rattle.std.specs.Prelude.{ℕ, List}
use Rattle.sql_value.specs.declared.value.Value.{Value}
use Rattle.sql_value.specs.declared.value.Value.TheVariants as value
use Rattle.sql_totals.specs.declared.keeping.Held.{Held}
use Rattle.sql_totals.specs.declared.keeping.Held.TheVariants.{Text, Other}

abbrev pub held_value : List ℕ → Held → Value
held_value room Text = value.Text room
held_value room (Other v) = v
