-- What an aggregate's memory stands for.
use Rattle.sql_totals.specs.declared.slots.Slot.{Slot}
use Rattle.sql_totals.specs.declared.slots.Slot.TheVariants as slot
use Rattle.sql_totals.specs.Partials.{Partial, Counted, Summed, Averaged, Least, Greatest}

abbrev pub partial_of : Slot → Partial
partial_of (slot.Counted n) = Counted n
partial_of (slot.Summed sum) = Summed sum
partial_of (slot.Averaged a) = Averaged a.sum a.count
partial_of (slot.Least kept) = Least kept
partial_of (slot.Greatest kept) = Greatest kept
