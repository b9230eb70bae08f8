use Rattle.std.proofs.Common.{◌-◌, length}
use Rattle.parquet_metadata.proofs.FieldLemmas.{OnTheWay}
use Rattle.parquet_metadata.proofs.structs.take_fields.Given as goal

abbrev pub invariant-loop-number : goal.invariant-loop-number
invariant-loop-number g l = OnTheWay g.S.Slots.put l.initial.reader l.initial.slots l.reader l.slots

abbrev pub decreases-loop-number : goal.decreases-loop-number
decreases-loop-number g l = length l.reader.bytes - l.reader.at
