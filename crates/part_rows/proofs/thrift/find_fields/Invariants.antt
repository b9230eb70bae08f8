use Rattle.thrift_compact.specs.States.{CanReadField}
use Rattle.part_rows.proofs.thrift.find_fields.Given as goal

abbrev pub invariant-loop-entry : goal.invariant-loop-entry
invariant-loop-entry l = CanReadField l.reader
