use Rattle.parquet_metadata.proofs.PlaceLemmas.{field_place}
use Rattle.parquet_metadata.proofs.structs.take_fields.Goals as goal

pub returns-in-Err-clause-place : goal.returns-in-Err-clause-place
returns-in-Err-clause-place g c =
    λ sound. rw c.faulty.ensures (field_place c.loop-number.reader c.field.new.self c.field.result c.in-Err.fault c.loop-number.invariant.sound c.field.ensures.exact c.in-Err.is)
