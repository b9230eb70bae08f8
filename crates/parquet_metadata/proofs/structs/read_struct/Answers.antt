use Rattle.parquet_metadata.proofs.PlaceLemmas.{enter_place}
use Rattle.parquet_metadata.proofs.structs.read_struct.Goals as goal

pub returns-in-Err-clause-place : goal.returns-in-Err-clause-place
returns-in-Err-clause-place g c =
    λ sound. rw c.faulty.ensures (enter_place c.args.reader.now c.enter.new.self c.enter.result c.in-Err.fault sound c.enter.ensures.exact c.in-Err.is)
