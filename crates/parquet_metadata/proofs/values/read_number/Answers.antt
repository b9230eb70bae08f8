use Rattle.parquet_metadata.proofs.PlaceLemmas.{int_place}
use Rattle.parquet_metadata.proofs.values.read_number.Goals as goal

pub returns-in-Err-clause-place : goal.returns-in-Err-clause-place
returns-in-Err-clause-place c =
    λ sound. rw c.faulty.ensures (int_place c.args.kind c.args.reader.now c.int.new.self c.int.result c.in-Err.fault sound c.int.ensures.exact c.in-Err.is)
