use Rattle.parquet_metadata.proofs.PlaceLemmas.{list_place}
use Rattle.parquet_metadata.proofs.members.read_list.Goals as goal

pub returns-in-Err-clause-place : goal.returns-in-Err-clause-place
returns-in-Err-clause-place g c =
    λ sound. rw c.faulty.ensures (list_place c.args.reader.now c.list.new.self c.list.result c.in-Err.fault sound c.list.ensures.exact c.in-Err.is)
