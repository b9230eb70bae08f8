use Rattle.parquet_metadata.proofs.PlaceLemmas.{bytes_place}
use Rattle.parquet_metadata.proofs.values.read_bytes.Goals as goal

pub returns-in-Err-clause-place : goal.returns-in-Err-clause-place
returns-in-Err-clause-place c =
    λ sound. rw c.faulty.ensures (bytes_place (λ r. r.now) c.args.reader.now c.bytes.new.self c.bytes.result c.in-Err.fault sound c.bytes.ensures.exact c.in-Err.is)
