use Rattle.parquet_delta.proofs.Turns.{none_inside}
use Rattle.parquet_delta.proofs.run.Run.new.Goals as goal

pub returns : goal.returns
returns c = none_inside _ _
