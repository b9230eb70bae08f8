use Rattle.parquet_runs.proofs.Turns.{started}
use Rattle.parquet_runs.proofs.cursor.RunCursor.start.Goals as goal

pub returns-clause-numbers : goal.returns-clause-numbers
returns-clause-numbers c = started c.args.width c.args.count c.args.bytes.now
