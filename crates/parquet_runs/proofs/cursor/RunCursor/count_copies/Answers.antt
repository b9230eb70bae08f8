use Rattle.std.proofs.Common.{◌∙◌, ◌+◌, ap, sym}
use Rattle.parquet_runs.specs.Hybrid.{count_from}
use Rattle.parquet_runs.specs.Cursors.{numbers_left}
use Rattle.parquet_runs.proofs.Counts.{counted_copies}
use Rattle.parquet_runs.proofs.cursor.RunCursor.count_copies.Goals as goal

pub returns-clause-count : goal.returns-clause-count
returns-clause-count c =
    counted_copies c.args.self.now c.args.bytes.now c.args.least c.requires.copies
    ∙ ap (λ n. n + count_from c.args.least (numbers_left (record c.args.self.now { inside = 0 }) c.args.bytes.now)) (sym c.copies_from.ensures.value)
