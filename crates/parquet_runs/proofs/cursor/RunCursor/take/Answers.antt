use Rattle.std.proofs.Common.{arith}
use Rattle.parquet_runs.proofs.Turns.{took_copy, took_packed}
use Rattle.parquet_runs.proofs.cursor.RunCursor.take.Goals as goal

pub returns-then-self-eq0-clause-number : goal.returns-then-self-eq0-clause-number
returns-then-self-eq0-clause-number c = took_copy c.args.self.now c.args.bytes.now c.requires.some c.if-self-eq0.true

pub returns-clause-number : goal.returns-clause-number
returns-clause-number c =
    rw c.from.ensures
    (took_packed c.args.self.now c.args.bytes.now c.packed_number-number.result c.requires.some (omega (arith, c.if-self-eq0.false))
    c.packed_number-number.ensures)
