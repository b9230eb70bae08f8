use Rattle.std.proofs.Common.{◌∙◌, sym}
use Rattle.parquet_runs.proofs.Turns.{emptied}
use Rattle.parquet_runs.proofs.cursor.RunCursor.next.Goals as goal

pub returns-then-self-eq0-clause-number : goal.returns-then-self-eq0-clause-number
returns-then-self-eq0-clause-number c =
    let end = emptied c.fill.new.self c.args.bytes.now c.if-self-eq0.true (c.fill.ensures.last c.if-self-eq0.true) in
    (sym c.fill.ensures.numbers ∙ end, end)
