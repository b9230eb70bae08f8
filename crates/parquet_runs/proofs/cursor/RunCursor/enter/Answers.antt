use Rattle.std.proofs.Common.{sym, arith}
use Rattle.parquet_runs.proofs.Turns.{no_run, entered, entered_ready}
use Rattle.parquet_runs.proofs.cursor.RunCursor.enter.Goals as goal

pub unreachable-requires : goal.unreachable-requires
unreachable-requires c =
    no_run c.args.self.now c.args.bytes.now c.split_at.result.1.now c.requires.ready c.split_at.ensures.back (sym c.in_default.ensures.exact)
    c.requires.some

pub returns-clause-numbers : goal.returns-clause-numbers
returns-clause-numbers c =
    entered c.args.self.now c.in-Some.run' c.args.bytes.now c.split_at.result.1.now (λ i. omega (arith, c.type_inv.bytes i)) c.split_at.ensures.back
    (sym c.in-Some.ensures.exact) c.requires.some c.in-Some.ensures.some c.in-Some.ensures.size c.requires.none

pub returns-clause-ready : goal.returns-clause-ready
returns-clause-ready c =
    entered_ready c.args.self.now c.in-Some.run' c.args.bytes.now c.split_at.result.1.now c.requires.ready c.split_at.ensures.back
    (sym c.in-Some.ensures.exact) c.requires.some c.in-Some.ensures.some c.in-Some.ensures.size c.requires.none c.in-Some.ensures.count
    c.in-Some.ensures.width c.in-Some.ensures.body
