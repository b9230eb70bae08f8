use Rattle.std.proofs.Common.{arith}
use Rattle.parquet_delta.proofs.Opening.{found_of, count_of, refused_of}
use Rattle.parquet_delta.proofs.deltas.Deltas.open.Goals as goal

pub returns-clause-found : goal.returns-clause-found
returns-clause-found c =
    found_of c.args.word c.args.count c.args.bytes.now c.read.result (λ i. omega (arith, c.type_inv.bytes i)) c.read.ensures

pub returns-clause-count : goal.returns-clause-count
returns-clause-count c =
    count_of c.args.word c.args.count c.args.bytes.now c.read.result (λ i. omega (arith, c.type_inv.bytes i)) c.read.ensures

pub returns-clause-refused : goal.returns-clause-refused
returns-clause-refused c = refused_of c.args.word c.args.count c.args.bytes.now c.read.result c.read.ensures
