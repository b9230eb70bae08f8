use Rattle.std.proofs.Common.{arith}
use Rattle.parquet_delta.proofs.ArraysSpelled.{arrays_of, no_arrays_of}
use Rattle.parquet_delta.proofs.lengths.Lengths.open.Goals as goal

pub returns-clause-found : goal.returns-clause-found
returns-clause-found c = arrays_of c.args.count c.args.bytes.now c.read.result (λ i. omega (arith, c.type_inv.bytes i)) c.read.ensures

pub returns-clause-refused : goal.returns-clause-refused
returns-clause-refused c = no_arrays_of c.args.count c.args.bytes.now c.read.result c.read.ensures
