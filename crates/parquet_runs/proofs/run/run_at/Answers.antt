use Rattle.std.proofs.Common.{◌^◌, ◌-◌, sym}
use Rattle.parquet_runs.proofs.Sizes.{some_taken}
use Rattle.parquet_runs.proofs.run.run_at.Goals as goal

pub copies_at-requires-clause-some : goal.copies_at-requires-clause-some
copies_at-requires-clause-some c = some_taken (2 ^ 64 - 1) c.args.bytes.now (c.in-Ok.header, c.in-Ok.len) (sym c.in-Ok.ensures.exact)

pub packed_at-requires-clause-some : goal.packed_at-requires-clause-some
packed_at-requires-clause-some c = some_taken (2 ^ 64 - 1) c.args.bytes.now (c.in-Ok.header, c.in-Ok.len) (sym c.in-Ok.ensures.exact)
