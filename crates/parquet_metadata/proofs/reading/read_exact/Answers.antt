use Rattle.std.proofs.Common.{◌∙◌, arith}
use Rattle.parquet_metadata.proofs.ReadLemmas.{front_grows}
use Rattle.parquet_metadata.proofs.reading.read_exact.Goals as goal

pub loop-done-preserved : goal.loop-done-preserved
loop-done-preserved g c =
    let inv = c.loop-done.invariant in (
      record {
        within = omega (arith, c.in-Ok.ensures.room, inv.0.same);
        same = c.read_some.ensures.len ∙ inv.0.same;
        front = λ object tells. front_grows c.read_some.new.buffer c.loop-done.buffer object c.args.at c.loop-done.done c.in-Ok.read c.read_some.ensures.kept (inv.0.front object tells) (c.in-Ok.ensures.told object (inv.1 ∙ tells));
      },
      c.read_some.ensures.current ∙ inv.1,
      c.read_some.ensures.held ∙ inv.2,
      c.read_some.ensures.absent ∙ inv.3,
      omega (arith, inv.4, c.read_some.ensures.faults.kept),
      omega (arith, inv.5, c.in-Ok.ensures.taken),
    )
