use Rattle.std.proofs.Common.{◌<◌, ◌∙◌, ap, sym, subst}
use Rattle.parquet_delta.proofs.Turns.{taken}
use Rattle.parquet_delta.proofs.run.Run.take.Goals as goal

pub returns : goal.returns
returns c =
    let some : 0 < c.self.inside.inside = subst (λ n. 0 < n) (sym (ap (λ v. v.inside) c.self.view_is)) c.requires in
    rw c.next-packed.ensures.number
    (rw c.next-packed.ensures.left
    (sym (ap (λ v. v.deltas) c.self.view_is)
    ∙ taken c.self.inside.inside c.self.inside.mini.least c.self.inside.mini.width c.self.inside.mini.bits _ some))
