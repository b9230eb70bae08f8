use Rattle.std.proofs.Common.{◌∙◌, ap, sym, refl, arith}
use Rattle.std.proofs.Math.Facts.{to_z-of_z}
use Rattle.parquet_delta.proofs.Counts.{none_left, one_left, last_left}
use Rattle.parquet_delta.proofs.deltas.Deltas.next.Goals as goal

pub returns-then-self-eq0-clause-value : goal.returns-then-self-eq0-clause-value
returns-then-self-eq0-clause-value c =
    (sym (ap (λ v. v.left) c.self.view_is) ∙ none_left c.self.inside.word c.self.inside.left c.self.inside.sum _ c.if-self-eq0.true, refl)

pub returns-then-self-gt0-clause-value : goal.returns-then-self-gt0-clause-value
returns-then-self-gt0-clause-value c =
    rw (to_z-of_z c.signed-value.ensures.range)
    (rw c.signed-value.ensures.value
    (sym (ap (λ v. v.left) c.self.view_is)
    ∙ one_left c.self.inside.word c.self.inside.left c.self.inside.sum c.next.result _ c.next.new.self.deltas (omega (arith, c.if-self-eq0.false)) c.next.ensures))

pub returns-else-self-gt0-clause-value : goal.returns-else-self-gt0-clause-value
returns-else-self-gt0-clause-value c =
    rw (to_z-of_z c.signed-value.ensures.range)
    (rw c.signed-value.ensures.value
    (sym (ap (λ v. v.left) c.self.view_is)
    ∙ last_left c.self.inside.word c.self.inside.left c.self.inside.sum _ (omega (arith, c.if-self-eq0.false)) (omega (arith, c.if-self-gt0.false))))
