use Rattle.std.proofs.Common.{◌<◌, ◌∙◌, ap, sym, subst, length}
use Rattle.parquet_delta.proofs.Turns.{emptied, some_left, not_none, rest_there, entered}
use Rattle.parquet_delta.proofs.run.Run.enter.Goals as goal

pub unreachable-requires : goal.unreachable-requires
unreachable-requires c =
    let deltas = emptied c.self.inside.inside _ _ _ (ap (λ v. v.inside) c.self.view_is ∙ c.requires.none) (ap (λ v. v.deltas) c.self.view_is) in
    let some = some_left c.self.inside.minis_left c.self.inside.blocks _ (subst (λ ds. 0 < length ds) (sym deltas) c.requires.some) in
    not_none c.self.inside.minis_left c.self.inside.blocks some c.self.invariant.1 c.in_default.ensures.mini

pub overflow_sub-self : goal.overflow_sub-self
overflow_sub-self c =
    let deltas = emptied c.self.inside.inside _ _ _ (ap (λ v. v.inside) c.self.view_is ∙ c.requires.none) (ap (λ v. v.deltas) c.self.view_is) in
    some_left c.self.inside.minis_left c.self.inside.blocks _ (subst (λ ds. 0 < length ds) (sym deltas) c.requires.some)

pub invariant_of-self : goal.invariant_of-self
invariant_of-self c =
    let deltas = emptied c.self.inside.inside _ _ _ (ap (λ v. v.inside) c.self.view_is ∙ c.requires.none) (ap (λ v. v.deltas) c.self.view_is) in
    let some = some_left c.self.inside.minis_left c.self.inside.blocks _ (subst (λ ds. 0 < length ds) (sym deltas) c.requires.some) in
    (c.in-Some.ensures.width, rest_there c.self.inside.minis_left c.self.inside.blocks _ some c.in-Some.ensures.mini c.self.invariant.1)

pub returns-clause-deltas : goal.returns-clause-deltas
returns-clause-deltas c =
    let deltas = emptied c.self.inside.inside _ _ _ (ap (λ v. v.inside) c.self.view_is ∙ c.requires.none) (ap (λ v. v.deltas) c.self.view_is) in
    let some = some_left c.self.inside.minis_left c.self.inside.blocks _ (subst (λ ds. 0 < length ds) (sym deltas) c.requires.some) in
    entered c.self.inside.minis_left _ c.self.inside.blocks _ _ some c.values-values.ensures.value c.in-Some.ensures.mini ∙ deltas
