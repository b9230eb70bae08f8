use Rattle.std.proofs.Common.{◌≡◌, ◌+◌, ◌≤◌, sym, subst, refl, length, ◌++◌}
use Rattle.json_text.specs.Nodes.{Spells}
use Rattle.json_text.proofs.Squeezing.{compact_is}
use Rattle.json_text.proofs.node.JsonNode.write_compact.Goals as goal

pub returns-in-Ok-clause-fits : goal.returns-in-Ok-clause-fits
returns-in-Ok-clause-fits c =
    λ tree x. let e = compact_is c.token.result.now tree (subst (λ s. Spells s tree) (sym c.token.ensures.value) x) in
    (λ _. subst (λ l. length c.args.out.now.bytes + length l ≤ c.args.out.now.room) e (c.in-Ok.ensures.fits.0 refl), λ _. refl)

pub returns-in-Ok-clause-ok : goal.returns-in-Ok-clause-ok
returns-in-Ok-clause-ok c =
    λ tree x. let e = compact_is c.token.result.now tree (subst (λ s. Spells s tree) (sym c.token.ensures.value) x) in
    subst (λ l. c.write_squeezed.new.out ≡ record c.args.out.now { bytes = c.args.out.now.bytes ++ l }) e c.in-Ok.ensures.ok

pub returns-in-Err-clause-fits : goal.returns-in-Err-clause-fits
returns-in-Err-clause-fits c =
    λ tree x. let e = compact_is c.token.result.now tree (subst (λ s. Spells s tree) (sym c.token.ensures.value) x) in
    (λ f. absurd (cc), λ h. c.in-Err.ensures.fits.1 (subst (λ l. length c.args.out.now.bytes + length l ≤ c.args.out.now.room) (sym e) h))
