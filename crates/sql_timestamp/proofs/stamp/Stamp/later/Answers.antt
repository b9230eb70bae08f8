use Rattle.std.proofs.Common.{◌≡◌, arith, w16, w64, to_z, of_z, refl, ◌∙◌, ◌*ℤ◌, ◌+ℤ◌, FitsSigned}
use Rattle.jiff_core.proofs.SignedLemmas.{signed_arith}
use Rattle.sql_timestamp.proofs.Ranges.{kept, shown_open, made_moved, moved_lost, sum_fits, more_fits}
use Rattle.sql_timestamp.proofs.stamp.Stamp.later.Goals as goal

pub returns-in_default : goal.returns-in_default
returns-in_default c =
    let lost = rw (kept w64 c.args.n c.ranges.n, kept w64 c.args.unit c.ranges.unit) at c.in_default.ensures in
    let shows = shown_open c.self.inside.seconds c.self.inside.offset c.self.invariant.1 in
    moved_lost c.self.inside.seconds c.self.inside.offset (c.args.n *ℤ c.args.unit) c.self.inside.nanoseconds c.args.self.now c.self.invariant.0 c.self.view_is
    (more_fits c.self.inside.seconds c.self.inside.offset (c.args.n *ℤ c.args.unit) (c.args.n *ℤ c.args.unit) refl shows lost)

pub returns-in_default-checked_add : goal.returns-in_default-checked_add
returns-in_default-checked_add c =
    let shows = shown_open c.self.inside.seconds c.self.inside.offset c.self.invariant.1 in
    let product : c.in-Some.more ≡ c.args.n *ℤ c.args.unit = rw (kept w64 c.args.n c.ranges.n, kept w64 c.args.unit c.ranges.unit) at c.in-Some.ensures.1 in
    let fits : FitsSigned w64 c.in-Some.more = rw c.in-Some.ensures.1 c.in-Some.ensures.0 in
    moved_lost c.self.inside.seconds c.self.inside.offset (c.args.n *ℤ c.args.unit) c.self.inside.nanoseconds c.args.self.now c.self.invariant.0 c.self.view_is
    (sum_fits c.self.inside.seconds (to_z w64 (of_z w64 c.self.inside.seconds)) c.self.inside.offset (c.args.n *ℤ c.args.unit) (to_z w64 (of_z w64 c.in-Some.more))
    (kept w64 c.self.inside.seconds (omega (arith, signed_arith))) (kept w64 c.in-Some.more fits ∙ product) c.in_default-checked_add.ensures)

pub returns : goal.returns
returns c =
    let shows = shown_open c.self.inside.seconds c.self.inside.offset c.self.invariant.1 in
    let product : c.in-Some.more ≡ c.args.n *ℤ c.args.unit = rw (kept w64 c.args.n c.ranges.n, kept w64 c.args.unit c.ranges.unit) at c.in-Some.ensures.1 in
    let fits : FitsSigned w64 c.in-Some.more = rw c.in-Some.ensures.1 c.in-Some.ensures.0 in
    let sum = c.in-Some-checked_add.ensures in
    let total : FitsSigned w64 c.in-Some-checked_add.seconds = rw sum.1 sum.0 in
    let added : c.in-Some-checked_add.seconds ≡ c.self.inside.seconds +ℤ c.args.n *ℤ c.args.unit =
    rw (kept w64 c.self.inside.seconds (omega (arith, signed_arith)), kept w64 c.in-Some.more fits, product) at sum.1 in
    c.of.ensures
    ∙ made_moved (to_z w64 (of_z w64 c.in-Some-checked_add.seconds)) _ c.self.inside.seconds c.self.inside.offset (c.args.n *ℤ c.args.unit) c.self.inside.nanoseconds c.args.self.now c.self.view_is
    (kept w64 c.in-Some-checked_add.seconds total ∙ added) (kept w16 c.self.inside.offset (omega (arith, signed_arith)))
