use Rattle.std.proofs.Common.{ℕ, sym, subst, take, drop}
use Rattle.std.proofs.lemmas.Simd.{length-chunk}
use Rattle.byte_masks.specs.Masks.{Marks, is_high}
use Rattle.byte_masks.proofs.Marking.{Marks-lanes, high_bitmask}
use Rattle.byte_masks.proofs.lanes.high.Goals as goal

pub returns : goal.returns
returns g c =
    let v = take g.row.N (drop c.args.i c.args.s.now) in
    subst (λ (m : ℕ). Marks is_high v m)
    (sym (high_bitmask v g.row.N (length-chunk c.args.i g.row.N c.args.s.now c.requires.within) c.requires.short))
    (Marks-lanes is_high v)
