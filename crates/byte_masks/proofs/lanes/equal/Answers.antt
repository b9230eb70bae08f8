use Rattle.std.proofs.Common.{ℕ, ◌==◌, sym, subst, take, drop, w8}
use Rattle.std.proofs.lemmas.Simd.{bitmask_splat, length-chunk}
use Rattle.byte_masks.specs.Masks.{Marks, is_byte}
use Rattle.byte_masks.proofs.Marking.{Marks-lanes}
use Rattle.byte_masks.proofs.lanes.equal.Goals as goal

pub returns : goal.returns
returns g c =
    let v = take g.row.N (drop c.args.i c.args.s.now) in
    subst (λ (m : ℕ). Marks (is_byte c.args.byte) v m)
    (sym (bitmask_splat w8 (λ x y. x == y) v g.row.N c.args.byte (length-chunk c.args.i g.row.N c.args.s.now c.requires.within) c.requires.short))
    (Marks-lanes (is_byte c.args.byte) v)
