use Rattle.std.proofs.Common.{◌-◌, arith, ap, sym, subst, ◌∙◌}
use Rattle.std.specs.Int.Bits.{bit_and}
use Rattle.packed_bits.specs.Packed.{little}
use Rattle.packed_bits.proofs.Splits.{Enough, filled, low_part, high_part, still_small, mask_fits}
use Rattle.packed_bits.proofs.reader.BitReader.take.Goals as goal
use Rattle.packed_bits.proofs.reader.BitReader.take.Goals.{then-self-width, else-self-width}

-- in both cases what is held has the bits that are asked for
enough : (c : goal.After-self-3-1)
    → Enough c.if-self-width.self-inside.held c.if-self-width.self-inside.count (little c.if-self-width.self-inside.rest.now) c.args.self.now c.args.width
enough c = elim c.if-self-width.branch [
  | then-self-width w ↦ subst (λ s. Enough s.held s.count (little s.rest.now) c.args.self.now c.args.width) (sym w.self-inside-is)
      (filled c.self.inside.held c.self.inside.count w.next_word-word.result.0 _ _ c.args.self.now c.args.width w.if-self-width.true c.requires
      c.self.invariant.1 w.next_word-word.ensures.small w.next_word-word.ensures.number c.self.view_is)
  | else-self-width w ↦ subst (λ s. Enough s.held s.count (little s.rest.now) c.args.self.now c.args.width) (sym w.self-inside-is)
      (record { asked = w.if-self-width.false; few = c.self.invariant.0; small = c.self.invariant.1; all = c.self.view_is })
]

pub invariant_of-self : goal.invariant_of-self
invariant_of-self c = (omega (arith, (enough c).few), still_small _ _ _ _ _ (enough c))

pub returns-clause-number : goal.returns-clause-number
returns-clause-number c =
    ap (λ p. bit_and c.if-self-width.self-inside.held (p - 1)) (mask_fits c.args.width c.requires) ∙ low_part _ _ _ _ _ (enough c)

pub returns-clause-left : goal.returns-clause-left
returns-clause-left c = high_part _ _ _ _ _ (enough c)
