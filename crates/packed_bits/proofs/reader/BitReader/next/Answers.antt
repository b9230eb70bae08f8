use Rattle.std.proofs.Common.{◌-◌, ◌/◌, ◌^◌, ◌%◌, ap, ◌∙◌}
use Rattle.packed_bits.proofs.Splits.{joined, passed}
use Rattle.packed_bits.proofs.reader.BitReader.next.Goals as goal

pub returns-clause-number : goal.returns-clause-number
returns-clause-number c =
    joined c.args.self.now c.args.width _ _ c.if-width-le32.false c.requires c.take-low.ensures.number
    (c.take-high.ensures.number ∙ ap (λ n. n % 2 ^ (c.args.width - 32)) c.take-low.ensures.left)

pub returns-clause-left : goal.returns-clause-left
returns-clause-left c =
    c.take-high.ensures.left ∙ ap (λ n. n / 2 ^ (c.args.width - 32)) c.take-low.ensures.left ∙ passed c.args.self.now c.args.width c.if-width-le32.false
