use Rattle.std.proofs.Common.{◌∙◌, ◌%◌, ◌/◌, ◌^◌, ap, arith}
use Rattle.packed_bits.specs.Packed.{little}
use Rattle.parquet_runs.proofs.Bits.{at_bit}
use Rattle.parquet_runs.proofs.numbers.packed_number.Goals as goal

pub returns : goal.returns
returns c =
    c.next-2.ensures.number
    ∙ ap (λ x. x % 2 ^ c.args.width)
    (c.next.ensures.left
    ∙ ap (λ x. x / 2 ^ (c.args.bit % 8)) (c.over-bits.ensures ∙ ap little c.split_at.ensures.back)
    ∙ at_bit c.args.bit c.args.bytes.now (λ i. omega (arith, c.type_inv.bytes i)))
