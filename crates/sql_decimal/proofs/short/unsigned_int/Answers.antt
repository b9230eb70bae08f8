use Rattle.std.proofs.Common.{arith, ◌∙◌, sym, to_z, of_z}
use Rattle.std.specs.Int.{w64}
use Rattle.std.proofs.lemmas.Int.{to_z-of_z}
use Rattle.sql_decimal.proofs.ReadingBytes.{digits_first, whole_number-short}
use Rattle.sql_decimal.proofs.short.unsigned_int.Goals as goal

pub returns : goal.returns
returns c =
    let digits = c.in_ok-whole.whole in
    let found = c.in_ok-whole.ensures in
    let int = c.with_sign.result in
    let ends = c.ends.ensures c.if-not-ends.false in
    digits_first c.args.bytes.now c.args.from digits.end digits.value c.args.negative found.digits (omega (arith, found.from, c.if-whole-from.false)) (omega (arith, found.from, found.bound, c.if-whole-from.false))
    ∙ ends.whole c.args.negative digits.value
    ∙ sym (whole_number-short c.args.negative digits.value (to_z w64 (of_z w64 int)) found.value
    (to_z-of_z w64 int (record { sfits = c.with_sign.type_inv }) ∙ c.with_sign.ensures))
