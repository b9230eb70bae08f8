use Rattle.std.proofs.Common.{◌≡◌, ◌∙◌, true, false, ap, sym, subst, length, drop}
use Rattle.parquet_delta.specs.declared.word.Word.TheVariants.{Bits32}
use Rattle.parquet_delta.specs.Arrays.{are_lengths}
use Rattle.parquet_delta.proofs.Cuts.{opened, arrays_there, arrays_lack, no_list}
use Rattle.parquet_delta.proofs.lengths.Lengths.read.Goals as goal

pub returns-in_default : goal.returns-in_default
returns-in_default c = no_list c.args.count c.args.bytes.now c.in_default.ensures.exact

pub returns-then-not-are_lengths : goal.returns-then-not-are_lengths
returns-then-not-are_lengths c =
    let list = opened Bits32 c.args.count c.args.bytes.now c.in-Ok.lengths c.in-Ok.ensures.exact in
    let rest = c.split_at.ensures.back ∙ ap (λ n. drop n c.args.bytes.now) c.used.ensures in
    let fails = subst (λ l. are_lengths l.left (length c.split_at.result.1.now) ≡ false) c.again.ensures (sym c.if-not-are_lengths.ensures) in
    arrays_lack c.args.count c.in-Ok.lengths.used c.args.bytes.now _ c.in-Ok.lengths.left list.is rest fails

pub returns : goal.returns
returns c =
    let list = opened Bits32 c.args.count c.args.bytes.now c.in-Ok.lengths c.in-Ok.ensures.exact in
    let rest = c.split_at.ensures.back ∙ ap (λ n. drop n c.args.bytes.now) c.used.ensures in
    let fits = subst (λ l. are_lengths l.left (length c.split_at.result.1.now) ≡ true) c.again.ensures (sym c.if-not-are_lengths.ensures) in
    arrays_there c.args.count c.in-Ok.lengths.used c.args.bytes.now _ c.in-Ok.lengths.left list.is rest fits
