use Rattle.std.proofs.Common.{◌∙◌, Some, ap, sym, drop}
use Rattle.parquet_delta.specs.declared.word.Word.TheVariants.{Bits32}
use Rattle.parquet_delta.specs.Arrays.{longest_of, joined}
use Rattle.parquet_delta.proofs.Cuts.{opened}
use Rattle.parquet_delta.proofs.Joins.{fronts_there, fronts_unfit, fronts_no_suffixes, fronts_no_prefixes}
use Rattle.parquet_delta.proofs.fronts.Fronts.read.Goals as goal

pub returns-in_default : goal.returns-in_default
returns-in_default c = λ f is. fronts_no_prefixes c.args.count c.args.bytes.now c.in_default.ensures.exact

pub returns-in_default-open : goal.returns-in_default-open
returns-in_default-open c = λ f is.
    let list = opened Bits32 c.args.count c.args.bytes.now c.in-Ok.prefixes c.in-Ok.ensures.exact in
    let rest = c.split_at.ensures.back ∙ ap (λ n. drop n c.args.bytes.now) c.used.ensures in
    fronts_no_suffixes c.args.count c.in-Ok.prefixes.used c.args.bytes.now _ c.in-Ok.prefixes.left list.is rest c.in_default-open.ensures.exact

pub returns-in_default-longest : goal.returns-in_default-longest
returns-in_default-longest c = λ f is.
    let list = opened Bits32 c.args.count c.args.bytes.now c.in-Ok.prefixes c.in-Ok.ensures.exact in
    let rest = c.split_at.ensures.back ∙ ap (λ n. drop n c.args.bytes.now) c.used.ensures in
    let none = ap (λ l. longest_of 0 l.left c.in-Ok-open.suffixes) (sym c.again.ensures) ∙ ap (longest_of 0 c.again.result.left) (sym c.again-2.ensures)
    ∙ sym c.longest.ensures ∙ c.in_default-longest.is in
    fronts_unfit c.args.count c.in-Ok.prefixes.used c.args.bytes.now _ c.in-Ok.prefixes.left c.in-Ok-open.suffixes list.is rest c.in-Ok-open.ensures.exact none

pub returns : goal.returns
returns c =
    let list = opened Bits32 c.args.count c.args.bytes.now c.in-Ok.prefixes c.in-Ok.ensures.exact in
    let rest = c.split_at.ensures.back ∙ ap (λ n. drop n c.args.bytes.now) c.used.ensures in
    let some = ap (λ l. longest_of 0 l.left c.in-Ok-open.suffixes) (sym c.again.ensures) ∙ ap (longest_of 0 c.again.result.left) (sym c.again-2.ensures)
    ∙ sym c.longest.ensures ∙ c.in-Some.is in
    fronts_there c.args.count c.in-Ok.prefixes.used c.in-Some.longest c.args.bytes.now _ c.in-Ok.prefixes.left c.in-Ok-open.suffixes list.is rest
    c.in-Ok-open.ensures.exact some
    ∙ ap (λ v. Some (joined v c.in-Ok.prefixes.left c.in-Ok-open.suffixes)) (sym c.in-Ok-with_capacity.ensures.items)
