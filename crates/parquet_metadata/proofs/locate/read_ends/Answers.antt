use Rattle.std.proofs.Common.{◌∙◌, sym, arith}
use Rattle.parquet_metadata.proofs.ReadLemmas.{size_of, short_told, told_by, tells_by}
use Rattle.parquet_metadata.proofs.locate.read_ends.Goals as goal

pub returns-then-size-lt12-clause-told : goal.returns-then-size-lt12-clause-told
returns-then-size-lt12-clause-told g c =
    λ object tells. short_told object c.args.size (size_of _ object c.args.size c.requires.object tells) (omega arith)

pub returns-clause-told : goal.returns-clause-told
returns-clause-told g c =
    λ object tells.
    let first = c.as_slice.ensures ∙ c.in-Ok.ensures.told object tells in
    let last = c.as_slice-2.ensures ∙ c.in-Ok-read_array.ensures.told object (c.in-Ok.ensures.current ∙ tells) in
    tells_by object c.ends_in.result
    (told_by object c.as_slice.result.now c.as_slice-2.result.now c.args.size (size_of _ object c.args.size c.requires.object tells) (omega arith) first last
    ∙ sym c.ends_in.ensures.exact)
