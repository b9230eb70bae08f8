use Rattle.std.proofs.Common.{◌∙◌, Ok, ap, sym, arith}
use Rattle.parquet_metadata.proofs.ReadLemmas.{size_of, located_fault, located_large, located_long, located_by, long_as_told}
use Rattle.parquet_metadata.proofs.locate.read_footer_bytes.Goals as goal

pub returns-in-Err-clause-told : goal.returns-in-Err-clause-told
returns-in-Err-clause-told g c =
    λ object tells. located_fault object c.in-Err.error (c.in-Err.ensures.told object tells)

pub returns-then-len-gt-LARGEST_FOOTER-clause-told : goal.returns-then-len-gt-LARGEST_FOOTER-clause-told
returns-then-len-gt-LARGEST_FOOTER-clause-told g c =
    λ object tells. located_large object c.in-Ok.len (c.in-Ok.ensures.told object tells) (omega arith)

pub returns-then-len-size-clause-told : goal.returns-then-len-size-clause-told
returns-then-len-size-clause-told g c =
    λ object tells. located_long object c.in-Ok.len c.args.size (c.in-Ok.ensures.told object tells) (size_of _ object c.args.size c.requires.object tells) (omega arith) (omega arith)

pub returns-clause-told : goal.returns-clause-told
returns-clause-told g c =
    λ object tells. located_by object c.read_items.result c.from-len.result c.args.size (c.in-Ok.ensures.told object tells ∙ ap (λ n. Ok n) (sym c.from-len.ensures)) (size_of _ object c.args.size c.requires.object tells) (omega arith) (omega arith) (c.read_items.ensures.told object (c.in-Ok.ensures.current ∙ tells)) c.read_items.ensures.only

pub returns-clause-bytes : goal.returns-clause-bytes
returns-clause-bytes g c =
    λ object tells.
    let len = long_as_told object c.from-len.result c.args.size (c.in-Ok.ensures.told object tells ∙ ap (λ n. Ok n) (sym c.from-len.ensures)) (size_of _ object c.args.size c.requires.object tells) (omega (arith, c.in-Ok.ensures.size)) (omega arith) (omega arith) in
    omega (arith, len)
