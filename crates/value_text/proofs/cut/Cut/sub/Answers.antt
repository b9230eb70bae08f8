use Rattle.std.proofs.Common.{◌≡◌, ◌-◌, min, length, ap, ◌∙◌}
use Rattle.std.specs.Str.{chars}
use Rattle.value_text.specs.Cuts.{cut_of}
use Rattle.value_text.proofs.CutLaws.{cut_sub}
use Rattle.value_text.proofs.cut.Cut.sub.Goals as goal

pub returns : goal.returns
returns c =
    let n = length (cut_of c.args.self (chars c.args.text.now)) in
    let skip : c.min-skip.result ≡ min c.args.from n = c.min-skip.ensures ∙ ap (λ m. min c.args.from m) c.count-len.ensures.value in
    let keep : c.min-keep.result ≡ min c.args.count (n - c.min-skip.result) = c.min-keep.ensures ∙ ap (λ m. min c.args.count (m - c.min-skip.result)) c.count-len.ensures.value in
    cut_sub c.args.self (chars c.args.text.now) c.args.from c.args.count c.min-skip.result c.min-keep.result skip keep
