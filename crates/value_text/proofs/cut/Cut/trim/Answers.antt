use Rattle.std.proofs.Common.{◌≡◌, length, ap, ◌∙◌}
use Rattle.std.specs.Str.{chars}
use Rattle.text_view.specs.Trimmed.{trimmed}
use Rattle.value_text.specs.Cuts.{cut_of, passed}
use Rattle.value_text.proofs.TrimLaws.{trimmed_part}
use Rattle.value_text.proofs.cut.Cut.trim.Goals as goal

pub returns : goal.returns
returns c =
    let left = cut_of c.args.self (chars c.args.text.now) in
    let front : c.passed_by-front.result ≡ passed c.args.side c.args.set.now left = c.passed_by-front.ensures ∙ ap (λ l. passed c.args.side c.args.set.now l) c.of-left.ensures in
    let kept : c.len_chars.result ≡ length (trimmed c.args.side c.args.set.now left) = c.len_chars.ensures.value ∙ ap length (c.trim.ensures ∙ ap (λ l. trimmed c.args.side c.args.set.now l) c.of-left.ensures) in
    c.sub.ensures ∙ rw (front, kept) (trimmed_part c.args.side c.args.set.now left)
