use Rattle.std.proofs.Common.{◌≡◌, length, arith, ap, ◌∙◌}
use Rattle.std.specs.Str.{chars}
use Rattle.value_text.specs.Cuts.{cut_of}
use Rattle.value_text.proofs.CutLaws.{cut_begins, length-chars}
use Rattle.value_text.proofs.cut.Cut.count.Goals as goal

pub returns-clause-few : goal.returns-clause-few
returns-clause-few c =
    let left : c.len_chars.result ≡ length (cut_of c.args.self (chars c.args.text.now)) = c.len_chars.ensures.value ∙ ap length c.of.ensures in
    omega (arith, cut_begins c.args.self (chars c.args.text.now), length-chars c.args.text.now c.utf8.text)

pub returns-clause-within : goal.returns-clause-within
returns-clause-within c =
    let left : c.len_chars.result ≡ length (cut_of c.args.self (chars c.args.text.now)) = c.len_chars.ensures.value ∙ ap length c.of.ensures in
    omega (arith, cut_begins c.args.self (chars c.args.text.now), length-chars c.args.text.now c.utf8.text)
