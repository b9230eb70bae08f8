use Rattle.std.proofs.Common.{sym, ◌∙◌, ap, drop}
use Rattle.std.specs.Str.{chars}
use Rattle.value_text.specs.Cuts.{at_most}
use Rattle.value_text.proofs.CutLaws.{take_rest}
use Rattle.value_text.proofs.cut.Cut.part.Goals as goal

pub returns-in-None : goal.returns-in-None
returns-in-None c =
    let all = take_rest c.args.text.now c.args.self.from c.utf8.text in
    rw (c.sub-in-None.ensures, c.plain-in-None.ensures, c.from-from.ensures) all ∙ ap (λ limit. at_most limit (drop c.args.self.from (chars c.args.text.now))) (sym c.in-None.is)
