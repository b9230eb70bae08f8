use Rattle.std.proofs.Common.{◌∙◌}
use Rattle.std.specs.Str.{chars}
use Rattle.text_view.proofs.Grammars.{string_read}
use Rattle.text_view.proofs.view.Text.json.Goals as goal

pub returns-clause-grammar : goal.returns-clause-grammar
returns-clause-grammar c = λ text spells.
    c.lent.ensures ∙ c.json.ensures ∙ string_read (chars c.args.raw.now) text spells
