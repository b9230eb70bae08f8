use Rattle.std.proofs.Common.{◌∙◌}
use Rattle.std.specs.Str.{chars}
use Rattle.text_view.proofs.Grammars.{field_alone, field_stands}
use Rattle.text_view.proofs.view.Text.quoted.Goals as goal

pub returns-clause-stands : goal.returns-clause-stands
returns-clause-stands c =
    rw (c.lent.ensures, c.quoted.ensures) (field_stands c.args.quote c.args.escape (chars c.args.raw.now))

pub returns-clause-alone : goal.returns-clause-alone
returns-clause-alone c = λ text stands.
    c.lent.ensures ∙ c.quoted.ensures ∙ field_alone c.args.quote c.args.escape (chars c.args.raw.now) text stands
