use Rattle.std.proofs.Common.{sym, ◌∙◌}
use Rattle.std.proofs.lemmas.Str.{chars_past_char}
use Rattle.text_view.proofs.characters.split_char.Goals as goal

pub returns-clause-value : goal.returns-clause-value
returns-clause-value c =
    rw c.as_str.ensures (chars_past_char _ _ _ c.utf8.text (sym c.chars-letters.ensures.rest ∙ c.in_ok-character.ensures.steps.0))
