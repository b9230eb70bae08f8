-- What stands behind a character of a text.
use Rattle.std.proofs.Common.{sym, ◌∙◌}
use Rattle.std.proofs.lemmas.Str.{chars_past_char}
use Rattle.sql_expressions.proofs.predicates.split_char.Goals as goal

pub returns : goal.returns
returns c =
    rw c.as_str.ensures (chars_past_char _ _ _ c.utf8.text (sym c.chars-letters.ensures.rest ∙ c.in_ok-character.ensures.steps.0))
