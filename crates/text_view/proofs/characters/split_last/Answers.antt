use Rattle.std.proofs.Common.{◌++◌, length, sym, ◌∙◌, ap}
use Rattle.std.specs.Char.{encode_utf8}
use Rattle.text_view.proofs.Counts.{last_char, empty_chars}
use Rattle.text_view.proofs.characters.split_last.Goals as goal

pub returns-in-Some-clause-value : goal.returns-in-Some-clause-value
returns-in-Some-clause-value c =
    last_char c.args.text.now c.as_str.result.now c.in-Some.character c.utf8.text c.as_str.utf8 (sym c.chars-letters.ensures.rest ∙ c.in-Some.ensures.steps ∙ ap (λ l. l ++ encode_utf8 c.in-Some.character) (sym c.as_str.ensures))

pub returns-in-None-clause-value : goal.returns-in-None-clause-value
returns-in-None-clause-value c = empty_chars c.args.text.now (ap length (sym c.chars-letters.ensures.rest) ∙ c.in-None.ensures.steps.0)
