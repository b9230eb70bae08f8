use Rattle.text_view.proofs.Counts.{counted_chars}
use Rattle.std.proofs.Common.{◌∙◌, ap, count_by}
use Rattle.text_view.specs.FirstBytes.{begins_char}
use Rattle.text_view.proofs.characters.count_chars.Goals as goal

pub returns : goal.returns
returns c = c.count_first.ensures ∙ ap (count_by begins_char) c.as_bytes.ensures.value ∙ counted_chars c.args.text.now c.utf8.text
