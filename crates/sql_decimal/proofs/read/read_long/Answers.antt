use Rattle.std.proofs.Common.{◌∙◌, sym}
use Rattle.std.specs.Str.{chars}
use Rattle.std.proofs.lemmas.Str.{Chars-gives, encodes-chars}
use Rattle.sql_decimal.proofs.read.read_long.Goals as goal

pub returns : goal.returns
returns c =
    let text = c.args.text.now in
    c.read.ensures.number (chars text) (Chars-gives (chars text) c.chars.result (encodes-chars text c.utf8.text ∙ sym c.chars.ensures.rest))
