use Rattle.std.specs.Str.{chars}
use Rattle.sql_eval.proofs.Texts.{text_liked}
use Rattle.sql_eval.proofs.leaves.like_text.Goals as goal

pub returns : goal.returns
returns c = text_liked c.args.pattern.now (chars c.args.text.now) c.matches.result c.matches.ensures
