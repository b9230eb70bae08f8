use Rattle.std.specs.Str.{chars}
use Rattle.sql_functions.proofs.Liked.{like_is}
use Rattle.sql_eval.proofs.leaves.matches.Goals as goal

pub returns : goal.returns
returns c = like_is c.args.pattern.now (chars c.args.text.now) c.matches_str.result c.matches_str.ensures
