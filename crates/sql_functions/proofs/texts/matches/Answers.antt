use Rattle.sql_functions.proofs.Liked.{like_is}
use Rattle.sql_functions.proofs.texts.matches.Goals as goal

pub returns : goal.returns
returns c = like_is c.args.pattern.now c.args.text.now c.matches.result c.matches.ensures
