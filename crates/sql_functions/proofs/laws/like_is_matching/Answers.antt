use Rattle.sql_functions.proofs.Liked.{like_tells}
use Rattle.sql_functions.proofs.laws.like_is_matching.Goals as goal

pub returns : goal.returns
returns c = like_tells
