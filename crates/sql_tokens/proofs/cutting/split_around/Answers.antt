use Rattle.std.proofs.lemmas.Str.{IsCharBoundary-after_ascii}
use Rattle.sql_tokens.proofs.cutting.split_around.Goals as goal

pub split_at-requires-2 : goal.split_at-requires-2
split_at-requires-2 c = IsCharBoundary-after_ascii c.args.text.now c.args.len c.utf8.text c.requires.within c.requires.ascii
