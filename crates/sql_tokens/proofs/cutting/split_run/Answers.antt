use Rattle.sql_tokens.proofs.AsciiLaws.{cut_behind_ascii}
use Rattle.sql_tokens.proofs.cutting.split_run.Goals as goal

pub split_at-requires : goal.split_at-requires
split_at-requires c = cut_behind_ascii c.args.text.now c.args.len c.utf8.text c.requires
