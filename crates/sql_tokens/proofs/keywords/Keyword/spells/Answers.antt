use Rattle.sql_tokens.proofs.WordLaws.{same_letters}
use Rattle.sql_tokens.proofs.keywords.Keyword.spells.Goals as goal

pub returns : goal.returns
returns c = same_letters c.eq_ignore_ascii_case.result c.args.self.now.word.now c.args.word.now c.eq_ignore_ascii_case.ensures.test
