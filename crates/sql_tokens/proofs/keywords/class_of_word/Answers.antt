-- The keywords of the word's length are enough.
use Rattle.std.proofs.Common.{map}
use Rattle.sql_tokens.specs.KeywordTable.{entry}
use Rattle.sql_tokens.proofs.WordLaws.{class_by_length}
use Rattle.sql_tokens.proofs.keywords.class_of_word.Goals as goal

pub returns : goal.returns
returns c = class_by_length c.class_in.result (map entry c.of_length.result.now) c.args.called c.args.word.now c.of_length.ensures c.class_in.ensures
