-- None of the keywords that were passed is the word.
use Rattle.std.proofs.Common.{◌≡◌, map, length}
use Rattle.sql_tokens.specs.Keywords.{class_in}
use Rattle.sql_tokens.specs.KeywordTable.{entry}
use Rattle.sql_tokens.proofs.keywords.class_in.Given as goal

abbrev pub invariant-keywords : goal.invariant-keywords
invariant-keywords l = class_in (map entry l.fn.table) l.called l.word ≡ class_in (map entry l.left) l.called l.word

abbrev pub decreases-keywords : goal.decreases-keywords
decreases-keywords l = length l.left
