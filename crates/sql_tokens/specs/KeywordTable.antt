-- The table of keywords as the code has it.
use Rattle.sql_tokens.specs.declared.keywords.Keyword.{Keyword as Row}
use Rattle.sql_tokens.specs.Keywords.{Keyword}

abbrev pub entry : Row → Keyword
entry r = record { word = r.word.now; plain = r.plain; called = r.called }
