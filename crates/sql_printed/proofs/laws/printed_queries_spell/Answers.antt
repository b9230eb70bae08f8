use Rattle.sql_printed.proofs.QueryTexts.{printed_reads_back}
use Rattle.sql_printed.proofs.laws.printed_queries_spell.Goals as goal

-- src/laws.rt:8:1
pub returns-clause-read_back : goal.returns-clause-read_back
returns-clause-read_back c = printed_reads_back c.texts_have_one_parse.ensures.one
