use Rattle.csv_cutter.proofs.Spelling.{plain_behind}
use Rattle.csv_cutter.proofs.fields.plain_in.Goals as goal

pub returns-clause-some : goal.returns-clause-some
returns-clause-some c = plain_behind c.args.dialect.now _ _ _ c.in-Some.ensures c.plain_field.ensures.some
