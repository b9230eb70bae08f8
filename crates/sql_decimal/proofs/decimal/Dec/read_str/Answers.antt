use Rattle.sql_decimal.proofs.GrammarBack.{spells_from_number_of, spells_as_answered}
use Rattle.std.specs.Str.{chars}
use Rattle.sql_decimal.proofs.decimal.Dec.read_str.Goals as goal

pub returns-in-Some-clause-grammar : goal.returns-in-Some-clause-grammar
returns-in-Some-clause-grammar c =
    let e = rw c.as_bytes.ensures.value at c.in-Some.ensures in
    spells_from_number_of (chars c.args.text.now) c.in-Some.number e

pub returns-in-None-clause-grammar : goal.returns-in-None-clause-grammar
returns-in-None-clause-grammar c = spells_as_answered c.read_long.result (chars c.args.text.now) c.read_long.ensures
