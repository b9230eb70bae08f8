use Rattle.std.proofs.Common.{sym, ap, ◌∙◌}
use Rattle.std.proofs.lemmas.Str.{chars-IsAscii}
use Rattle.sql_timestamp.specs.Reading.{spelled_timestamp}
use Rattle.sql_timestamp.proofs.ReadBack.{none_bytes}
use Rattle.sql_timestamp.proofs.read.read_plain.Goals as goal

pub returns-then-is_ascii : goal.returns-then-is_ascii
returns-then-is_ascii c = c.read_bytes.ensures ∙ ap spelled_timestamp (c.as_bytes.ensures.value ∙ sym (chars-IsAscii c.args.text.now c.if-is_ascii.ensures.cases))

pub returns : goal.returns
returns c = none_bytes c.args.text.now c.utf8.text c.if-is_ascii.ensures.cases
