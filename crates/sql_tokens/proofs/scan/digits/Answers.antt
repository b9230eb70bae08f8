-- The run ends behind an ASCII byte.
use Rattle.sql_tokens.proofs.AsciiLaws.{digits_ascii}
use Rattle.sql_tokens.proofs.scan.digits.Goals as goal

pub returns-clause-ascii : goal.returns-clause-ascii
returns-clause-ascii c = digits_ascii c.args.bytes.now c.digit_run.result c.digit_run.ensures
