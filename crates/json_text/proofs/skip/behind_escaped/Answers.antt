use Rattle.json_text.proofs.Skips.{escaped_byte}
use Rattle.json_text.proofs.skip.behind_escaped.Goals as goal

pub returns-then-at-bytes-clause-value : goal.returns-then-at-bytes-clause-value
returns-then-at-bytes-clause-value c = escaped_byte c.args.bytes.now c.args.at c.if-at-bytes.true
