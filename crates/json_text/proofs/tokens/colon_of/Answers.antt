use Rattle.std.proofs.Common.{arith}
use Rattle.json_text.proofs.Reading.{colon_past, colon_here, colon_wrong}
use Rattle.json_text.proofs.tokens.colon_of.Goals as goal

pub returns-then-colon-bytes-clause-value : goal.returns-then-colon-bytes-clause-value
returns-then-colon-bytes-clause-value c =
    colon_past c.args.bytes.now c.args.from c.blanks_end-colon.result c.blanks_end-colon.ensures.count c.if-colon-bytes.true

pub returns-then-bytes-colon-eq58-clause-value : goal.returns-then-bytes-colon-eq58-clause-value
returns-then-bytes-colon-eq58-clause-value c =
    colon_here c.args.bytes.now c.args.from c.blanks_end-colon.result c.blanks_end-colon.ensures.count c.blanks_end.result (omega (arith, c.if-colon-bytes.false)) c.if-bytes-colon-eq58.true
    c.blanks_end.ensures.count

pub returns-clause-value : goal.returns-clause-value
returns-clause-value c =
    colon_wrong c.args.bytes.now c.args.from c.blanks_end-colon.result c.blanks_end-colon.ensures.count c.requires (omega (arith, c.if-colon-bytes.false)) c.if-bytes-colon-eq58.false
