use Rattle.std.proofs.Common.{◌+◌}
use Rattle.record_output.proofs.Escaping.{rest_is}
use Rattle.record_output.proofs.Spelling.{cut_none, cut_some, cut_shorter, from_front}
use Rattle.record_output.proofs.json.cut_at_special.Goals as goal

pub returns-then-at-text : goal.returns-then-at-text
returns-then-at-text c = cut_none c.args.text.now c.plain_end-at.result (from_front c.args.text.now c.plain_end-at.result c.plain_end-at.ensures.value) c.if-at-text.true

pub returns : goal.returns
returns c =
    rw (rest_is (c.plain_end-at.result + 1) c.args.text.now)
    (cut_shorter c.args.text.now c.plain_end-at.result c.if-at-text.false, cut_some c.args.text.now c.plain_end-at.result (from_front c.args.text.now c.plain_end-at.result c.plain_end-at.ensures.value) c.if-at-text.false)
