use Rattle.std.proofs.Common.{sym}
use Rattle.sql_timestamp.proofs.ReadBack.{high_none, full_none}
use Rattle.sql_timestamp.proofs.read.read_shown.Goals as goal

pub returns-then-is_full : goal.returns-then-is_full
returns-then-is_full c =
    full_none c.characters.bytes.items c.characters.left c.next.new.self c.args.text.now c.in-Some.c c.characters.invariant c.in-Some.ensures.steps (sym c.if-is_full.ensures.value)

pub returns-then-code-ge128 : goal.returns-then-code-ge128
returns-then-code-ge128 c =
    high_none c.characters.bytes.items c.characters.left c.next.new.self c.args.text.now c.in-Some.c c.characters.invariant c.in-Some.ensures.steps c.if-code-ge128.true
