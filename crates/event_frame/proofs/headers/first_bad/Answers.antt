use Rattle.event_frame.proofs.HeaderList.{good-start, good-more, good-end, bad-header, bad-again}
use Rattle.event_frame.proofs.headers.first_bad.Goals as goal

pub loop-init : goal.loop-init
loop-init c = good-start c.args.headers.now

pub returns-then-at-headers-clause-bad : goal.returns-then-at-headers-clause-bad
returns-then-at-headers-clause-bad c = good-end _ c.loop.at c.loop.invariant c.if-at-headers.true

pub returns-in_default-clause-bad : goal.returns-in_default-clause-bad
returns-in_default-clause-bad c =
    bad-header _ _ c.loop.at c.loop.invariant c.if-at-headers.false c.split_at.ensures.back c.in_default.ensures

pub returns-then-is_some-clause-bad : goal.returns-then-is_some-clause-bad
returns-then-is_some-clause-bad c =
    bad-again _ _ _ _ _ _ c.loop.at c.value.result c.loop.invariant c.if-at-headers.false c.split_at.ensures.front c.split_at.ensures.back
    c.in-Some.ensures c.value.ensures c.if-is_some.ensures

pub loop-preserved : goal.loop-preserved
loop-preserved c =
    good-more _ _ _ _ _ _ c.loop.at c.value.result c.loop.invariant c.split_at.ensures.front c.split_at.ensures.back c.in-Some.ensures
    c.value.ensures c.if-is_some.ensures
