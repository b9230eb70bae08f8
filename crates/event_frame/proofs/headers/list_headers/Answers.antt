use Rattle.std.proofs.Common.{◌+◌, ◌≤◌, length, arith}
use Rattle.event_frame.proofs.HeaderSort.{listing-more, header-size}
use Rattle.event_frame.proofs.headers.list_headers.Goals as goal

pub push_reserved-requires : goal.push_reserved-requires
push_reserved-requires c =
    let size : 5 + length c.in-Some.after.now ≤ length c.loop-after.rest.now = header-size _ _ _ _ c.in-Some.ensures in
    omega (arith, c.loop-after.invariant.0.few)

pub loop-after-smaller : goal.loop-after-smaller
loop-after-smaller c =
    let size : 5 + length c.in-Some.after.now ≤ length c.loop-after.rest.now = header-size _ _ _ _ c.in-Some.ensures in
    omega arith

pub loop-after-preserved : goal.loop-after-preserved
loop-after-preserved c = (
  listing-more _ _ _ _ _ _ _ c.loop-after.invariant.0 c.in-Some.ensures c.push_reserved.ensures.items,
  omega arith,
)
