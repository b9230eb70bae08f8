use Rattle.std.proofs.Common.{rules}
use Rattle.event_frame.specs.HeaderPlaces.{by_name}
use Rattle.event_frame.proofs.HeaderSort.{by_name-total, sorted_by}
use Rattle.event_frame.proofs.headers.sort_by_name.Goals as goal

pub returns-clause-sorted : goal.returns-clause-sorted
returns-clause-sorted c =
    sorted_by (by_name c.args.headers.now) (by_name-total c.args.headers.now) _ c.sort_unstable_by.ensures.sorted (λ a r f k. search rules)
