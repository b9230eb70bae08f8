use Rattle.std.proofs.Common.{List, ℕ, subst}
use Rattle.event_frame.specs.HeaderPlaces.{IsLeastRepeat}
use Rattle.event_frame.proofs.HeaderRepeats.{stops_at_least}
use Rattle.event_frame.proofs.headers.first_bad_of_many.Goals as goal

pub returns-then-least-headers-clause-bad : goal.returns-then-least-headers-clause-bad
returns-then-least-headers-clause-bad c =
    (stops_at_least c.args.headers.now _ _ _ _ c.list_headers-end.ensures.lists c.sort_by_name.ensures.moved c.sort_by_name.ensures.sorted
    (subst (λ (l : List ℕ). IsLeastRepeat c.args.headers.now l c.list_headers-end.result c.least_repeat-least.result) c.deref.ensures.value
    c.least_repeat-least.ensures)).badly c.if-least-headers.true

pub returns-else-least-headers-clause-bad : goal.returns-else-least-headers-clause-bad
returns-else-least-headers-clause-bad c =
    (stops_at_least c.args.headers.now _ _ _ _ c.list_headers-end.ensures.lists c.sort_by_name.ensures.moved c.sort_by_name.ensures.sorted
    (subst (λ (l : List ℕ). IsLeastRepeat c.args.headers.now l c.list_headers-end.result c.least_repeat-least.result) c.deref.ensures.value
    c.least_repeat-least.ensures)).well c.if-least-headers.false
