use Rattle.std.specs.Prelude.{◌≡◌, length}
use Rattle.std.specs.Vec.Iter.{into_iter_items, into_iter_len}
use Rattle.select_request.specs.Request.{find}
use Rattle.select_request.proofs.found.take_text.Given as goal

abbrev pub invariant-loop-one : goal.invariant-loop-one
invariant-loop-one l =
    (into_iter_len l.one-iterator ≡ length (into_iter_items l.one-iterator))
    × (find l.element (into_iter_items l.one-iterator) ≡ find l.element l.fn.found.items)
