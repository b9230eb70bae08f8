use Rattle.text_view.proofs.Shaped.{holds_found, holds_nowhere}
use Rattle.text_view.proofs.shapes.holds.Goals as goal

pub returns-in-Some : goal.returns-in-Some
returns-in-Some c =
    let found = rw (c.as_bytes.ensures.value, c.as_bytes-2.ensures.value) at c.in-Some.ensures in
    holds_found c.args.text.now c.args.wanted.now c.in-Some.field-0 c.utf8.text c.utf8.wanted found.1

pub returns-in-None : goal.returns-in-None
returns-in-None c =
    let nowhere = rw (c.as_bytes.ensures.value, c.as_bytes-2.ensures.value) at c.in-None.ensures in
    holds_nowhere c.args.text.now c.args.wanted.now c.utf8.text c.utf8.wanted nowhere
