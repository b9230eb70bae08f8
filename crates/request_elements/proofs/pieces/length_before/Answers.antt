-- The search finds the first such byte.
use Rattle.request_elements.proofs.ByteLaws.{found_first, found_none}
use Rattle.request_elements.proofs.pieces.length_before.Goals as goal

pub returns-in-Some : goal.returns-in-Some
returns-in-Some c = found_first c.args.byte c.args.bytes.now c.in-Some.at c.in-Some.ensures

pub returns-in-None : goal.returns-in-None
returns-in-None c = found_none c.args.byte c.args.bytes.now c.in-None.ensures
