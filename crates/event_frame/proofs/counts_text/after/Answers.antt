use Rattle.std.proofs.Common.{sym}
use Rattle.event_frame.proofs.CountsLaws.{front-found, front-lacks}
use Rattle.event_frame.proofs.HeaderList.{bytes_eq-true, bytes_eq-differs}
use Rattle.event_frame.proofs.counts_text.after.Goals as goal

pub returns-then-eq : goal.returns-then-eq
returns-then-eq c =
    front-found _ _ _ _ c.in_ok-start.ensures.cases.1 c.in_ok-start.ensures.cases.2 (bytes_eq-true _ _ (sym c.if-eq.ensures))

pub returns-else-eq : goal.returns-else-eq
returns-else-eq c =
    front-lacks _ _ c.in_ok-start.start.now c.in_ok-start.ensures.cases.1
    (bytes_eq-differs _ _ c.if-eq.ensures)
