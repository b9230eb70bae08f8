use Rattle.select_http.proofs.Turning.{stops_body, stops_interim}
use Rattle.select_http.proofs.turn.receive.Goals as goal
use Rattle.std.proofs.Common.{subst, sym}
use Rattle.select_http.specs.Turns.{Stops}

pub returns-in-Err-clause-err : goal.returns-in-Err-clause-err
returns-in-Err-clause-err g c = λ longest held number before now.
    stops_interim longest held _ _ number before now _ c.args.heading.now c.in-Err.end c.requires.head c.requires.fresh c.in-Err.ensures.sent c.in-Err.ensures.only

pub returns-in-Err-wait_body-clause-err : goal.returns-in-Err-wait_body-clause-err
returns-in-Err-wait_body-clause-err g c = λ longest held number before now.
    subst (Stops longest held _ _ number before now _) (sym c.end_of.ensures)
    (stops_body longest held _ _ _ number before now _ c.wait_body.new.self.kept.items c.args.heading.now c.in-Err-wait_body.halt _ c.requires.head c.in-Ok.ensures.sent
    c.in-Err-wait_body.ensures.err c.in-Err-wait_body.ensures.lacks)
