use Rattle.select_http.proofs.OneServing.{served_once}
use Rattle.select_http.proofs.laws.connections_are_served_once.Goals as goal

pub returns : goal.returns
returns c = λ longest objects. served_once c.body_asks_one_thing.ensures longest objects
