-- The laws of a reply that grows.
use Rattle.select_reply.proofs.Tiles.{each_extends}
use Rattle.select_reply.proofs.Steps.{each_steps_on, each_steps_out, each_stops, each_begins}
use Rattle.select_reply.proofs.laws.replies_grow_by_records.Goals as goal

pub returns-clause-on : goal.returns-clause-on
returns-clause-on c = each_steps_on

pub returns-clause-out : goal.returns-clause-out
returns-clause-out c = each_steps_out

pub returns-clause-stop : goal.returns-clause-stop
returns-clause-stop c = each_stops

pub returns-clause-begins : goal.returns-clause-begins
returns-clause-begins c = each_begins

pub returns-clause-extends : goal.returns-clause-extends
returns-clause-extends c = each_extends
