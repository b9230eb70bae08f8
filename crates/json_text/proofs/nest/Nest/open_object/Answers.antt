use Rattle.json_text.proofs.Nests.{has_room}
use Rattle.json_text.proofs.nest.Nest.open_object.Goals as goal

pub returns-clause-room : goal.returns-clause-room
returns-clause-room c = has_room c.self.inside.bits c.self.inside.depth _ c.self.view_is c.if-self-ge-LEVELS.false
