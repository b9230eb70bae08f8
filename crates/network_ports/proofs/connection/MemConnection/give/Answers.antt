use Rattle.network_ports.proofs.Places.{come_further}
use Rattle.network_ports.proofs.connection.MemConnection.give.Goals as goal

pub returns-clause-after : goal.returns-clause-after
returns-clause-after c =
    rw (← c.self.view_is)
    (come_further c.self.inside.incoming.items c.self.inside.taken c.args.n c.self.inside.written.items c.self.inside.broke)
