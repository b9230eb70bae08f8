use Rattle.sql_timestamp.proofs.Printed.{printed_back}
use Rattle.sql_timestamp.proofs.stamp.Stamp.print.Goals as goal

pub returns-clause-reads_back : goal.returns-clause-reads_back
returns-clause-reads_back c = printed_back c.args.self.now c.written.result.bytes c.written.ensures.sound c.written.ensures.text
