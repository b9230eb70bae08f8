use Rattle.csv_cutter.proofs.Taking.{settle_none}
use Rattle.csv_cutter.proofs.records.QuotedRecords.settle.Goals as goal

pub returns-in-Nothing-clause-window : goal.returns-in-Nothing-clause-window
returns-in-Nothing-clause-window g c = settle_none _ c.args.self.now c.args.window.now _ c.requires.ready.sound c.requires.ready c.in-Nothing.is
