use Rattle.std.proofs.Common.{subst, sym}
use Rattle.csv_cutter.specs.Reading.{HasFirst}
use Rattle.csv_cutter.proofs.Characters.{apart}
use Rattle.csv_cutter.proofs.Cuts.{fault_read}
use Rattle.csv_cutter.proofs.Firsts.{wanted_read}
use Rattle.csv_cutter.proofs.fields.Fields.of_first.Goals as goal

pub returns-in-Ok : goal.returns-in-Ok
returns-in-Ok c =
    subst (HasFirst c.args.dialect.now c.args.line.now c.args.wanted) (sym c.lend.ensures)
    (wanted_read c.args.dialect.now (apart c.args.dialect.now c.requires.valid) c.args.line.now c.args.wanted c.in-Ok.count c.fill_first.new.self.spans.items c.in-Ok.ensures.0 c.in-Ok.ensures.1)

pub returns-in-Err : goal.returns-in-Err
returns-in-Err c = fault_read c.args.dialect.now (apart c.args.dialect.now c.requires.valid) c.args.line.now c.fill_first.new.self.spans.items c.in-Err.fault c.in-Err.ensures
