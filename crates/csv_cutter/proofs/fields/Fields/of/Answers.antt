use Rattle.std.proofs.Common.{Ok, subst, sym, ap, ◌∙◌}
use Rattle.csv_cutter.specs.Reading.{HasFields}
use Rattle.csv_cutter.proofs.Characters.{apart}
use Rattle.csv_cutter.proofs.Cuts.{first_read, fault_read}
use Rattle.csv_cutter.proofs.Functions.{filled_fields, filled_fault}
use Rattle.csv_cutter.proofs.fields.Fields.of.Goals as goal

pub returns-in-Ok-clause-read : goal.returns-in-Ok-clause-read
returns-in-Ok-clause-read c =
    subst (HasFields c.args.dialect.now c.args.line.now) (sym c.lend.ensures)
    (first_read c.args.dialect.now (apart c.args.dialect.now c.requires.valid) c.args.line.now c.in-Ok.count c.fill.new.self.spans.items c.in-Ok.ensures.0 c.in-Ok.ensures.1)

pub returns-in-Ok-clause-function : goal.returns-in-Ok-clause-function
returns-in-Ok-clause-function c =
    ap Ok c.lend.ensures ∙ filled_fields c.args.dialect.now c.args.line.now c.in-Ok.count c.fill.new.self.spans.items c.in-Ok.ensures.0 c.in-Ok.ensures.1

pub returns-in-Err-clause-read : goal.returns-in-Err-clause-read
returns-in-Err-clause-read c =
    fault_read c.args.dialect.now (apart c.args.dialect.now c.requires.valid) c.args.line.now c.fill.new.self.spans.items c.in-Err.fault c.in-Err.ensures

pub returns-in-Err-clause-function : goal.returns-in-Err-clause-function
returns-in-Err-clause-function c = filled_fault c.args.dialect.now c.args.line.now c.fill.new.self.spans.items c.in-Err.fault c.in-Err.ensures
