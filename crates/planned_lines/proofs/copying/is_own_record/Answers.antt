use Rattle.std.proofs.Common.{sym, ◌∙◌}
use Rattle.planned_lines.proofs.OwnRecords.{own_record}
use Rattle.planned_lines.proofs.copying.is_own_record.Goals as goal

pub returns : goal.returns
returns c = λ told.
    own_record c.args.planned.now.columns c.args.planned.now.plan (sym c.takes_all.ensures ∙ c.if-not-takes_all.false)
    c.args.format.now c.args.output.now c.in-Csv.dialect c.in-Csv.headed c.in-Csv-output.csv c.args.start c.args.content.now c.in-Csv.is c.in-Csv-output.is
    (sym c.is_header.ensures ∙ c.if-is_header.false)
    (sym c.is_passed_over.ensures ∙ c.if-is_passed_over.false)
    (sym c.has_same_fields.ensures ∙ c.if-not-has_same_fields.false)
    (c.comes_out_same.ensures told)
