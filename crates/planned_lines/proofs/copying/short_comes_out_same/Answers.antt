use Rattle.byte_masks.proofs.Plain.{is_plain}
use Rattle.planned_lines.specs.Copying.{bare}
use Rattle.planned_lines.proofs.OwnRecords.{clear_line, clear_bare}
use Rattle.planned_lines.proofs.copying.short_comes_out_same.Goals as goal

pub returns-then-is_plain : goal.returns-then-is_plain
returns-then-is_plain c = λ told. bare (clear_bare c.args.dialect.now c.args.csv.now c.args.end c.args.line.now c.requires.ends c.requires.same c.requires.short
    (clear_line c.args.end c.args.dialect.now.quote c.args.end c.args.line.now c.see-sight.result.fields c.see-sight.ensures.fields c.if-sight-eq0.true
    (is_plain c.args.dialect.now.quote c.args.line.now c.is_plain.result c.if-is_plain.true (c.is_plain.ensures c.args.end c.args.dialect.now.quote c.args.line.now c.see-sight.ensures))))
