use Rattle.std.proofs.Common.{arith}
use Rattle.csv_cutter.proofs.Characters.{apart}
use Rattle.csv_cutter.proofs.Cuts.{cutting_begins, cutting_ends, cutting_goes, cutting_full}
use Rattle.csv_cutter.proofs.fields.cut_spans.Goals as goal

pub loop-count-init : goal.loop-count-init
loop-count-init c = cutting_begins c.args.dialect.now c.args.line.now c.args.spans.now c.requires.utf8

pub returns-then-end-line : goal.returns-then-end-line
returns-then-end-line c =
    cutting_ends c.args.dialect.now (apart c.args.dialect.now c.requires.valid) c.args.line.now c.loop-count.spans c.loop-count.start c.loop-count.count c.field_end-end.result
    (omega (arith, c.loop-count.auto.spans)) (omega arith) (omega arith) c.loop-count.invariant c.field_end-end.ensures

pub loop-count-preserved : goal.loop-count-preserved
loop-count-preserved c =
    cutting_goes c.args.dialect.now (apart c.args.dialect.now c.requires.valid) c.args.line.now c.loop-count.spans c.loop-count.start c.loop-count.count c.field_end-end.result
    c.requires.utf8 (omega (arith, c.loop-count.auto.spans)) (omega (arith, c.field_end-end.ensures.comes.high)) c.loop-count.invariant c.field_end-end.ensures

pub returns : goal.returns
returns c =
    let full = cutting_full c.args.dialect.now c.args.line.now c.loop-count.spans c.loop-count.start c.loop-count.count (omega (arith, c.loop-count.auto.spans)) c.loop-count.invariant in
    omega (arith, full)
