use Rattle.std.proofs.Common.{◌+◌, arith}
use Rattle.csv_cutter.proofs.Characters.{apart}
use Rattle.csv_cutter.proofs.Cuts.{cutting_ends}
use Rattle.csv_cutter.proofs.Firsts.{fronting_begins, fronting_goes, wanted_cut, all_wanted}
use Rattle.csv_cutter.proofs.fields.cut_first.Goals as goal

pub loop-count-init : goal.loop-count-init
loop-count-init c = fronting_begins c.args.dialect.now c.args.line.now c.args.spans.now c.requires.utf8

pub returns-then-end-line : goal.returns-then-end-line
returns-then-end-line c =
    all_wanted c.args.dialect.now c.args.line.now _ c.args.wanted (c.loop-count.count + 1) (omega arith)
    (cutting_ends c.args.dialect.now (apart c.args.dialect.now c.requires.valid) c.args.line.now c.loop-count.spans c.loop-count.start c.loop-count.count c.field_end-end.result
    (omega (arith, c.loop-count.auto.spans, c.loop-count.invariant.room)) c.loop-count.invariant.room (omega arith) c.loop-count.invariant.cutting c.field_end-end.ensures)

pub loop-count-preserved : goal.loop-count-preserved
loop-count-preserved c =
    fronting_goes c.args.dialect.now (apart c.args.dialect.now c.requires.valid) c.args.line.now c.loop-count.spans c.loop-count.start c.loop-count.count c.field_end-end.result
    c.requires.utf8 c.requires.small (omega (arith, c.loop-count.auto.spans, c.loop-count.invariant.room)) (omega (arith, c.field_end-end.ensures.comes.high))
    c.loop-count.invariant.cutting c.field_end-end.ensures

pub returns : goal.returns
returns c =
    wanted_cut c.args.dialect.now c.args.line.now c.loop-count.spans c.loop-count.start c.loop-count.count c.args.wanted c.requires.small (omega arith) (omega (arith, c.loop-count.auto.spans, c.loop-count.invariant.room))
    c.loop-count.invariant.cutting
