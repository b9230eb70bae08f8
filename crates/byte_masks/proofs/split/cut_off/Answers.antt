use Rattle.std.proofs.Common.{◌<◌, length, ap, ◌∙◌, arith, rules}
use Rattle.byte_masks.specs.Masks.{marked}
use Rattle.byte_masks.proofs.SetBits.{marked-zero}
use Rattle.byte_masks.proofs.Cutting.{Cutting-step, Cutting-room, CutsOff-done}
use Rattle.byte_masks.proofs.split.cut_off.Goals as goal

pub bounds-spans-count : goal.bounds-spans-count
bounds-spans-count c = omega (arith, Cutting-room _ _ _ _ _ _ _ _ _ _ (c.take_lowest.ensures.first c.args.base) c.loop-left.invariant)

pub offset_bounds-spans-count : goal.offset_bounds-spans-count
offset_bounds-spans-count c =
    let room : c.loop-left.count < length c.loop-left.spans = omega (arith, Cutting-room _ _ _ _ _ _ _ _ _ _ (c.take_lowest.ensures.first c.args.base) c.loop-left.invariant) in
    search rules

pub overflow_add-count : goal.overflow_add-count
overflow_add-count c =
    let room : c.loop-left.count < length c.loop-left.spans = omega (arith, Cutting-room _ _ _ _ _ _ _ _ _ _ (c.take_lowest.ensures.first c.args.base) c.loop-left.invariant) in
    search rules

pub loop-left-preserved : goal.loop-left-preserved
loop-left-preserved c =
    let first = c.take_lowest.ensures.first c.args.base in
    let room : c.loop-left.count < length c.loop-left.spans = omega (arith, Cutting-room _ _ _ _ _ _ _ _ _ _ first c.loop-left.invariant) in
    Cutting-step c.args.base c.args.mask c.args.from c.args.spans.now c.loop-left.left c.loop-left.start c.loop-left.count c.loop-left.spans
    c.take_lowest.result c.take_lowest.new.mask first room c.loop-left.invariant

pub returns : goal.returns
returns c =
    CutsOff-done c.args.base c.args.mask c.args.from c.args.spans.now c.loop-left.left c.loop-left.start c.loop-left.count c.loop-left.spans
    (ap (marked c.args.base) c.loop-left-test.false ∙ marked-zero c.args.base) c.loop-left.invariant
