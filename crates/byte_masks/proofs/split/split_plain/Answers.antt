use Rattle.std.proofs.Common.{arith}
use Rattle.byte_masks.proofs.Plain.{not_plain, is_plain, IsPlain-part, IsPlain-rest}
use Rattle.byte_masks.proofs.Cutting.{Splitting-block, Splitting-end, Splitting-full}
use Rattle.byte_masks.proofs.split.split_plain.Goals as goal

pub returns-then-not-is_plain-clause-refused : goal.returns-then-not-is_plain-clause-refused
returns-then-not-is_plain-clause-refused c _ plain =
    let a = c.args in
    absurd
    (not_plain a.quote _ c.is_plain.result c.if-not-is_plain.true (c.is_plain.ensures a.field a.quote _ c.see_block-sight.ensures)
    (IsPlain-part a.quote a.line.now c.loop-i.i 64 plain))

pub returns-then-spans-cut-le64-clause-refused : goal.returns-then-spans-cut-le64-clause-refused
returns-then-spans-cut-le64-clause-refused c _ _ =
    let few = Splitting-full c.args.field c.args.quote c.args.line.now c.loop-i.i c.loop-i.cut c.loop-i.spans (omega arith) c.loop-i.invariant in
    omega arith

pub loop-i-preserved : goal.loop-i-preserved
loop-i-preserved c =
    let a = c.args in
    Splitting-block a.field a.quote a.line.now c.loop-i.i c.see_block-sight.result.fields c.loop-i.cut c.cut_off-cut.result c.loop-i.spans c.cut_off-cut.new.spans
    (omega arith) (omega (arith, c.cut_off-cut.auto.spans)) (omega arith) c.see_block-sight.ensures.fields
    (is_plain a.quote _ c.is_plain.result c.if-not-is_plain.false (c.is_plain.ensures a.field a.quote _ c.see_block-sight.ensures))
    c.cut_off-cut.ensures c.loop-i.invariant

pub returns-then-spans-cut-le64-2-clause-refused : goal.returns-then-spans-cut-le64-2-clause-refused
returns-then-spans-cut-le64-2-clause-refused c _ _ =
    let few = Splitting-full c.args.field c.args.quote c.args.line.now c.loop-i.i c.loop-i.cut c.loop-i.spans (omega arith) c.loop-i.invariant in
    omega arith

pub returns-then-not-is_plain-2-clause-refused : goal.returns-then-not-is_plain-2-clause-refused
returns-then-not-is_plain-2-clause-refused c _ plain =
    let a = c.args in
    absurd
    (not_plain a.quote _ c.is_plain-2.result c.if-not-is_plain-2.true (c.is_plain-2.ensures a.field a.quote _ c.see-sight.ensures)
    (rw c.split_at.ensures.back (IsPlain-rest a.quote a.line.now c.loop-i.i plain)))

pub returns-clause-plain : goal.returns-clause-plain
returns-clause-plain c =
    let a = c.args in
    (Splitting-end a.field a.quote a.line.now _ c.loop-i.i c.see-sight.result.fields c.loop-i.cut c.cut_off-cut-2.result c.loop-i.spans c.cut_off-cut-2.new.spans
    (omega arith) c.split_at.ensures.back (omega (arith, c.cut_off-cut-2.ensures.few, c.cut_off-cut-2.auto.spans)) c.see-sight.ensures.fields
    (is_plain a.quote _ c.is_plain-2.result c.if-not-is_plain-2.false (c.is_plain-2.ensures a.field a.quote _ c.see-sight.ensures))
    c.cut_off-cut-2.ensures c.loop-i.invariant).0

pub returns-clause-cuts : goal.returns-clause-cuts
returns-clause-cuts c =
    let a = c.args in
    (Splitting-end a.field a.quote a.line.now _ c.loop-i.i c.see-sight.result.fields c.loop-i.cut c.cut_off-cut-2.result c.loop-i.spans c.cut_off-cut-2.new.spans
    (omega arith) c.split_at.ensures.back (omega (arith, c.cut_off-cut-2.ensures.few, c.cut_off-cut-2.auto.spans)) c.see-sight.ensures.fields
    (is_plain a.quote _ c.is_plain-2.result c.if-not-is_plain-2.false (c.is_plain-2.ensures a.field a.quote _ c.see-sight.ensures))
    c.cut_off-cut-2.ensures c.loop-i.invariant).1
