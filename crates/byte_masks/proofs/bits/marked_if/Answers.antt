use Rattle.std.proofs.Common.{◌∙◌}
use Rattle.byte_masks.proofs.Adding.{Marks-yes, Marks-no}
use Rattle.byte_masks.proofs.bits.marked_if.Goals as goal

pub returns-then-passes : goal.returns-then-passes
returns-then-passes c test bytes b long passes marks = Marks-yes test bytes b c.args.bit c.args.mask c.requires long (passes ∙ c.if-passes.true) marks

pub returns-else-passes : goal.returns-else-passes
returns-else-passes c test bytes b long passes marks = Marks-no test bytes b c.args.bit c.args.mask long (passes ∙ c.if-passes.false) marks
