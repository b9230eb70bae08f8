use Rattle.std.proofs.Common.{◌∙◌, sym, arith}
use Rattle.parquet_footer.proofs.OpenLaws.{entered_due, entered_whole}
use Rattle.parquet_footer.proofs.leaves.enter.Goals as goal

pub returns-then-group-gt0 : goal.returns-then-group-gt0
returns-then-group-gt0 c =
    c.in_ok-open_group.ensures
    ∙ sym (c.loop-group.invariant
    ∙ entered_due c.pop.new.self.items c.loop-group.open.items c.in-Some.group c.in-Some.ensures.items (omega arith))

pub loop-group-preserved : goal.loop-group-preserved
loop-group-preserved c =
    c.loop-group.invariant
    ∙ entered_whole c.pop.new.self.items c.loop-group.open.items c.in-Some.group c.in-Some.ensures.items (omega arith)
