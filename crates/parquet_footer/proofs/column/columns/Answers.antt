use Rattle.std.proofs.Common.{length, ap, sym, subst, arith}
use Rattle.parquet_footer.proofs.ColumnLaws.{AreDue, behind_in, whole_name, columns_next}
use Rattle.parquet_footer.proofs.column.columns.Goals as goal

pub add_column-requires : goal.add_column-requires
add_column-requires c =
    whole_name c.in-Some.element.now (behind_in c.loop-element.due c.in-Some.element.now c.in-Some.behind.now c.loop-element.left.now c.in-Some.ensures.cases.0 c.loop-element.invariant.2).whole

pub behind_node-due-requires : goal.behind_node-due-requires
behind_node-due-requires c =
    let b = behind_in c.loop-element.due c.in-Some.element.now c.in-Some.behind.now c.loop-element.left.now c.in-Some.ensures.cases.0 c.loop-element.invariant.2 in
    omega (arith, b.fits, c.loop-element.invariant.1, ap length c.in-Some.ensures.cases.0)

pub loop-element-preserved : goal.loop-element-preserved
loop-element-preserved c =
    let b = behind_in c.loop-element.due c.in-Some.element.now c.in-Some.behind.now c.loop-element.left.now c.in-Some.ensures.cases.0 c.loop-element.invariant.2 in (
      columns_next c.args.groups.now c.loop-element.leaves c.loop-element.due c.leaf_one-leaves.result c.behind_node-due.result c.in-Some.element.now c.in-Some.behind.now c.loop-element.left.now _ c.loop-element.columns c.add_column.new.columns c.in-Some.ensures.cases.0 c.leaf_one-leaves.ensures.value c.behind_node-due.ensures c.in_ok-add_column.ensures c.loop-element.invariant.0,
      omega (arith, c.leaf_one-leaves.ensures.bound, c.loop-element.invariant.1, ap length c.in-Some.ensures.cases.0),
      subst (λ n. AreDue n c.in-Some.behind.now) (sym c.behind_node-due.ensures) b.due_behind,
    )
