use Rattle.std.proofs.Common.{◌∙◌, sym, ap, arith}
use Rattle.parquet_footer.specs.Walks.{is_forest}
use Rattle.parquet_footer.proofs.SchemaLaws.{no_children, not_whole, whole_is}
use Rattle.parquet_footer.proofs.schema.is_tree.Goals as goal

pub returns-then-count-eq0 : goal.returns-then-count-eq0
returns-then-count-eq0 c = no_children c.args.root.now c.args.below.now (omega arith)

pub returns-then-is_whole : goal.returns-then-is_whole
returns-then-is_whole c =
    c.is_forest.ensures
    ∙ ap (λ n. is_forest n c.args.below.now) c.node_count-count.ensures.value
    ∙ whole_is c.args.root.now c.args.below.now (omega arith) (sym c.is_whole.ensures ∙ c.if-is_whole.true)

pub returns-else-is_whole : goal.returns-else-is_whole
returns-else-is_whole c =
    not_whole c.args.root.now c.args.below.now c.is_whole.result c.is_whole.ensures c.if-is_whole.false
