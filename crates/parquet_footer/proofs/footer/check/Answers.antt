use Rattle.std.proofs.Common.{◌∙◌, sym}
use Rattle.parquet_footer.proofs.CheckLaws.{trees_below, checked_is, bad_schema, no_schema, gives_checked}
use Rattle.parquet_footer.proofs.footer.check.Goals as goal

pub check_groups-requires-clause-trees : goal.check_groups-requires-clause-trees
check_groups-requires-clause-trees c =
    trees_below c.in-Some.root.now c.in-Some.below.now c.is_tree.result c.is_tree.ensures c.if-is_tree.true

pub returns-then-is_tree-clause-given : goal.returns-then-is_tree-clause-given
returns-then-is_tree-clause-given c =
    gives_checked _ _ c.check_groups.result (checked_is c.args.size c.args.file.now c.in-Some.root.now c.in-Some.below.now c.is_tree.result (sym c.as_slice.ensures ∙ c.in-Some.ensures.cases.0) c.is_tree.ensures c.if-is_tree.true) c.check_groups.ensures.given

pub returns-else-is_tree-clause-given : goal.returns-else-is_tree-clause-given
returns-else-is_tree-clause-given c =
    bad_schema c.args.size c.args.file.now c.in-Some.root.now c.in-Some.below.now c.is_tree.result (sym c.as_slice.ensures ∙ c.in-Some.ensures.cases.0) c.is_tree.ensures c.if-is_tree.false

pub returns-in-None-clause-given : goal.returns-in-None-clause-given
returns-in-None-clause-given c =
    no_schema c.args.size c.args.file.now c.as_slice.result.now (sym c.as_slice.ensures) c.in-None.ensures.cases
