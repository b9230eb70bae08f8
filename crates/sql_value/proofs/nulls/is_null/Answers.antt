use Rattle.std.proofs.Common.{ap, ◌∙◌}
use Rattle.sql_value.specs.Settled.{is_null_kind}
use Rattle.sql_value.proofs.Nodes.{null_node}
use Rattle.sql_value.proofs.nulls.is_null.Goals as goal

pub returns-in-Node-clause-tree : goal.returns-in-Node-clause-tree
returns-in-Node-clause-tree c =
    λ bytes tree e x. c.is_null_of_json.ensures ∙ ap is_null_kind c.kind_of.ensures ∙ null_node c.args.value.now c.in-Node.node bytes tree c.in-Node.is e x
