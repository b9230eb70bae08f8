use Rattle.std.proofs.Common.{sym, ap, ◌∙◌}
use Rattle.sql_value.specs.Settled.{settled}
use Rattle.sql_value.proofs.Nodes.{settled_tree}
use Rattle.sql_value.proofs.settling.settle.Goals as goal

pub returns-in-None-clause-tree : goal.returns-in-None-clause-tree
returns-in-None-clause-tree c =
    λ bytes tree e x. sym c.in-None.ensures ∙ ap settled c.again-out.ensures ∙ settled_tree c.args.value.now bytes tree e x

pub returns-in-Some-clause-tree : goal.returns-in-Some-clause-tree
returns-in-Some-clause-tree c =
    λ bytes tree e x. sym c.in-Some.ensures.0 ∙ ap settled c.again-out.ensures ∙ settled_tree c.args.value.now bytes tree e x
