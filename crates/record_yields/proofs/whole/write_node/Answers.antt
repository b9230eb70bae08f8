use Rattle.std.proofs.Common.{subst}
use Rattle.json_text.specs.Nodes.{IsNode}
use Rattle.record_yields.proofs.Wholes.{node_written, node_over}
use Rattle.record_yields.proofs.whole.write_node.Goals as goal

pub returns-in-Ok-clause-yields : goal.returns-in-Ok-clause-yields
returns-in-Ok-clause-yields c =
    node_written c.args.out.now c.whole.new.self c.args.node.now
    (subst (λ b. ∥ IsNode b ∥₁) c.token-token.ensures.value c.token-token.ensures.sound)
    c.in-Ok.field-0 c.in-Ok.ensures.verdict c.in-Ok.ensures.ok c.in-Ok.ensures.settings

pub returns-in-Err-clause-yields : goal.returns-in-Err-clause-yields
returns-in-Err-clause-yields c =
    node_over c.args.out.now c.whole.new.self c.args.node.now
    (subst (λ b. ∥ IsNode b ∥₁) c.token-token.ensures.value c.token-token.ensures.sound)
    c.in-Err.field-0 c.in-Err.ensures.verdict
