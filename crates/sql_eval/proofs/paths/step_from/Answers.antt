use Rattle.sql_eval.proofs.Stepping.{named_step, placed_step}
use Rattle.sql_eval.proofs.paths.step_from.Goals as goal

pub returns-in-Member : goal.returns-in-Member
returns-in-Member c =
    named_step c.args.step.now c.in-Member.name c.args.node.now c.token-token.result.now c.text.result.now c.member.result c.in-Member.is c.text.ensures
    c.token-token.ensures.value c.token-token.ensures.sound c.member.ensures

pub returns-in-Element : goal.returns-in-Element
returns-in-Element c =
    placed_step c.args.step.now c.in-Element.place c.args.node.now c.token-token.result.now c.element.result c.in-Element.is
    c.token-token.ensures.value c.token-token.ensures.sound c.element.ensures
