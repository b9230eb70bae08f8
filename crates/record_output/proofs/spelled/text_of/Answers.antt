use Rattle.sql_value.proofs.Nodes.{text_is, text_there}
use Rattle.record_output.proofs.spelled.text_of.Goals as goal

pub unreachable-requires : goal.unreachable-requires
unreachable-requires c = text_there c.args.node.now c.token-token.result.now c.token-token.ensures.value c.token-token.ensures.sound c.requires c.in-None.ensures

pub returns : goal.returns
returns c = text_is c.args.node.now c.token-token.result.now c.in-Some.text c.token-token.ensures.value c.token-token.ensures.sound c.requires c.in-Some.ensures
