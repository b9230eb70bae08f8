use Rattle.sql_value.proofs.Nodes.{kind_is}
use Rattle.record_output.proofs.spelled.kind_of.Goals as goal

pub returns : goal.returns
returns c = kind_is c.args.node.now c.token-token.result.now c.kind.result c.token-token.ensures.value c.token-token.ensures.sound c.kind.ensures
