use Rattle.std.proofs.Common.{◌∙◌}
use Rattle.json_text.proofs.Checks.{kind_told}
use Rattle.json_text.proofs.node.JsonNode.kind.Goals as goal

pub returns : goal.returns
returns c = kind_told c.args.self.now c.as_bytes.result.now c.kind_from.result (c.as_bytes.ensures.value ∙ c.self.view_is) c.kind_from.ensures
