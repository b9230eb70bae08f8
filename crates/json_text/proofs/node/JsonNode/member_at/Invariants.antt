use Rattle.std.proofs.Common.{drop}
use Rattle.json_text.specs.Grammar.{Json}
use Rattle.json_text.specs.Nodes.{Spells}
use Rattle.json_text.specs.Naming.{Coming, members_of}
use Rattle.json_text.proofs.node.JsonNode.member_at.Given as goal

abbrev pub invariant-loop-passed : goal.invariant-loop-passed
invariant-loop-passed l = (tree : Json) → Spells l.self tree → Coming l.walk (drop l.passed (members_of tree))
