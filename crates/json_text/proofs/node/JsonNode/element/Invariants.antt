use Rattle.std.proofs.Common.{drop}
use Rattle.json_text.specs.Grammar.{Json}
use Rattle.json_text.specs.Nodes.{Spells}
use Rattle.json_text.specs.Walks.{Ahead, elements_of}
use Rattle.json_text.proofs.node.JsonNode.element.Given as goal

abbrev pub invariant-loop-passed : goal.invariant-loop-passed
invariant-loop-passed l = (tree : Json) → Spells l.self tree → Ahead l.walk (drop l.passed (elements_of tree))
