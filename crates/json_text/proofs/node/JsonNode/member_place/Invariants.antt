use Rattle.std.specs.Str.{chars}
use Rattle.json_text.specs.Grammar.{Json}
use Rattle.json_text.specs.Nodes.{Spells}
use Rattle.json_text.specs.Walks.{bytes_left}
use Rattle.json_text.specs.Naming.{members_of, is_named}
use Rattle.json_text.proofs.Membered.{StillFinds}
use Rattle.json_text.proofs.node.JsonNode.member_place.Given as goal

abbrev pub invariant-each : goal.invariant-each
invariant-each l = (tree : Json) → Spells l.self tree → StillFinds (is_named l.exact (chars l.name)) l.walk (members_of tree)

abbrev pub decreases-each : goal.decreases-each
decreases-each l = bytes_left l.walk
