use Rattle.std.proofs.Common.{◌≡◌, ◌+◌, take, count_by}
use Rattle.text_view.specs.FirstBytes.{begins_char}
use Rattle.text_view.proofs.characters.place_behind.Given as goal

abbrev pub invariant-each : goal.invariant-each
invariant-each l = count_by begins_char (take l.place l.bytes) + l.left ≡ l.count
