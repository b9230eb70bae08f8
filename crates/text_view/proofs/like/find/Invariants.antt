use Rattle.std.proofs.Common.{◌≡◌, ◌≤◌, length}
use Rattle.text_view.specs.Finding.{find_parts}
use Rattle.text_view.specs.Spelled.{seen}
use Rattle.text_view.proofs.like.find.Given as goal

abbrev pub invariant-each : goal.invariant-each
invariant-each l = record {
  same : find_parts l.parts (seen l.initial.rest) ≡ find_parts l.left (seen l.rest);
  fewer : length l.left ≤ length l.parts;
  shorter : length l.rest.rest.now ≤ length l.initial.rest.rest.now;
}

abbrev pub decreases-each : goal.decreases-each
decreases-each l = length l.left
