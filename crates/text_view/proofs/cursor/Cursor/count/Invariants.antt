use Rattle.std.proofs.Common.{◌≡◌, ◌+◌, ◌≤◌, length}
use Rattle.text_view.specs.Spelled.{seen}
use Rattle.text_view.proofs.cursor.Cursor.count.Given as goal

abbrev pub invariant-each : goal.invariant-each
invariant-each l = record {
  total : l.count + length (seen l.self) ≡ length (seen l.fn.self);
  within : l.count + length l.self.rest.now ≤ length l.fn.self.rest.now;
}

abbrev pub decreases-each : goal.decreases-each
decreases-each l = length l.self.rest.now
