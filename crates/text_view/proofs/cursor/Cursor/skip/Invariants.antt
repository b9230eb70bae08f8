use Rattle.std.proofs.Common.{◌≡◌, ◌-◌, ◌≤◌, drop}
use Rattle.std.specs.Str.{chars}
use Rattle.text_view.specs.Spelled.{seen}
use Rattle.text_view.specs.Fronts.{Walks}
use Rattle.text_view.proofs.cursor.Cursor.skip.Given as goal

abbrev pub invariant-each : goal.invariant-each
invariant-each l = record {
  value : drop l.left (seen l.self) ≡ drop l.count (seen l.initial.self);
  within : l.left ≤ l.count;
  walks : Walks l.initial.self.escape (chars l.initial.self.rest.now) (l.count - l.left) l.self.escape (chars l.self.rest.now);
}

abbrev pub decreases-each : goal.decreases-each
decreases-each l = l.left
