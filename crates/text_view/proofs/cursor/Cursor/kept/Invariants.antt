use Rattle.std.proofs.Common.{◌≡◌, ◌+◌, ◌≤◌, length}
use Rattle.text_view.specs.Spelled.{seen, kept_after}
use Rattle.text_view.specs.Trimmed.{is_marked}
use Rattle.text_view.proofs.cursor.Cursor.kept.Given as goal

abbrev pub invariant-each : goal.invariant-each
invariant-each l = record {
  left : kept_after (is_marked l.marks) l.kept l.passed (seen l.self) ≡ kept_after (is_marked l.marks) 0 0 (seen l.initial.self);
  within : l.passed + length l.self.rest.now ≤ length l.initial.self.rest.now;
}

abbrev pub decreases-each : goal.decreases-each
decreases-each l = length l.self.rest.now
