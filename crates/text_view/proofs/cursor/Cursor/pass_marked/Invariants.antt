use Rattle.std.proofs.Common.{◌≡◌, length}
use Rattle.text_view.specs.Spelled.{seen}
use Rattle.text_view.specs.Trimmed.{leading_by, is_marked}
use Rattle.text_view.proofs.cursor.Cursor.pass_marked.Given as goal

abbrev pub invariant-each : goal.invariant-each
invariant-each l = record {
  same : seen l.ahead ≡ seen l.self;
  left : leading_by (is_marked l.marks) (seen l.self) ≡ leading_by (is_marked l.marks) (seen l.initial.self);
}

abbrev pub decreases-each : goal.decreases-each
decreases-each l = length l.ahead.rest.now
