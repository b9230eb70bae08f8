use Rattle.std.proofs.Common.{◌≡◌, map, length}
use Rattle.std.specs.Str.{chars}
use Rattle.text_view.specs.Spelled.{cased}
use Rattle.text_view.specs.Trimmed.{leading_by, is_marked}
use Rattle.text_view.proofs.trim.without_front.Given as goal
use denote.Shadow.{shadow}
use denote.Text.{Utf8}

abbrev pub invariant-each : goal.invariant-each
invariant-each l = record {
  same : leading_by (is_marked l.marks) (map (cased l.case) (chars l.left)) ≡ leading_by (is_marked l.marks) (map (cased l.case) (chars l.text));
  text : shadow (Utf8 l.left);
}

abbrev pub decreases-each : goal.decreases-each
decreases-each l = length l.left
