use Rattle.std.proofs.Common.{◌≡◌, length, is_some}
use Rattle.std.specs.Str.{chars}
use Rattle.text_view.specs.LikePattern.{pattern_parts}
use Rattle.text_view.proofs.like.Pattern.fits.Given as goal
use denote.Shadow.{shadow}
use denote.Text.{Utf8}

abbrev pub invariant-each : goal.invariant-each
invariant-each l = record {
  same : is_some (pattern_parts l.escape (chars l.rest)) ≡ is_some (pattern_parts l.escape (chars l.initial.rest));
  text : shadow (Utf8 l.rest);
}

abbrev pub decreases-each : goal.decreases-each
decreases-each l = length l.rest
