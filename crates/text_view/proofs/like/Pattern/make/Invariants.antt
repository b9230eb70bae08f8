use Rattle.std.proofs.Common.{◌≡◌, ◌++◌, length}
use Rattle.std.specs.Option.{option_map}
use Rattle.std.specs.Str.{chars}
use Rattle.text_view.specs.LikePattern.{pattern_parts}
use Rattle.text_view.proofs.like.Pattern.make.Given as goal
use denote.Shadow.{shadow}
use denote.Text.{Utf8}

abbrev pub invariant-each : goal.invariant-each
invariant-each l = record {
  same : pattern_parts l.escape (chars l.pattern) ≡ option_map (λ parts. l.parts.items ++ parts) (pattern_parts l.escape (chars l.rest));
  text : shadow (Utf8 l.rest);
}

abbrev pub decreases-each : goal.decreases-each
decreases-each l = length l.rest
