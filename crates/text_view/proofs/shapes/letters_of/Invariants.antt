use Rattle.std.proofs.Common.{◌≡◌, ◌++◌, length}
use Rattle.std.specs.Str.{encode_utf8_all}
use Rattle.std.specs.String.{string_bytes}
use Rattle.text_view.specs.Shapes.{letters_in}
use Rattle.text_view.proofs.shapes.letters_of.Given as goal

abbrev pub invariant-each : goal.invariant-each
invariant-each l = string_bytes l.text ++ encode_utf8_all (letters_in l.left) ≡ encode_utf8_all (letters_in l.parts)

abbrev pub decreases-each : goal.decreases-each
decreases-each l = length l.left
