-- What was resolved, and then what is left.
use Rattle.std.proofs.Common.{◌≡◌, ◌++◌, length, option_map}
use denote.Text.{Utf8}
use denote.Shadow.{shadow}
use Rattle.std.specs.Prelude.{string_bytes}
use Rattle.request_elements.specs.TextValue.{resolved}
use Rattle.request_elements.proofs.text.resolve.Given as goal

abbrev pub invariant-references : goal.invariant-references
invariant-references l = record {
  text : shadow (Utf8 l.left);
  resolves : resolved l.fn.text ≡ option_map (λ rest. string_bytes l.value ++ rest) (resolved l.left);
}

abbrev pub decreases-references : goal.decreases-references
decreases-references l = length l.left
