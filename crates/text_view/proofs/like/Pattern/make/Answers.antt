use Rattle.std.proofs.lemmas.Str.{IsUtf8-string_bytes}
use Rattle.std.specs.String.{string_bytes}
use Rattle.text_view.proofs.Patterns.{parts_whole}
use Rattle.text_view.proofs.Shaped.{shaped_chars}
use Rattle.text_view.proofs.like.Pattern.make.Goals as goal

pub invariant_of-result : goal.invariant_of-result
invariant_of-result c =
    let parts = rw c.as_slice-2.ensures.value at c.shape_of-shape.ensures in
    let bytes = rw c.as_slice.ensures.value at c.in_ok-letters.ensures in
    shaped_chars c.shape_of-shape.result c.each.parts.items (string_bytes c.in_ok-letters.letters) (IsUtf8-string_bytes c.in_ok-letters.letters) bytes parts

pub returns : goal.returns
returns c = parts_whole _ _ _ _ c.each.invariant.same c.in_default.ensures.value
