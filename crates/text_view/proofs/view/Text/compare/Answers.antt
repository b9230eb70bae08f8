use Rattle.std.proofs.Common.{◌≡◌, sym, ◌∙◌, ap}
use Rattle.std.specs.Str.{chars}
use Rattle.text_view.proofs.CodePoints.{ordered_bytes}
use Rattle.text_view.proofs.view.Text.compare.Goals as goal

pub returns-in-Some-whole : goal.returns-in-Some-whole
returns-in-Some-whole c =
    let left : c.args.self.now ≡ chars c.as_bytes.result.now = sym c.cursor-left.ensures.value ∙ c.in-Some.ensures.0 ∙ ap chars (sym c.as_bytes.ensures.value) in
    let right : c.args.other.now ≡ chars c.as_bytes-in-Some-whole.result.now = sym c.cursor-right.ensures.value ∙ c.in-Some-whole.ensures.0 ∙ ap chars (sym c.as_bytes-in-Some-whole.ensures.value) in
    rw (left, right) (c.cmp.ensures ∙ ordered_bytes _ _ c.as_bytes.ensures.utf8 c.as_bytes-in-Some-whole.ensures.utf8)
