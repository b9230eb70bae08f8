use Rattle.std.proofs.Common.{◌≡◌, List, ℕ, ◌∙◌, ap, sym}
use Rattle.std.specs.Str.{chars}
use Rattle.text_view.proofs.Cases.{same_lower, same_lower_bytes}
use Rattle.text_view.proofs.view.Text.eq_ignore_ascii_case.Goals as goal

pub returns-in-Some : goal.returns-in-Some
returns-in-Some c =
    let text : List ℕ = c.as_bytes.result.now in
    let other : List ℕ = c.as_bytes-in-Some.result.now in
    let left : c.args.self.now ≡ chars text = c.in-Some.ensures ∙ ap chars (sym c.as_bytes.ensures.value) in
    let right : chars c.args.other.now ≡ chars other = ap chars (sym c.as_bytes-in-Some.ensures.value) in
    rw (left, right) (
      λ t. same_lower text other c.as_bytes.ensures.utf8 c.as_bytes-in-Some.ensures.utf8 (c.eq_ignore_ascii_case.ensures.test.0 t),
      λ e. c.eq_ignore_ascii_case.ensures.test.1 (same_lower_bytes text other c.as_bytes.ensures.utf8 c.as_bytes-in-Some.ensures.utf8 e),
    )

pub returns-in-None : goal.returns-in-None
returns-in-None c = rw (c.lower.ensures, c.cursor.ensures.value, c.in_case.ensures.value) at c.same.ensures
