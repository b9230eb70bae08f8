use Rattle.std.proofs.Common.{◌≡◌, List, ℕ, ◌∙◌, ap, sym}
use Rattle.std.proofs.lemmas.Slice.Eq.{bytes_eq-Decides}
use Rattle.std.specs.Str.{chars}
use Rattle.text_view.proofs.Cases.{same_chars}
use Rattle.text_view.proofs.view.Text.equals.Goals as goal

pub returns-in-Some : goal.returns-in-Some
returns-in-Some c =
    let text : List ℕ = c.as_bytes.result.now in
    let other : List ℕ = c.as_bytes-in-Some.result.now in
    let left : c.args.self.now ≡ chars text = c.in-Some.ensures ∙ ap chars (sym c.as_bytes.ensures.value) in
    let right : chars c.args.other.now ≡ chars other = ap chars (sym c.as_bytes-in-Some.ensures.value) in (
      λ t. left ∙ ap chars ((bytes_eq-Decides text other).0 (sym c.eq.ensures ∙ t)) ∙ sym right,
      λ e. c.eq.ensures ∙ (bytes_eq-Decides text other).1 (same_chars text other c.as_bytes.ensures.utf8 c.as_bytes-in-Some.ensures.utf8 (sym left ∙ e ∙ right)),
    )

pub returns-in-None : goal.returns-in-None
returns-in-None c = rw (c.cursor.ensures.value, c.plain.ensures.value) at c.same.ensures
