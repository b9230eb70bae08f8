use Rattle.std.proofs.Common.{List, ℕ, sym, ◌∙◌}
use Rattle.std.proofs.lemmas.Slice.Eq.{bytes_eq-Decides}
use Rattle.text_view.proofs.Shaped.{is_whole_of}
use Rattle.text_view.proofs.shapes.is_whole.Goals as goal

pub returns : goal.returns
returns c =
    let text : List ℕ = c.as_bytes.result.now in
    let wanted : List ℕ = c.as_bytes-2.result.now in
    is_whole_of c.args.text.now c.args.wanted.now c.eq.result c.utf8.text c.utf8.wanted
    (λ t. sym c.as_bytes.ensures.value ∙ (bytes_eq-Decides text wanted).0 (sym c.eq.ensures ∙ t) ∙ c.as_bytes-2.ensures.value)
    (λ e. c.eq.ensures ∙ (bytes_eq-Decides text wanted).1 (c.as_bytes.ensures.value ∙ e ∙ sym c.as_bytes-2.ensures.value))
