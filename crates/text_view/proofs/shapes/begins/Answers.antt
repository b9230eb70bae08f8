use Rattle.std.proofs.Common.{List, ℕ, sym, ◌∙◌, arith}
use Rattle.std.proofs.lemmas.Slice.Eq.{bytes_eq-Decides}
use Rattle.text_view.proofs.Shaped.{begins_of, too_short}
use Rattle.text_view.proofs.shapes.begins.Goals as goal

pub returns-then-bytes-wanted : goal.returns-then-bytes-wanted
returns-then-bytes-wanted c = too_short c.args.text.now c.args.wanted.now c.utf8.text c.utf8.wanted (omega (arith, c.as_bytes-bytes.ensures.len, c.as_bytes-wanted.ensures.len))

pub returns : goal.returns
returns c =
    let front : List ℕ = c.split_at.result.0.now in
    let wanted : List ℕ = c.as_bytes-wanted.result.now in
    let is = rw (c.as_bytes-bytes.ensures.value, c.as_bytes-wanted.ensures.value) at c.split_at.ensures.front in
    begins_of c.args.text.now c.args.wanted.now c.eq.result c.utf8.text c.utf8.wanted
    (λ t. sym is ∙ (bytes_eq-Decides front wanted).0 (sym c.eq.ensures ∙ t) ∙ c.as_bytes-wanted.ensures.value)
    (λ e. c.eq.ensures ∙ (bytes_eq-Decides front wanted).1 (is ∙ e ∙ sym c.as_bytes-wanted.ensures.value))
