use Rattle.std.proofs.Common.{◌-◌, List, ℕ, length, sym, ◌∙◌, arith}
use Rattle.std.proofs.lemmas.Slice.Eq.{bytes_eq-Decides}
use Rattle.text_view.proofs.Shaped.{ends_of, too_short_end}
use Rattle.text_view.proofs.shapes.ends.Goals as goal

pub returns-then-bytes-wanted : goal.returns-then-bytes-wanted
returns-then-bytes-wanted c = too_short_end c.args.text.now c.args.wanted.now c.utf8.text c.utf8.wanted (omega (arith, c.as_bytes-bytes.ensures.len, c.as_bytes-wanted.ensures.len))

pub returns : goal.returns
returns c =
    let back : List ℕ = c.split_at.result.1.now in
    let wanted : List ℕ = c.as_bytes-wanted.result.now in
    let place : ℕ = length c.args.text.now - length c.args.wanted.now in
    let is = rw (c.as_bytes-bytes.ensures.value, c.as_bytes-wanted.ensures.value) at c.split_at.ensures.back in
    ends_of c.args.text.now c.args.wanted.now place c.eq.result c.utf8.text c.utf8.wanted (omega (arith, c.as_bytes-bytes.ensures.len, c.as_bytes-wanted.ensures.len))
    (λ t. sym is ∙ (bytes_eq-Decides back wanted).0 (sym c.eq.ensures ∙ t) ∙ c.as_bytes-wanted.ensures.value)
    (λ e. c.eq.ensures ∙ (bytes_eq-Decides back wanted).1 (is ∙ e ∙ sym c.as_bytes-wanted.ensures.value))
