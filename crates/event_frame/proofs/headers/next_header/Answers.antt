use Rattle.std.proofs.Common.{◌∙◌, ◌∷◌, sym, ap}
use Rattle.event_frame.proofs.CountsLaws.{left_early}
use Rattle.event_frame.proofs.HeaderLaws.{no_header-empty, no_header-unnamed, no_header-short_name, no_header-short, no_header-kind, no_header-short_value, spells-header}
use Rattle.event_frame.proofs.headers.next_header.Goals as goal

pub returns-in_err-length : goal.returns-in_err-length
returns-in_err-length c = left_early _ _ _ c.from_residual.ensures (no_header-empty _ c.in_err-length.ensures.cases)

pub returns-then-length-eq0 : goal.returns-then-length-eq0
returns-then-length-eq0 c = no_header-unnamed _ _ _ c.in_ok-length.ensures.cases.0 c.if-length-eq0.true

pub returns-in_err-name : goal.returns-in_err-name
returns-in_err-name c =
    left_early _ _ _ c.from_residual-in_err-name.ensures
    (no_header-short_name _ _ c.from.result (c.in_ok-length.ensures.cases.0 ∙ ap (λ n. n ∷ c.in_ok-length.rest.now) (sym c.from.ensures)) c.in_err-name.ensures.cases)

pub returns-in_default : goal.returns-in_default
returns-in_default c =
    no_header-short _ _ c.in_ok-name.rest.now c.from.result (c.in_ok-length.ensures.cases.0 ∙ ap (λ n. n ∷ c.in_ok-length.rest.now) (sym c.from.ensures))
    c.in_ok-name.ensures.cases.2 c.in_default.len_below

pub returns-then-kind-ne-STRING_KIND : goal.returns-then-kind-ne-STRING_KIND
returns-then-kind-ne-STRING_KIND c =
    no_header-kind _ _ c.in_ok-name.rest.now c.from.result (c.in_ok-length.ensures.cases.0 ∙ ap (λ n. n ∷ c.in_ok-length.rest.now) (sym c.from.ensures))
    c.in_ok-name.ensures.cases.2 c.if-kind-ne-STRING_KIND.true

pub returns-in_err-value : goal.returns-in_err-value
returns-in_err-value c =
    left_early _ _ _ c.from_residual-in_err-value.ensures
    (no_header-short_value _ _ c.in_ok-name.rest.now c.from.result c.from-2.result
    (c.in_ok-length.ensures.cases.0 ∙ ap (λ n. n ∷ c.in_ok-length.rest.now) (sym c.from.ensures))
    c.in_ok-name.ensures.cases.2 (c.from-2.ensures ∙ c.from_be_bytes.ensures) c.in_err-value.ensures.cases)

pub returns : goal.returns
returns c =
    spells-header _ _ c.in_ok-name.name.now c.in_ok-name.rest.now c.in_ok-value.value.now c.in_ok-value.rest.now
    c.in_ok-length.length.now c.from.result c.from-2.result c.in_ok-length.ensures.cases.0 c.if-length-eq0.false (λ i. (c.type_inv.bytes i).fits) c.from.ensures
    c.in_ok-name.ensures.cases c.in-len3-up.len_at_least c.if-kind-ne-STRING_KIND.false (c.from-2.ensures ∙ c.from_be_bytes.ensures)
    c.in_ok-value.ensures.cases.1 c.in_ok-value.ensures.cases.2 c.in_ok-value.ensures.cases.3
