-- The name ends at the first `;`.
use Rattle.std.proofs.Common.{◌∙◌, ap, None, Some}
use Rattle.request_elements.specs.TextValue.{referred}
use Rattle.request_elements.proofs.TextLaws.{reference_none, reference_some, shorter_behind}
use Rattle.request_elements.proofs.text.reference.Goals as goal

pub returns-in_default-clause-reads : goal.returns-in_default-clause-reads
returns-in_default-clause-reads c = reference_none c.args.text.now c.in_default.ensures

pub returns-in-Some-referred-clause-reads : goal.returns-in-Some-referred-clause-reads
returns-in-Some-referred-clause-reads c =
    reference_some c.args.text.now c.in-Some.name.now c.in-Some.behind.now (Some c.in-Some-referred.character) c.in-Some.ensures.0 c.in-Some.ensures.1
    (c.in-Some-referred.ensures ∙ ap referred c.as_bytes.ensures.value)

pub returns-in-None-clause-reads : goal.returns-in-None-clause-reads
returns-in-None-clause-reads c =
    reference_some c.args.text.now c.in-Some.name.now c.in-Some.behind.now None c.in-Some.ensures.0 c.in-Some.ensures.1
    (c.in-None.ensures ∙ ap referred c.as_bytes.ensures.value)

pub returns-in-Some-referred-clause-shorter : goal.returns-in-Some-referred-clause-shorter
returns-in-Some-referred-clause-shorter c = shorter_behind c.args.text.now c.in-Some.name.now c.in-Some.behind.now c.in-Some.ensures.0
