use Rattle.std.specs.Prelude.{◌≤◌, length}
use Rattle.std.proofs.Common.{◌∙◌, ap, subst, arith}
use Rattle.request_elements.specs.Body.{IsMalformedAs}
use Rattle.request_elements.specs.declared.elements.ElementsError.{ElementsError}
use Rattle.select_request.specs.Reading.{longest_body}
use Rattle.select_request.proofs.ValidRequests.{spelled_is_valid}
use Rattle.select_request.proofs.ReadTexts.{read_is_printable}
use Rattle.select_request.proofs.OneReading.{refused_at, no_body, one_fault}
use Rattle.select_request.proofs.body.read.Goals as goal

pub returns-in-Err-Malformed-clause-fault : goal.returns-in-Err-Malformed-clause-fault
returns-in-Err-Malformed-clause-fault c =
    let short : length c.args.body.now ≤ longest_body = omega arith in
    let malformed = subst (λ (e : ElementsError). IsMalformedAs c.args.body.now e) c.in-Err-Malformed.field-0-is c.in-Err-Malformed.ensures.sound in
    λ fault has.
    c.malformed-in-Err-Malformed.ensures
    ∙ ap refused_at c.in-Err-Malformed.at-is
    ∙ one_fault c.args.body.now (refused_at c.in-Err-Malformed.at) fault (no_body c.args.body.now c.in-Err-Malformed.at short malformed) has

pub returns-in-Ok-request_of-clause-valid : goal.returns-in-Ok-request_of-clause-valid
returns-in-Ok-request_of-clause-valid c =
    spelled_is_valid c.in-Ok-request_of.request _ c.in-Ok-request_of.ensures.request.1 c.in-Ok-request_of.ensures.request.0

pub returns-in-Ok-request_of-clause-printable : goal.returns-in-Ok-request_of-clause-printable
returns-in-Ok-request_of-clause-printable c = λ short.
    read_is_printable c.args.body.now c.in-Ok-request_of.request _ c.in-Ok.ensures.sound c.in-Ok-request_of.ensures.request.1 c.in-Ok-request_of.ensures.request.0 short
