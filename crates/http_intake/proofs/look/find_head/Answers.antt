use Rattle.std.proofs.Common.{ap, ◌∙◌, Err}
use Rattle.http_intake.proofs.HeadRoom.{head_found, no-excess}
use Rattle.http_intake.proofs.look.find_head.Goals as goal

pub returns-in-Err-TooManyHeaders : goal.returns-in-Err-TooManyHeaders
returns-in-Err-TooManyHeaders c =
    let full = c.parse_request.ensures.too_many (c.in-Err-TooManyHeaders.is ∙ ap (λ e. Err e) c.in-Err-TooManyHeaders.field-0-is) in
    absurd (no-excess c.args.kept.now (rw (c.judged.ensures, c.requires) at full))

pub returns-in-Ok-Complete : goal.returns-in-Ok-Complete
returns-in-Ok-Complete c =
    head_found c.args.kept.now c.parse_request.new.headers c.in-Ok-Complete.head (rw (c.judged.ensures, c.in-Ok-Complete.field-0-is) at c.in-Ok-Complete.ensures.within)
    (rw (c.judged.ensures, c.in-Ok-Complete.field-0-is) at c.in-Ok-Complete.ensures.complete)
