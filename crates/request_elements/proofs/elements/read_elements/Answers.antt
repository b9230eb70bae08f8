-- The outcome of the whole body is its answer.
use Rattle.std.proofs.Common.{◌∙◌, length}
use Rattle.grammar_rules.specs.Placed.{first_place}
use Rattle.request_elements.proofs.BodyAnswers.{body_read, body_goes_on, failure_sound, failure_spelled, failure_refused, one_list, not_both, one_place, none_left, some_left}
use Rattle.request_elements.proofs.elements.read_elements.Goals as goal

pub returns-then-is_empty-clause-sound : goal.returns-then-is_empty-clause-sound
returns-then-is_empty-clause-sound c =
    body_read c.args.body.now c.document.new.found.items c.document.new.pieces (rw (c.new-found.ensures.items, c.new-pieces.ensures) at c.in-Ok.ensures) (none_left c.document.new.pieces c.is_empty.result c.is_empty.ensures c.if-is_empty.true)

pub returns-then-is_empty-clause-spelled : goal.returns-then-is_empty-clause-spelled
returns-then-is_empty-clause-spelled c =
    let read = body_read c.args.body.now c.document.new.found.items c.document.new.pieces (rw (c.new-found.ensures.items, c.new-pieces.ensures) at c.in-Ok.ensures) (none_left c.document.new.pieces c.is_empty.result c.is_empty.ensures c.if-is_empty.true) in
    λ all w. one_list c.args.body.now c.document.new.found.items all read w

pub returns-then-is_empty-clause-refused : goal.returns-then-is_empty-clause-refused
returns-then-is_empty-clause-refused c =
    let read = body_read c.args.body.now c.document.new.found.items c.document.new.pieces (rw (c.new-found.ensures.items, c.new-pieces.ensures) at c.in-Ok.ensures) (none_left c.document.new.pieces c.is_empty.result c.is_empty.ensures c.if-is_empty.true) in
    λ place w. not_both c.args.body.now c.document.new.found.items place read w

pub returns-else-is_empty-clause-sound : goal.returns-else-is_empty-clause-sound
returns-else-is_empty-clause-sound c =
    rw c.place.ensures
    (body_goes_on c.args.body.now c.document.new.found.items c.document.new.pieces (rw (c.new-found.ensures.items, c.new-pieces.ensures) at c.in-Ok.ensures) (some_left c.document.new.pieces c.is_empty.result c.is_empty.ensures c.if-is_empty.false))

pub returns-else-is_empty-clause-spelled : goal.returns-else-is_empty-clause-spelled
returns-else-is_empty-clause-spelled c =
    let refused = body_goes_on c.args.body.now c.document.new.found.items c.document.new.pieces (rw (c.new-found.ensures.items, c.new-pieces.ensures) at c.in-Ok.ensures) (some_left c.document.new.pieces c.is_empty.result c.is_empty.ensures c.if-is_empty.false) in
    λ all w. absurd (not_both c.args.body.now all (first_place (length c.args.body.now) c.document.new.pieces) w refused)

pub returns-else-is_empty-clause-refused : goal.returns-else-is_empty-clause-refused
returns-else-is_empty-clause-refused c =
    let refused = body_goes_on c.args.body.now c.document.new.found.items c.document.new.pieces (rw (c.new-found.ensures.items, c.new-pieces.ensures) at c.in-Ok.ensures) (some_left c.document.new.pieces c.is_empty.result c.is_empty.ensures c.if-is_empty.false) in
    λ place w. c.place.ensures ∙ one_place c.args.body.now (first_place (length c.args.body.now) c.document.new.pieces) place refused w

pub returns-in-Err-clause-sound : goal.returns-in-Err-clause-sound
returns-in-Err-clause-sound c =
    rw (c.error_at.ensures, c.place-in-Err.ensures)
    (failure_sound (Unit {0}) c.args.body.now c.new-found.result.items c.document.new.found.items c.new-pieces.result c.document.new.pieces c.new-found.ensures.items c.new-pieces.ensures c.in-Err.failure c.in-Err.ensures)

pub returns-in-Err-clause-spelled : goal.returns-in-Err-clause-spelled
returns-in-Err-clause-spelled c =
    rw (c.error_at.ensures, c.place-in-Err.ensures)
    (failure_spelled (Unit {0}) c.args.body.now c.new-found.result.items c.document.new.found.items c.new-pieces.result c.document.new.pieces c.new-found.ensures.items c.new-pieces.ensures c.in-Err.failure c.in-Err.ensures)

pub returns-in-Err-clause-refused : goal.returns-in-Err-clause-refused
returns-in-Err-clause-refused c =
    rw (c.error_at.ensures, c.place-in-Err.ensures)
    (failure_refused (Unit {0}) c.args.body.now c.new-found.result.items c.document.new.found.items c.new-pieces.result c.document.new.pieces c.new-found.ensures.items c.new-pieces.ensures c.in-Err.failure c.in-Err.ensures)
