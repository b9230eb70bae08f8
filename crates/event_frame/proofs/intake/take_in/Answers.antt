use Rattle.std.proofs.Common.{◌≡◌, ◌-◌, length, min, ap, sym, ◌∙◌, arith}
use Rattle.event_frame.proofs.IntakeLaws.{prelude_faulty, short_of_total, steps_after}
use Rattle.event_frame.specs.Reading.{prelude_fault}
use Rattle.event_frame.proofs.intake.take_in.Goals as goal

pub returns-in-Some-clause-steps : goal.returns-in-Some-clause-steps
returns-in-Some-clause-steps c =
    let size : length c.fill_to-rest.new.buffer.items ≡ 12 = omega (arith, c.fill_to-rest.ensures.len) in (
      record { count = min (12 - length c.args.buffer.now.items) (length c.args.piece.now); within = omega arith; joined = c.fill_to-rest.ensures.bytes },
      prelude_faulty c.fill_to-rest.new.buffer.items c.in-Some.code c.in-Some.place size
          (ap prelude_fault (sym c.deref.ensures.value) ∙ sym c.in-Some.ensures.fault),
      omega (arith, c.in-Some.ensures.place),
    )

pub take_message-requires-2-clause-begun : goal.take_message-requires-2-clause-begun
take_message-requires-2-clause-begun c =
    let size : length c.fill_to-rest.new.buffer.items ≡ 12 = omega (arith, c.fill_to-rest.ensures.len) in
    short_of_total c.fill_to-rest.new.buffer.items size (ap prelude_fault (sym c.deref.ensures.value) ∙ sym c.in_default.ensures.fault)

pub returns-clause-steps : goal.returns-clause-steps
returns-clause-steps c =
    steps_after c.args.buffer.now.items c.args.piece.now c.fill_to-rest.new.buffer.items c.fill_to-rest.result.now c.take_message-2.new.buffer.items
    (min (12 - length c.args.buffer.now.items) (length c.args.piece.now)) c.take_message-2.result (omega arith) c.fill_to-rest.ensures.bytes
    c.fill_to-rest.ensures.rest c.take_message-2.ensures.steps
