use Rattle.std.proofs.Common.{◌≡◌, ℕ, List, ap, sym, subst, ◌∙◌, arith}
use Rattle.event_frame.specs.Reading.{number_at, IsWhole}
use Rattle.event_frame.proofs.IntakeLaws.{total_fits, begun_more, whole_now}
use Rattle.event_frame.proofs.intake.take_message.Goals as goal

pub fill_to-requires : goal.fill_to-requires
fill_to-requires c =
    let total : c.number_at-total.result ≡ number_at c.args.buffer.now.items 0 =
    c.number_at-total.ensures ∙ ap (λ (l : List ℕ). number_at l 0) c.deref.ensures.value in
    omega (arith, total_fits _ c.requires.prelude, c.requires.room)

pub returns-then-len-total-clause-steps : goal.returns-then-len-total-clause-steps
returns-then-len-total-clause-steps c =
    let total : c.number_at-total.result ≡ number_at c.args.buffer.now.items 0 =
    c.number_at-total.ensures ∙ ap (λ (l : List ℕ). number_at l 0) c.deref.ensures.value in
    begun_more c.args.buffer.now.items c.args.piece.now c.fill_to.new.buffer.items c.number_at-total.result c.requires.prelude c.requires.begun
    total c.fill_to.ensures.bytes (omega (arith, c.if-len-total.true, c.len.ensures))

pub check_message-requires-clause-whole : goal.check_message-requires-clause-whole
check_message-requires-clause-whole c =
    let total : c.number_at-total.result ≡ number_at c.args.buffer.now.items 0 =
    c.number_at-total.ensures ∙ ap (λ (l : List ℕ). number_at l 0) c.deref.ensures.value in
    subst IsWhole (sym c.deref-2.ensures.value)
    (whole_now c.args.buffer.now.items c.args.piece.now c.fill_to.new.buffer.items c.number_at-total.result c.requires.prelude c.requires.begun
    total c.fill_to.ensures.bytes (omega (arith, c.if-len-total.false, c.len.ensures)))
