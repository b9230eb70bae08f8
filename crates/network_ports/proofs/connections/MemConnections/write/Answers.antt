use Rattle.std.proofs.Common.{◌<◌, ◌≤◌, ⊎_elim, Ok, Err, length, take, true≢false, sym, ap, refl, ◌∙◌, arith}
use Rattle.std.proofs.lemmas.Bool.{cases_lt}
use Rattle.network_ports.specs.Scripted.{broken, sent}
use Rattle.network_ports.proofs.Places.{current-past, current-set}
use Rattle.network_ports.proofs.Telling.{of_err, of_ok, told_write}
use Rattle.network_ports.proofs.connections.MemConnections.write.Goals as goal

past : (c : goal.After-self-in_default-get_mut-2-1) → length c.self.inside.connections.items ≤ c.in-Some.place
past c =
    ⊎_elim (λ within. absurd (true≢false (sym (c.in_default-get_mut.ensures.variant.1 (omega (arith, within, c.self.inside.connections.ok.0)))))) (λ h. h)
    (cases_lt c.in-Some.place (length c.self.inside.connections.items))

pub returns-in_default-get_mut-clause-handed_in : goal.returns-in_default-get_mut-clause-handed_in
returns-in_default-get_mut-clause-handed_in c =
    rw (← c.self.view_is)
    (current-past c.self.inside.connections.items c.self.inside.begun c.in-Some.place broken c.in-Some.ensures.0 c.in-Some.ensures.1 (past c))

pub returns-then-is_err-clause-handed_in : goal.returns-then-is_err-clause-handed_in
returns-then-is_err-clause-handed_in c =
    rw (← c.self.view_is)
    (current-set c.self.inside.connections.items c.self.inside.begun c.in-Some.place broken c.in-Some-get_mut.connection.now c.fail.new.self
    c.in-Some.ensures.0 c.in-Some.ensures.1 (omega (arith, c.self.inside.connections.ok.0, c.in-Some-get_mut.ensures.variant.0 refl))
    c.in-Some-get_mut.ensures.value c.fail.ensures)

pub returns-then-is_err-clause-told : goal.returns-then-is_err-clause-told
returns-then-is_err-clause-told c =
    rw (← c.self.view_is)
    (told_write c.self.inside.connections.items _ c.self.inside.begun (Err _) c.args.buf.now
    (current-set c.self.inside.connections.items c.self.inside.begun c.in-Some.place broken c.in-Some-get_mut.connection.now c.fail.new.self
    c.in-Some.ensures.0 c.in-Some.ensures.1 (omega (arith, c.self.inside.connections.ok.0, c.in-Some-get_mut.ensures.variant.0 refl))
    c.in-Some-get_mut.ensures.value c.fail.ensures)
    tt)

pub returns-then-is_err-2-clause-handed_in : goal.returns-then-is_err-2-clause-handed_in
returns-then-is_err-2-clause-handed_in c =
    rw (← c.self.view_is)
    (current-set c.self.inside.connections.items c.self.inside.begun c.in-Some.place broken c.in-Some-get_mut.connection.now c.fail-then-is_err-2.new.self
    c.in-Some.ensures.0 c.in-Some.ensures.1 (omega (arith, c.self.inside.connections.ok.0, c.in-Some-get_mut.ensures.variant.0 refl))
    c.in-Some-get_mut.ensures.value (c.fail-then-is_err-2.ensures ∙ ap broken (of_err c.take.result _ c.take.ensures.err c.if-is_err-2.ensures.value)))

pub returns-then-is_err-2-clause-told : goal.returns-then-is_err-2-clause-told
returns-then-is_err-2-clause-told c =
    rw (← c.self.view_is)
    (told_write c.self.inside.connections.items _ c.self.inside.begun (Err _) c.args.buf.now
    (current-set c.self.inside.connections.items c.self.inside.begun c.in-Some.place broken c.in-Some-get_mut.connection.now c.fail-then-is_err-2.new.self
    c.in-Some.ensures.0 c.in-Some.ensures.1 (omega (arith, c.self.inside.connections.ok.0, c.in-Some-get_mut.ensures.variant.0 refl))
    c.in-Some-get_mut.ensures.value (c.fail-then-is_err-2.ensures ∙ ap broken (of_err c.take.result _ c.take.ensures.err c.if-is_err-2.ensures.value)))
    tt)

pub returns-clause-handed_in : goal.returns-clause-handed_in
returns-clause-handed_in c =
    rw (← c.self.view_is)
    (current-set c.self.inside.connections.items c.self.inside.begun c.in-Some.place (sent (take c.portion-n.result c.args.buf.now))
    c.in-Some-get_mut.connection.now c.take.new.self c.in-Some.ensures.0 c.in-Some.ensures.1
    (omega (arith, c.self.inside.connections.ok.0, c.in-Some-get_mut.ensures.variant.0 refl)) c.in-Some-get_mut.ensures.value
    (of_ok c.take.result _ c.take.ensures.ok c.if-is_err-2.ensures.value))

pub returns-clause-told : goal.returns-clause-told
returns-clause-told c =
    let within : c.in-Some.place < length c.self.inside.connections.items = omega (arith, c.self.inside.connections.ok.0, c.in-Some-get_mut.ensures.variant.0 refl) in
    rw (← c.self.view_is)
    (told_write c.self.inside.connections.items _ c.self.inside.begun (Ok c.portion-n.result) c.args.buf.now
    (current-set c.self.inside.connections.items c.self.inside.begun c.in-Some.place (sent (take c.portion-n.result c.args.buf.now))
    c.in-Some-get_mut.connection.now c.take.new.self c.in-Some.ensures.0 c.in-Some.ensures.1 within c.in-Some-get_mut.ensures.value
    (of_ok c.take.result _ c.take.ensures.ok c.if-is_err-2.ensures.value))
    (omega (arith, c.in-Some.ensures.0), omega (arith, c.in-Some.ensures.0, c.in-Some.ensures.1, within)))
