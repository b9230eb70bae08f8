use Rattle.std.proofs.Common.{◌<◌, ◌≤◌, inl, ⊎_elim, Ok, Err, length, true≢false, sym, ap, refl, arith}
use Rattle.std.proofs.lemmas.Bool.{cases_lt}
use Rattle.network_ports.specs.Scripted.{broken, received}
use Rattle.network_ports.proofs.Places.{current-past, current-set, current-is}
use Rattle.network_ports.proofs.Telling.{gave_current, told_read}
use Rattle.network_ports.proofs.connections.MemConnections.read.Goals as goal

past : (c : goal.After-self-in_default-get_mut-2-1) → length c.self.inside.connections.items ≤ c.in-Some.place
past c =
    ⊎_elim (λ within. absurd (true≢false (sym (c.in_default-get_mut.ensures.variant.1 (omega (arith, within, c.self.inside.connections.ok.0)))))) (λ h. h)
    (cases_lt c.in-Some.place (length c.self.inside.connections.items))

pub returns-in_default-get_mut-clause-handed_in : goal.returns-in_default-get_mut-clause-handed_in
returns-in_default-get_mut-clause-handed_in c =
    rw (← c.self.view_is)
    (current-past c.self.inside.connections.items c.self.inside.begun c.in-Some.place broken c.in-Some.ensures.0 c.in-Some.ensures.1 (past c))

pub returns-then-is_err-clause-handed_in : goal.returns-then-is_err-clause-handed_in
returns-then-is_err-clause-handed_in c =
    rw (← c.self.view_is)
    (current-set c.self.inside.connections.items c.self.inside.begun c.in-Some.place broken c.in-Some-get_mut.connection.now c.fail.new.self
    c.in-Some.ensures.0 c.in-Some.ensures.1 (omega (arith, c.self.inside.connections.ok.0, c.in-Some-get_mut.ensures.variant.0 refl))
    c.in-Some-get_mut.ensures.value c.fail.ensures)

pub returns-then-is_err-clause-refused : goal.returns-then-is_err-clause-refused
returns-then-is_err-clause-refused c =
    rw (← c.self.view_is) (inl (c.call-called.ensures.fails.0 (sym c.if-is_err.ensures.value)))

pub returns-then-is_err-clause-told : goal.returns-then-is_err-clause-told
returns-then-is_err-clause-told c =
    rw (← c.self.view_is)
    (told_read c.self.inside.connections.items _ c.self.inside.begun (Err _) c.args.buf.now
    (current-set c.self.inside.connections.items c.self.inside.begun c.in-Some.place broken c.in-Some-get_mut.connection.now c.fail.new.self
    c.in-Some.ensures.0 c.in-Some.ensures.1 (omega (arith, c.self.inside.connections.ok.0, c.in-Some-get_mut.ensures.variant.0 refl))
    c.in-Some-get_mut.ensures.value c.fail.ensures)
    tt)

pub returns-clause-handed_in : goal.returns-clause-handed_in
returns-clause-handed_in c =
    rw (← c.self.view_is)
    (current-set c.self.inside.connections.items c.self.inside.begun c.in-Some.place (received c.portion-n.result) c.in-Some-get_mut.connection.now
    c.give.new.self c.in-Some.ensures.0 c.in-Some.ensures.1
    (omega (arith, c.self.inside.connections.ok.0, c.in-Some-get_mut.ensures.variant.0 refl)) c.in-Some-get_mut.ensures.value c.give.ensures.after)

pub returns-clause-told : goal.returns-clause-told
returns-clause-told c =
    let within : c.in-Some.place < length c.self.inside.connections.items = omega (arith, c.self.inside.connections.ok.0, c.in-Some-get_mut.ensures.variant.0 refl) in
    let is = current-is c.self.inside.connections.items c.self.inside.begun c.in-Some.place c.in-Some-get_mut.connection.now c.in-Some.ensures.0
    c.in-Some.ensures.1 within c.in-Some-get_mut.ensures.value in
    rw (← c.self.view_is)
    (told_read c.self.inside.connections.items _ c.self.inside.begun (Ok c.portion-n.result) c.give.new.buf
    (current-set c.self.inside.connections.items c.self.inside.begun c.in-Some.place (received c.portion-n.result) c.in-Some-get_mut.connection.now
    c.give.new.self c.in-Some.ensures.0 c.in-Some.ensures.1 within c.in-Some-get_mut.ensures.value c.give.ensures.after) (
      (omega (arith, c.in-Some.ensures.0), omega (arith, c.in-Some.ensures.0, c.in-Some.ensures.1, within)),
      gave_current _ c.in-Some-get_mut.connection.now c.portion-n.result c.min.result c.give.new.buf is c.give.ensures.bytes (omega (arith, c.min.ensures, ap length c.left.ensures)) c.portion-n.ensures.some,
    ))
