use Rattle.std.proofs.Common.{◌≤◌, inl, ⊎_elim, Err, length, false, true≢false, sym, ap, refl, ◌∙◌, arith}
use Rattle.std.proofs.lemmas.Bool.{cases_lt}
use Rattle.network_ports.specs.Scripted.{anew}
use Rattle.network_ports.proofs.Places.{changed-past, set-changed}
use Rattle.network_ports.proofs.Telling.{told_begin, on_err}
use Rattle.network_ports.proofs.connections.MemConnections.begin.Goals as goal

past : (c : goal.After-self-in_default-2-1) → length c.self.inside.connections.items ≤ c.self.inside.begun
past c =
    ⊎_elim (λ within. absurd (true≢false (sym (c.in_default.ensures.variant.1 (omega (arith, within, c.self.inside.connections.ok.0)))))) (λ h. h)
    (cases_lt c.self.inside.begun (length c.self.inside.connections.items))

pub returns-in_default-clause-handed_in : goal.returns-in_default-clause-handed_in
returns-in_default-clause-handed_in c = rw (← c.self.view_is) (sym (changed-past c.self.inside.connections.items c.self.inside.begun (anew false) (past c)))

pub returns-in_default-clause-told : goal.returns-in_default-clause-told
returns-in_default-clause-told c =
    rw (← c.self.view_is)
    (told_begin c.self.inside.connections.items c.self.inside.connections.items c.self.inside.begun c.saturating_add-self-inside.result (Err _)
    (sym (changed-past c.self.inside.connections.items c.self.inside.begun (anew false) (past c))) c.saturating_add-self-inside.ensures
    (omega (arith, c.self.invariant)) (omega (arith, c.self.inside.connections.ok.0, c.self.inside.connections.ok.1, c.self.inside.connections.small))
    (λ went. absurd (true≢false (sym went))))

pub returns-clause-handed_in : goal.returns-clause-handed_in
returns-clause-handed_in c =
    rw (← c.self.view_is)
    (set-changed c.self.inside.connections.items c.self.inside.begun _ c.in-Some.connection.now c.begin.new.self
    (omega (arith, c.self.inside.connections.ok.0, c.in-Some.ensures.variant.0 refl)) c.in-Some.ensures.value
    (c.begin.ensures ∙ ap (λ went. anew went c.in-Some.connection.now) c.is_ok.ensures.value))

pub returns-clause-refused : goal.returns-clause-refused
returns-clause-refused c = rw (← c.self.view_is) (on_err c.call-called.result _ (λ fails. inl (c.call-called.ensures.fails.0 fails)))

pub returns-clause-told : goal.returns-clause-told
returns-clause-told c =
    rw (← c.self.view_is)
    (told_begin c.self.inside.connections.items _ c.self.inside.begun c.saturating_add-self-inside.result c.call-called.result
    (set-changed c.self.inside.connections.items c.self.inside.begun _ c.in-Some.connection.now c.begin.new.self
    (omega (arith, c.self.inside.connections.ok.0, c.in-Some.ensures.variant.0 refl)) c.in-Some.ensures.value
    (c.begin.ensures ∙ ap (λ went. anew went c.in-Some.connection.now) c.is_ok.ensures.value))
    c.saturating_add-self-inside.ensures
    (omega (arith, c.self.invariant)) (omega (arith, c.self.inside.connections.ok.0, c.self.inside.connections.ok.1, c.self.inside.connections.small))
    (λ went. omega (arith, c.self.inside.connections.ok.0, c.in-Some.ensures.variant.0 refl)))
