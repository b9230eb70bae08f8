use Rattle.std.proofs.Common.{refl}
use Rattle.event_frame.proofs.HeaderLaws.{left-step, left-found, left-none, header-shorter}
use Rattle.event_frame.proofs.headers.value.Goals as goal

pub loop-other-init : goal.loop-other-init
loop-other-init c good are spelled = record { headers = good; are_headers = are; spelled = spelled; same = refl }

pub returns-then-eq : goal.returns-then-eq
returns-then-eq c good are spelled = left-found _ _ _ _ _ good (c.loop-other.invariant good are spelled) c.in-Some.ensures c.if-eq.ensures

pub loop-other-smaller : goal.loop-other-smaller
loop-other-smaller c = header-shorter _ _ _ _ c.in-Some.ensures

pub loop-other-preserved : goal.loop-other-preserved
loop-other-preserved c good are spelled = left-step _ _ _ _ _ good (c.loop-other.invariant good are spelled) c.in-Some.ensures c.if-eq.ensures

pub returns : goal.returns
returns c good are spelled = left-none _ _ good (c.loop-other.invariant good are spelled) c.in_default.ensures
