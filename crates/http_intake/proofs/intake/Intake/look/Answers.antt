use Rattle.std.proofs.Common.{arith}
use Rattle.http_intake.proofs.Reading.{lent_is}
use Rattle.http_intake.proofs.intake.Intake.look.Goals as goal

pub returns-clause-front : goal.returns-clause-front
returns-clause-front c =
    rw (lent_is c.args.self.now.spans.len c.find_head.new.spans c.args.self.now.spans.items (omega (arith, c.find_head.auto.spans, c.as_mut_slice.ensures.len)), ← c.as_slice.ensures.value)
    c.find_head.ensures
