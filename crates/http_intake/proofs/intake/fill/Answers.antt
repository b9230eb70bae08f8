use Rattle.std.proofs.Common.{arith}
use Rattle.http_intake.proofs.Reading.{read_end}
use Rattle.http_intake.proofs.intake.fill.Goals as goal

pub returns-then-n-eq0-clause-err : goal.returns-then-n-eq0-clause-err
returns-then-n-eq0-clause-err g c = read_end _ _ c.in-Ok.n c.read.new.buf c.args.kept.now.items c.if-n-eq0.true (omega (arith, c.requires)) c.in-Ok.ensures.seen
