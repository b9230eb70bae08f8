use Rattle.std.proofs.Common.{Err, ap, ◌∙◌}
use Rattle.select_job.proofs.asked.parse_boxed.Goals as goal

pub returns-in-Err : goal.returns-in-Err
returns-in-Err c = λ fault is. c.parse.ensures.refused fault (c.in-Err.is ∙ ap Err is)
