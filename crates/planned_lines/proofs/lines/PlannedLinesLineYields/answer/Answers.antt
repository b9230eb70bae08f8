use Rattle.planned_lines.proofs.Outputs.{lines_go_on, goes_on_so}
use Rattle.planned_lines.proofs.lines.PlannedLinesLineYields.answer.Goals as goal

pub returns-in-At-clause-behind : goal.returns-in-At-clause-behind
returns-in-At-clause-behind g c =
    let l = c.args.self.now in
    rw c.in-At.is
    (goes_on_so c.answer_content.result
    (lines_go_on l.format l.planned.now.columns l.planned.now.plan l.writer c.answer_content.new.writer c.answer_content.ensures.settings
    l.totals c.answer_content.new.totals c.in-At.start c.in-At.bytes.now)
    c.answer_content.ensures.behind)
