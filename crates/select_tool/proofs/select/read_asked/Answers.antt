use Rattle.std.proofs.Common.{sym, subst}
use Rattle.select_tool.specs.Input.{IsReadFrom}
use Rattle.select_tool.proofs.BodyLaws.{asked_whole}
use Rattle.select_tool.proofs.select.read_asked.Goals as goal

pub returns-clause-asked : goal.returns-clause-asked
returns-clause-asked g c =
    let left = g.I.Source.left c.args.input.now in
    asked_whole left c.deref.result.now c.asked_by.result (subst (IsReadFrom left) (sym c.deref.ensures.value) c.in_ok-body.ensures.body) c.asked_by.ensures.asked
