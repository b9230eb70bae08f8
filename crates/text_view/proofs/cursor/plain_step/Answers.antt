use Rattle.text_view.proofs.Cuts.{walks_plain}
use Rattle.text_view.proofs.cursor.plain_step.Goals as goal

pub returns-clause-walks : goal.returns-clause-walks
returns-clause-walks c = walks_plain _ _ _ c.in_ok-character.ensures.value
