use Rattle.text_view.proofs.Cuts.{walks_json_escape, walks_json_single}
use Rattle.text_view.proofs.cursor.json_step.Goals as goal

pub returns-then-first-eq92-clause-walks : goal.returns-then-first-eq92-clause-walks
returns-then-first-eq92-clause-walks c =
    walks_json_escape _ _ _ _ _ c.in_ok-first.ensures.value c.if-first-eq92.true c.unescaped-character.ensures.character c.unescaped-character.ensures.rest

pub returns-clause-walks : goal.returns-clause-walks
returns-clause-walks c = walks_json_single _ _ _ c.in_ok-first.ensures.value c.if-first-eq92.false
