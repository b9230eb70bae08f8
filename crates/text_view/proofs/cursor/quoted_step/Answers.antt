use Rattle.std.proofs.Common.{◌∙◌, sym}
use Rattle.text_view.proofs.Cuts.{walks_escaped, closing_step, walks_single}
use Rattle.text_view.proofs.cursor.quoted_step.Goals as goal

pub returns-then-is_escape-clause-walks : goal.returns-then-is_escape-clause-walks
returns-then-is_escape-clause-walks c =
    walks_escaped _ _ _ _ _ _ _ c.in_ok-first.ensures.value c.in_ok-second.ensures.value (sym c.is_escape.ensures ∙ c.if-is_escape.true)

pub returns-then-first-from-clause-walks : goal.returns-then-first-from-clause-walks
returns-then-first-from-clause-walks c =
    closing_step _ _ _ _ _ c.plain_step.result c.in_ok-first.ensures.value (sym c.is_escape.ensures ∙ c.if-is_escape.false) (c.if-first-from.true ∙ c.from.ensures) c.plain_step.ensures.walks

pub returns-clause-walks : goal.returns-clause-walks
returns-clause-walks c =
    walks_single _ _ _ _ _ c.in_ok-first.ensures.value (sym c.is_escape.ensures ∙ c.if-is_escape.false) (λ e. c.if-first-from.false (e ∙ sym c.from.ensures))
