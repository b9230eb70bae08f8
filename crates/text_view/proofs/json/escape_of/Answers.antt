use Rattle.text_view.proofs.Escapes.{escape_code, behind_code}
use Rattle.text_view.proofs.json.escape_of.Goals as goal

pub returns-in-Some-clause-value : goal.returns-in-Some-clause-value
returns-in-Some-clause-value c =
    let found = rw (c.in-Some.ensures.value.1, c.in-Some.ensures.value.2) at c.char_of.ensures.value in
    rw (escape_code _ c.in-Some.ensures.value.0) (behind_code _ _ _ found)
