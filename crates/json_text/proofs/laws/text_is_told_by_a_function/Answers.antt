use Rattle.json_text.proofs.Functions.{told}
use Rattle.json_text.proofs.laws.text_is_told_by_a_function.Goals as goal

pub returns : goal.returns
returns c = told
