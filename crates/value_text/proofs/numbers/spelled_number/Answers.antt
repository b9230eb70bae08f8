use Rattle.std.proofs.Common.{ℕ, List, refl, ap, ◌∙◌}
use Rattle.std.proofs.lemmas.Iterator.Consumers.{YieldsList-from_first}
use Rattle.sql_decimal.specs.Reading.{number_of}
use Rattle.value_text.proofs.numbers.spelled_number.Goals as goal

pub returns : goal.returns
returns c =
    let rest = YieldsList-from_first (λ (x : ℕ). x) (λ (s : List ℕ). s) c.chars.result refl in
    c.read.ensures.number c.chars.result rest.runs ∙ ap number_of c.chars.ensures.value
