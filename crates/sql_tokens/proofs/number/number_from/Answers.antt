-- The digits are read with their zero.
use Rattle.std.proofs.Common.{ℕ, List, ◌∷◌, ◌∙◌, ap}
use Rattle.std.proofs.lemmas.Iterator.Consumers.{YieldsList-from_first}
use Rattle.sql_tokens.proofs.number.number_from.Goals as goal

pub returns : goal.returns
returns c =
    let shown = c.text_of_digits.ensures ∙ ap (λ (l : List ℕ). 48 ∷ l) c.as_bytes.ensures.value in
    c.read.ensures.number (48 ∷ c.args.digits.now) (YieldsList-from_first (λ (x : ℕ). x) (λ (s : List ℕ). s) {s = c.text_of_digits.result} (48 ∷ c.args.digits.now) shown).runs
