use Rattle.json_text.proofs.Reading.{plain_closes}
use Rattle.json_text.proofs.tokens.past_plain.Goals as goal

pub returns-in-Inside-clause-value : goal.returns-in-Inside-clause-value
returns-in-Inside-clause-value c =
    rw c.in-Inside.is (λ end x. plain_closes c.args.bytes.now c.args.from c.plain_end.result end c.plain_end.ensures.value x)
