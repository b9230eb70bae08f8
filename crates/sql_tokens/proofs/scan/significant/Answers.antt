-- All digits before the point are zeros, or one isn't.
use Rattle.std.proofs.Common.{◌∙◌, sym}
use Rattle.sql_tokens.proofs.NumberLaws.{zeros_alone, zeros_before}
use Rattle.sql_tokens.proofs.scan.significant.Goals as goal

pub returns-then-before-whole : goal.returns-then-before-whole
returns-then-before-whole c =
    rw c.zeros.ensures.value (zeros_alone c.args.whole.now c.args.fraction.now (sym c.zeros-before.ensures.value ∙ c.if-before-whole.true))

pub returns-else-before-whole : goal.returns-else-before-whole
returns-else-before-whole c =
    rw c.zeros-before.ensures.value
    (zeros_before c.args.whole.now c.args.fraction.now (λ e. c.if-before-whole.false (c.zeros-before.ensures.value ∙ e)) (let P = c.zeros-before.ensures.within in rw (sym c.zeros-before.ensures.value) P))
