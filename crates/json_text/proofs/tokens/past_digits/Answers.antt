use Rattle.std.proofs.Common.{refl}
use Rattle.json_text.specs.Grammar.{is_digit}
use Rattle.json_text.specs.declared.machine.Digits.TheVariants.{InInt, InFrac, InExp}
use Rattle.json_text.specs.declared.machine.Mode.TheVariants.{InNumber}
use Rattle.json_text.proofs.Reading.{run_at, digit_passes}
use Rattle.json_text.proofs.tokens.past_digits.Goals as goal

pub returns-in-InInt-clause-value : goal.returns-in-InInt-clause-value
returns-in-InInt-clause-value c =
    rw c.in-InInt.is (λ nest. run_at is_digit (InNumber InInt) nest (λ d h. digit_passes InInt nest d refl refl h) c.args.bytes.now c.args.from c.digits_end.result c.digits_end.ensures.value)

pub returns-in-InFrac-clause-value : goal.returns-in-InFrac-clause-value
returns-in-InFrac-clause-value c =
    rw c.in-InFrac.is
    (λ nest. run_at is_digit (InNumber InFrac) nest (λ d h. digit_passes InFrac nest d refl refl h) c.args.bytes.now c.args.from c.digits_end-in-InFrac.result c.digits_end-in-InFrac.ensures.value)

pub returns-in-InExp-clause-value : goal.returns-in-InExp-clause-value
returns-in-InExp-clause-value c =
    rw c.in-InExp.is
    (λ nest. run_at is_digit (InNumber InExp) nest (λ d h. digit_passes InExp nest d refl refl h) c.args.bytes.now c.args.from c.digits_end-in-InExp.result c.digits_end-in-InExp.ensures.value)
