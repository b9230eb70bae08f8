use Rattle.std.proofs.Common.{◌==◌, codes, sym}
use Rattle.std.specs.List.{prefix_len}
use Rattle.http_intake.specs.Fields.{values_at}
use Rattle.http_intake.proofs.Digits.{stated_digits}
use Rattle.http_intake.proofs.body.stated.Goals as goal

pub returns-then-all_say-clause-digits : goal.returns-then-all_say-clause-digits
returns-then-all_say-clause-digits c =
    rw c.significant-digits.ensures
    (stated_digits (values_at c.args.buf.now c.args.fields.now (codes "Content-Length")) c.in-Some.first.now c.significant-digits.result.now
    (prefix_len (λ b. b == 48) c.in-Some.first.now) (sym c.in-Some.ensures) (sym c.if-all_say.ensures))
