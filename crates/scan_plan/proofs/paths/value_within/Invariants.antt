-- What the digits from here on make of the number is what all make.
use Rattle.std.specs.Prelude.{◌≡◌, drop}
use Rattle.scan_plan.specs.Digits.{value_from}
use Rattle.scan_plan.proofs.paths.value_within.Given as goal

abbrev pub invariant-digits : goal.invariant-digits
invariant-digits l = value_from l.most l.value (drop l.digit-index l.digits) ≡ value_from l.most 0 l.digits
