-- The digits that are left go on from the number so far, which leaves room for them.
use Rattle.std.proofs.Common.{◌≡◌, ◌+◌, ◌*◌, ◌^◌, ◌≤◌, length}
use Rattle.request_elements.specs.TextValue.{number_after}
use Rattle.request_elements.proofs.text.number_of.Given as goal

abbrev pub invariant-digits : goal.invariant-digits
invariant-digits l = record {
  reads : number_after l.fn.base 0 l.fn.digits ≡ number_after l.fn.base l.number l.left;
  room : (l.number + 1) * 16 ^ length l.left ≤ 4294967296;
}

abbrev pub decreases-digits : goal.decreases-digits
decreases-digits l = length l.left
