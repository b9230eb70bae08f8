-- None of the elements that were passed is the one.
use Rattle.std.proofs.Common.{◌≡◌, length}
use Rattle.request_elements.specs.Elements.{first_named}
use Rattle.request_elements.proofs.element.first_named.Given as goal

abbrev pub invariant-elements : goal.invariant-elements
invariant-elements l = first_named l.fn.parent l.fn.name l.fn.elements ≡ first_named l.fn.parent l.fn.name l.left

abbrev pub decreases-elements : goal.decreases-elements
decreases-elements l = length l.left
