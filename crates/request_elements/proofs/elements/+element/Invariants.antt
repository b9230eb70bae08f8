-- What the loop over the children has read, and that the descent ends.
use Rattle.std.proofs.Common.{◌≡◌, ◌+◌, ◌*◌, length}
use Rattle.request_elements.specs.Readers.{read_children, read_element, free_of, onto}
use Rattle.request_elements.proofs.ReaderSteps.{children_left}
use Rattle.request_elements.proofs.elements.+element.Given as goal

abbrev pub decreases-element : goal.decreases-element
decreases-element l = 3 * l.depth

abbrev pub decreases-children : goal.decreases-children
decreases-children l = 3 * l.depth + 1

abbrev pub decreases-container : goal.decreases-container
decreases-container l = 3 * l.depth + 2

abbrev pub invariant-children-children : goal.invariant-children-children
invariant-children-children l = record {
  reads : onto l.fn.found.items (read_children l.fn.parent (read_element l.fn.depth) l.fn.pieces) ≡ children_left l.fn.parent l.fn.depth l.found.items (free_of l.taken) l.pieces;
  marks : length l.taken ≡ 30;
}

abbrev pub decreases-children-children : goal.decreases-children-children
decreases-children-children l = length l.pieces
