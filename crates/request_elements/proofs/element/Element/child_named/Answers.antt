-- The table is the list of all elements.
use Rattle.std.proofs.Common.{ap, ◌∙◌}
use Rattle.request_elements.specs.Elements.{first_named, child_named}
use Rattle.request_elements.proofs.element.Element.child_named.Goals as goal

pub returns : goal.returns
unfolding child_named
returns c = c.first_named.ensures ∙ ap (first_named c.args.self c.args.name.now) c.as_slice.ensures
