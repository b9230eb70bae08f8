-- Some values of the object stand in the record, and the walk has the members of the others ahead.
use Rattle.std.specs.Prelude.{◌≡◌, true}
use Rattle.json_text.specs.Grammar.{Json}
use Rattle.json_text.specs.Nodes.{Spells}
use Rattle.json_text.specs.Walks.{bytes_left}
use Rattle.record_output.specs.Writing.{is_within, HasSettings}
use Rattle.record_output.proofs.Whole.{Passed}
use Rattle.record_output.proofs.out.Out.add_values.Given as goal

abbrev pub invariant-members : goal.invariant-members
invariant-members l = record {
  settings : HasSettings l.fn.self l.self;
  within : is_within l.self ≡ true;
  goes : (tree : Json) → Spells l.node tree → Passed l.self l.walk tree;
}

abbrev pub decreases-members : goal.decreases-members
decreases-members l = bytes_left l.walk
