use Rattle.std.proofs.Common.{get_or, sym, ap, ◌∙◌, rules}
use Rattle.line_window.proofs.window.Window.open.Goals as goal

pub invariant_of-result : goal.invariant_of-result
invariant_of-result c = record {
  within = search rules;
  room = search rules;
  behind = search rules;
  front = search rules;
  bound = search rules;
  range = search rules;
  works = search rules;
  fits = search rules;
  byte = c.new.ensures.byte ∙ ap (λ l. get_or l 0 0) (sym c.delimiter_of.ensures);
  walk = c.new.ensures.stands _;
  sound = search rules;
}
