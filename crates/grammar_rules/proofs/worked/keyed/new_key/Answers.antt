-- The key that stands at the front.
use Rattle.std.proofs.Common.{sym, refl}
use Rattle.grammar_rules.proofs.Fronts.{first_is}
use Rattle.grammar_rules.proofs.worked.keyed.new_key.Goals as goal

pub returns-else-has_key : goal.returns-else-has_key
returns-else-has_key c = (rw (← c.has_key.ensures, c.if-has_key.false) refl, first_is c.args.signs.now _ (sym (rw c.in-Some-Key.field-0-is at c.in-Some-Key.ensures)))
