use Rattle.std.proofs.Common.{◌≡◌}
use Rattle.reply_examples.proofs.lines.answers.Given as goal

abbrev pub invariant-loop : goal.invariant-loop
invariant-loop g l = (g.S.Store.current l.store ≡ g.S.Store.current l.fn.store) × (l.window.size ≡ l.fn.window.size)
