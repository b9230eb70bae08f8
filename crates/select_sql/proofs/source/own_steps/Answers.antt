-- The steps behind one.
use Rattle.std.proofs.Common.{refl}
use Rattle.select_sql.proofs.SelectSteps.{onto_one}
use Rattle.select_sql.proofs.source.own_steps.Goals as goal

pub returns : goal.returns
returns c = λ n. rw (onto_one c.push.new.self c.args.first 63 n c.args.tokens.now.symbols (rw (c.in_ok-push.ensures.ok, c.new-all.ensures) refl)) (c.more_steps.ensures n)
