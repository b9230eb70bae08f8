use Rattle.std.proofs.lemmas.Bool.{ltb-true}
use Rattle.csv_cutter.proofs.Characters.{delimits}
use Rattle.csv_cutter.proofs.Looking.{look_is, at_ok}
use Rattle.csv_cutter.proofs.looks.look_ahead.Goals as goal

pub returns-in-Ok-clause-look : goal.returns-in-Ok-clause-look
returns-in-Ok-clause-look g c =
    look_is c.args.dialect.now (delimits c.args.dialect.now c.requires.valid) _ c.in-Ok.bytes.now _ c.args.from c.args.state c.look_at.result
    (at_ok _ _ _ _ c.in-Ok.is c.ahead.follows.holds-at-none.1) (λ e. ltb-true _ _ e) c.look_at.ensures
