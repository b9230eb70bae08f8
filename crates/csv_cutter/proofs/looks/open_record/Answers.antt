use Rattle.csv_cutter.proofs.Looking.{opens_is, at_ok}
use Rattle.std.proofs.Common.{◌∙◌, sym}
use Rattle.csv_cutter.proofs.looks.open_record.Goals as goal

pub returns-in-Ok-clause-opens : goal.returns-in-Ok-clause-opens
returns-in-Ok-clause-opens g c =
    opens_is c.args.dialect.now _ c.in-Ok.bytes.now c.place-place.result c.opening_of.result c.ahead.follows.holds-at-none.0.sound
    (at_ok _ _ _ _ c.in-Ok.is c.ahead.follows.holds-at-none.1) (c.place-place.ensures.value ∙ sym c.ahead.follows.holds-at-none.0.place) c.opening_of.ensures
