use Rattle.std.proofs.Common.{subst, refl, arith}
use Rattle.select_ports.specs.Stored.{Opened}
use Rattle.csv_cutter.specs.declared.looks.Ahead.{Ahead}
use Rattle.csv_cutter.specs.Looks.{Ends, Stays}
use Rattle.csv_cutter.proofs.Moving.{stays_none, opening_ends, ended_object}
use Rattle.csv_cutter.proofs.looks.end_record.Goals as goal

pub looks-init : goal.looks-init
looks-init g c = record {
  stays = stays_none _ c.args.window.now _ c.requires.sound;
  works = c.requires.works;
  ending = opening_ends _ c.args.dialect.now c.args.window.now c.args.opening c.requires.opening;
  few = omega (arith, c.requires.opening.few);
  faults = omega arith;
  held = refl;
  current = refl;
  absent = refl;
}

pub returns-in-ObjectEnd-clause-found : goal.returns-in-ObjectEnd-clause-found
returns-in-ObjectEnd-clause-found g c =
    let at = c.looks.invariant in
    let d = c.args.dialect.now in
    let w = c.look_ahead.new.window in
    let look = c.in_ok-look.look in
    let taken = g.S.Store.taken c.looks.store in
    let S : Opened → Type 0 = λ o. Stays o c.looks.window w taken (g.S.Store.taken c.look_ahead.new.store) in
    let E : Ahead → Type 0 = Ends d w c.looks.at look.state look.at in
    ended_object _ d c.args.window.now c.looks.window w c.looks.at c.looks.state look _ _ _ at.stays (subst S at.current c.look_ahead.ensures.window) at.ending c.in_ok-look.ensures.look
    (omega (arith, c.if-at-longest.false, c.requires.limit, at.stays.moves.rules.longest, c.look_ahead.ensures.window.moves.rules.longest))
    (let ends = subst E c.in-ObjectEnd.is c.in_ok-look.ensures.look.ends in ends)
