use Rattle.std.proofs.Common.{arith, to_z, of_z, w64}
use Rattle.jiff_core.proofs.SignedLemmas.{signed_arith}
use Rattle.sql_timestamp.proofs.Ranges.{shown_open, offset_shown, day_shown, year_shown, time_shown}
use Rattle.sql_timestamp.proofs.stamp.Stamp.shown.Goals as goal

pub returns-clause-day : goal.returns-clause-day
returns-clause-day c =
    let shows = shown_open c.self.inside.seconds c.self.inside.offset c.self.invariant.1 in
    day_shown c.self.inside.seconds c.self.inside.offset _ c.div_euclid.result _ c.self.inside.nanoseconds c.args.self.now c.self.invariant.0 c.self.view_is
    (omega (arith, signed_arith)) c.div_euclid.ensures (omega (arith, signed_arith))

pub returns-clause-year : goal.returns-clause-year
returns-clause-year c =
    year_shown c.self.inside.seconds c.self.inside.offset _ c.self.inside.nanoseconds c.args.self.now c.self.invariant.0 c.self.invariant.1 c.self.view_is (returns-clause-day c)

pub returns-clause-time : goal.returns-clause-time
returns-clause-time c =
    let shows = shown_open c.self.inside.seconds c.self.inside.offset c.self.invariant.1 in
    time_shown c.self.inside.seconds c.self.inside.offset _ c.rem_euclid.result (to_z w64 (of_z w64 c.rem_euclid.result)) c.self.inside.nanoseconds c.args.self.now c.self.invariant.0 c.self.view_is
    (omega (arith, signed_arith)) c.rem_euclid.ensures.value (omega (arith, signed_arith))

pub overflow_add-local : goal.overflow_add-local
overflow_add-local c = let shows = shown_open c.self.inside.seconds c.self.inside.offset c.self.invariant.1 in omega (arith, signed_arith)

pub returns-clause-offset : goal.returns-clause-offset
returns-clause-offset c = offset_shown c.self.inside.seconds c.self.inside.offset c.self.inside.nanoseconds c.args.self.now c.self.invariant.1 c.self.view_is
