use Rattle.sql_timestamp.proofs.Ranges.{eq_words}
use Rattle.sql_timestamp.proofs.stamp.StampPartialEq.eq.Goals as goal

pub returns : goal.returns
returns c =
    eq_words c.t1-1.inside.seconds c.t2-1.inside.seconds c.t1-1.inside.offset c.t2-1.inside.offset c.t1-1.inside.nanoseconds c.t2-1.inside.nanoseconds c.args.self.now c.args.other.now
    c.eq.result c.and_eq.result c.and_eq-2.result c.t1-1.invariant.0 c.t2-1.invariant.0 c.t1-1.view_is c.t2-1.view_is c.eq.ensures c.and_eq.ensures c.and_eq-2.ensures
