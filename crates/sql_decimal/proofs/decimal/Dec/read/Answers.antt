use Rattle.std.proofs.Common.{arith}
use Rattle.sql_decimal.proofs.GrammarBack.{spells_as_answered}
use Rattle.sql_decimal.proofs.ReadingOn.{ReadsOn-taken, ReadsOn-refused, ReadsOn-end}
use Rattle.sql_decimal.proofs.decimal.Dec.read.Goals as goal

pub returns-then-not-step : goal.returns-then-not-step
returns-then-not-step g c =
    let number = ReadsOn-refused g.I.Iterator.next_gives c.args.chars c.loop-c.c-iterator c.next.new.self c.in-Some.c c.loop-c.reader c.step.new.self
    c.loop-c.invariant.4 c.in-Some.ensures.steps c.if-not-step.ensures.takes in
    record { number = number; grammar = λ cs always. spells_as_answered _ cs (number cs always) }

pub loop-c-preserved : goal.loop-c-preserved
loop-c-preserved g c =
    let nearer = c.in-Some.ensures.goes.on c.loop-c.invariant.1 in (
      nearer.0,
      nearer.1,
      c.if-not-step.ensures.digits,
      omega (arith, nearer.2, c.if-not-step.ensures.places),
      ReadsOn-taken g.I.Iterator.next_gives c.args.chars c.loop-c.c-iterator c.next.new.self c.in-Some.c c.loop-c.reader c.step.new.self
          c.loop-c.invariant.4 c.in-Some.ensures.steps c.if-not-step.ensures.takes,
    )

pub returns : goal.returns
returns g c =
    let number = ReadsOn-end g.I.Iterator.next_gives c.args.chars c.loop-c.c-iterator c.next.new.self c.loop-c.reader c.finish.result
    c.loop-c.invariant.4 c.in-None.ensures.steps c.finish.ensures in
    record { number = number; grammar = λ cs always. spells_as_answered _ cs (number cs always) }
