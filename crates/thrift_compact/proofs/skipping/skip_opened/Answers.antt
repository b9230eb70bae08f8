use Rattle.std.proofs.Common.{◌≤◌, ◌<◌, length, arith}
use Rattle.thrift_compact.proofs.RunLemmas.{ends_here, faults_here, steps_here}
use Rattle.thrift_compact.proofs.skipping.skip_opened.Goals as goal

pub loop-stack-preserved : goal.loop-stack-preserved
loop-stack-preserved c =
    let some : 0 < length c.loop-stack.stack = omega arith in
    record {
      forward = omega arith;
      within = omega (arith, c.in-Ok.ensures.bound);
      room = c.in-Ok.ensures.room;
      answers = λ answer r. c.loop-stack.invariant.answers answer (steps_here _ _ _ c.loop-stack.place c.step.new.stack c.in-Ok.taken some (rw (← c.rest_of.ensures.value) c.in-Ok.ensures.ok) answer r);
    }

pub returns-in-Err-clause-exact : goal.returns-in-Err-clause-exact
returns-in-Err-clause-exact c =
    let some : 0 < length c.loop-stack.stack = omega arith in
    rw c.placed.ensures (c.loop-stack.invariant.answers _ (faults_here _ _ _ c.loop-stack.place c.in-Err.fault some (rw (← c.rest_of.ensures.value) c.in-Err.ensures.err)))

pub returns-clause-exact : goal.returns-clause-exact
returns-clause-exact c =
    let none : length c.loop-stack.stack ≤ 0 = omega arith in
    c.loop-stack.invariant.answers _ (ends_here _ _ _ c.loop-stack.place none)
