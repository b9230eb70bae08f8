use Rattle.std.proofs.Common.{Ok, refl, ap, ◌∙◌}
use Rattle.line_window.proofs.TurnLaws.{turn_line}
use Rattle.line_window.proofs.window.Window.next.Goals as goal

pub returns-in-Some : goal.returns-in-Some
returns-in-Some g c = (
  (
    refl,
    λ _. tt,
    turn_line _ c.args.self.now c.find_line.new.self c.lend.follows.lender-at-none c.in-Some.body c.find_line.result c.lend.result _ _
        c.find_line.ensures.window (c.in_ok-find_line.was ∙ ap Ok c.in-Some.is) c.lend.follows.holds-at-none c.lend.ensures.some c.lend.ensures.line,
  ),
  record {
    after = tt;
    within = rw (← c.find_line.ensures.window.rules.longest) c.lend.ensures.within;
    cause = tt;
    faults = c.find_line.ensures.faults;
    held = c.find_line.ensures.held;
    current = c.find_line.ensures.current;
    absent = c.find_line.ensures.absent;
  },
)
