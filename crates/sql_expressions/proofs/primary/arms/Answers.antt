-- The loop over the members follows the reader.
use Rattle.std.proofs.Common.{sym, ◌∙◌}
use Rattle.std.proofs.lemmas.Result.{err_from_is_err_and}
use Rattle.sql_tokens.specs.declared.class.Class.TheVariants as k
use Rattle.sql_grammar.specs.Marks.{of}
use Rattle.sql_grammar.specs.Expressions.{room_of}
use Rattle.sql_grammar.specs.Readers.{read_arm, read_arms}
use Rattle.sql_leaves.specs.Parsing.{read_inside}
use Rattle.sql_expressions.proofs.MemberSteps.{arm_less}
use Rattle.sql_leaves.specs.Parsing.{fault_of}
use Rattle.sql_expressions.proofs.ListSteps.{listed_begin, listed_none, listed_on, listed_stop, listed_fail}
use Rattle.sql_expressions.proofs.primary.arms.Goals as goal

pub returns-in_err-first : goal.returns-in_err-first
unfolding read_arms
returns-in_err-first g c =
    let p = err_from_is_err_and c.from_residual.result c.from_residual.ensures.1 in
    rw (p.1, p.2) (λ m. listed_none (of k.When) (read_arm (room_of c.args.nest.now.depth) (read_inside c.args.nest.now.depth)) (read_arm (room_of c.args.nest.now.depth) (read_inside c.args.nest.now.depth)) c.args.primaries.now c.args.tokens.now.symbols (fault_of c.in_err-first.field-0.0) c.arm.new.tokens.symbols (c.in_err-first.ensures m))

pub arms-init : goal.arms-init
unfolding read_arms
arms-init g c =
    rw (c.in_ok-push.ensures.ok, c.new-all.ensures) (listed_begin (of k.When) (read_arm (room_of c.args.nest.now.depth) (read_inside c.args.nest.now.depth)) (read_arm (room_of c.args.nest.now.depth) (read_inside c.args.nest.now.depth)) c.args.primaries.now c.args.tokens.now.symbols c.in_ok-first.first c.arm.new.primaries c.arm.new.tokens.symbols c.in_ok-first.ensures)

pub returns-in_err-next : goal.returns-in_err-next
returns-in_err-next g c =
    let p = err_from_is_err_and c.from_residual-in_err-next.result c.from_residual-in_err-next.ensures.1 in
    rw (p.1, p.2) (λ m. c.arms.invariant ∙ listed_fail (of k.When) (read_arm (room_of c.args.nest.now.depth) (read_inside c.args.nest.now.depth)) (arm_less c.args.nest.now.depth) c.arms.all c.arms.primaries c.arms.tokens.symbols (fault_of c.in_err-next.field-0.0) c.arm-in-arms.new.tokens.symbols (sym c.sees.ensures ∙ c.arms-test.true) (c.in_err-next.ensures m))

pub arms-smaller : goal.arms-smaller
arms-smaller g c = (arm_less c.args.nest.now.depth) c.arms.primaries c.arms.tokens.symbols (c.in_ok-next.next, c.arm-in-arms.new.primaries) c.arm-in-arms.new.tokens.symbols c.in_ok-next.ensures

pub arms-preserved : goal.arms-preserved
arms-preserved g c =
    rw (c.in_ok-push-2.ensures.ok)
    (c.arms.invariant ∙ listed_on (of k.When) (read_arm (room_of c.args.nest.now.depth) (read_inside c.args.nest.now.depth)) (arm_less c.args.nest.now.depth) c.arms.all c.arms.primaries c.arms.tokens.symbols c.in_ok-next.next c.arm-in-arms.new.primaries c.arm-in-arms.new.tokens.symbols (sym c.sees.ensures ∙ c.arms-test.true) c.in_ok-next.ensures)

pub returns : goal.returns
returns g c = c.arms.invariant ∙ listed_stop (of k.When) (read_arm (room_of c.args.nest.now.depth) (read_inside c.args.nest.now.depth)) (arm_less c.args.nest.now.depth) c.arms.all c.arms.primaries c.arms.tokens.symbols (sym c.sees.ensures ∙ c.arms-test.false)
