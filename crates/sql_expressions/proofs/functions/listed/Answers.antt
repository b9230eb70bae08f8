-- The loop over the members follows the reader.
use Rattle.std.proofs.Common.{sym, ◌∙◌}
use Rattle.std.proofs.lemmas.Result.{err_from_is_err_and}
use Rattle.sql_tokens.specs.declared.class.Class.TheVariants as k
use Rattle.sql_grammar.specs.Marks.{of}
use Rattle.grammar_rules.specs.CountedReaders.{read_counted_past}
use Rattle.sql_leaves.specs.Parsing.{read_inside}
use Rattle.sql_expressions.proofs.MemberSteps.{member_less}
use Rattle.sql_leaves.specs.Parsing.{fault_of}
use Rattle.sql_expressions.proofs.ListSteps.{listed_begin, listed_none, listed_on, listed_stop, listed_fail}
use Rattle.sql_expressions.proofs.functions.listed.Goals as goal

pub returns-in_err-first : goal.returns-in_err-first
returns-in_err-first g c =
    let p = err_from_is_err_and c.from_residual.result c.from_residual.ensures.1 in
    rw (p.1, p.2) (λ m. listed_none (of k.Comma) (read_inside c.args.nest.now.depth) (read_counted_past (of k.Comma) (read_inside c.args.nest.now.depth)) c.args.primaries.now c.args.tokens.now.symbols (fault_of c.in_err-first.field-0.0) c.inside.new.tokens.symbols (c.in_err-first.ensures m))

pub members-init : goal.members-init
members-init g c =
    rw (c.in_ok-push.ensures.ok, c.into_inner.ensures, c.new-all.ensures) (listed_begin (of k.Comma) (read_inside c.args.nest.now.depth) (read_counted_past (of k.Comma) (read_inside c.args.nest.now.depth)) c.args.primaries.now c.args.tokens.now.symbols c.in_ok-first.first c.inside.new.primaries c.inside.new.tokens.symbols c.in_ok-first.ensures)

pub returns-in_err-member : goal.returns-in_err-member
returns-in_err-member g c =
    let p = err_from_is_err_and c.from_residual-in_err-member.result c.from_residual-in_err-member.ensures.1 in
    rw (p.1, p.2) (λ m. c.members.invariant ∙ listed_fail (of k.Comma) (read_counted_past (of k.Comma) (read_inside c.args.nest.now.depth)) (member_less c.args.nest.now.depth) c.members.all c.members.primaries c.members.tokens.symbols (fault_of c.in_err-member.field-0.0) c.behind.new.tokens.symbols (sym c.sees.ensures ∙ c.members-test.true) (c.in_err-member.ensures m))

pub members-smaller : goal.members-smaller
members-smaller g c = (member_less c.args.nest.now.depth) c.members.primaries c.members.tokens.symbols (c.in_ok-member.member, c.behind.new.primaries) c.behind.new.tokens.symbols c.in_ok-member.ensures

pub members-preserved : goal.members-preserved
members-preserved g c =
    rw (c.in_ok-push-2.ensures.ok, c.into_inner-in-members.ensures)
    (c.members.invariant ∙ listed_on (of k.Comma) (read_counted_past (of k.Comma) (read_inside c.args.nest.now.depth)) (member_less c.args.nest.now.depth) c.members.all c.members.primaries c.members.tokens.symbols c.in_ok-member.member c.behind.new.primaries c.behind.new.tokens.symbols (sym c.sees.ensures ∙ c.members-test.true) c.in_ok-member.ensures)

pub returns : goal.returns
returns g c = c.members.invariant ∙ listed_stop (of k.Comma) (read_counted_past (of k.Comma) (read_inside c.args.nest.now.depth)) (member_less c.args.nest.now.depth) c.members.all c.members.primaries c.members.tokens.symbols (sym c.sees.ensures ∙ c.members-test.false)
