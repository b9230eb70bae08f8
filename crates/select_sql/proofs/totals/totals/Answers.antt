-- The loop over the aggregates follows the reader.
use Rattle.std.proofs.Common.{sym, true, ◌∙◌}
use Rattle.std.proofs.lemmas.Result.{err_from_is_err_and}
use Rattle.sql_tokens.specs.declared.class.Class.TheVariants as k
use Rattle.sql_grammar.specs.Marks.{of}
use Rattle.grammar_rules.specs.CountedReaders.{read_counted_past}
use Rattle.sql_grammar.specs.QueryReaders.{read_totals, read_first_total, read_later_total}
use Rattle.sql_leaves.specs.Parsing.{fault_of}
use Rattle.sql_expressions.proofs.ListSteps.{limited_begin, limited_none, limited_on, limited_stop, limited_fail}
use Rattle.select_sql.proofs.QuerySteps.{total_less, first_of_many, first_of_none}
use Rattle.select_sql.proofs.totals.totals.Goals as goal

pub returns-in_err-first : goal.returns-in_err-first
unfolding read_totals
returns-in_err-first c =
    let p = err_from_is_err_and c.from_residual.result c.from_residual.ensures.1 in
    let n = c.args.primaries.now in
    let ts = c.args.tokens.now.symbols in
    let left = c.first_total.new.tokens.symbols in
    rw (p.1, p.2) (λ m. limited_none (of k.Comma) read_first_total (read_counted_past (of k.Comma) read_later_total) 256 n ts (fault_of c.in_err-first.field-0.0) left (first_of_none n ts (fault_of c.in_err-first.field-0.0) left (c.in_err-first.ensures m)))

pub members-init : goal.members-init
unfolding read_totals
members-init c =
    let n = c.args.primaries.now in
    let ts = c.args.tokens.now.symbols in
    let m = c.first_total.new.primaries in
    let left = c.first_total.new.tokens.symbols in
    rw (c.in_ok-push.ensures.ok, c.new-all.ensures) (limited_begin (of k.Comma) read_first_total (read_counted_past (of k.Comma) read_later_total) 256 n ts c.in_ok-first.first 255 m left (first_of_many n ts c.in_ok-first.first m left c.in_ok-first.ensures))

pub returns-in_err-next : goal.returns-in_err-next
returns-in_err-next c =
    let p = err_from_is_err_and c.from_residual-in_err-next.result c.from_residual-in_err-next.ensures.1 in
    rw (p.1, p.2) (λ m. c.members.invariant ∙ limited_fail (of k.Comma) (read_counted_past (of k.Comma) read_later_total) total_less c.members.all c.members.left c.members.primaries c.members.tokens.symbols (fault_of c.in_err-next.field-0.0) c.next_total.new.tokens.symbols (sym c.sees.ensures ∙ c.members-test.true) (c.in_err-next.ensures m))

pub members-smaller : goal.members-smaller
members-smaller c = total_less (c.members.left, c.members.primaries) c.members.tokens.symbols (c.in_ok-next.next, (c.next_total.new.left, c.next_total.new.primaries)) c.next_total.new.tokens.symbols c.in_ok-next.ensures

pub members-preserved : goal.members-preserved
members-preserved c =
    rw c.in_ok-push-2.ensures.ok
    (c.members.invariant ∙ limited_on (of k.Comma) (read_counted_past (of k.Comma) read_later_total) total_less c.members.all c.members.left c.members.primaries c.members.tokens.symbols c.in_ok-next.next c.next_total.new.left c.next_total.new.primaries c.next_total.new.tokens.symbols (sym c.sees.ensures ∙ c.members-test.true) c.in_ok-next.ensures)

pub returns : goal.returns
returns c = c.members.invariant ∙ limited_stop (of k.Comma) (read_counted_past (of k.Comma) read_later_total) total_less c.members.all c.members.left c.members.primaries c.members.tokens.symbols (sym c.sees.ensures ∙ c.members-test.false)
