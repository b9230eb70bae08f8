use Rattle.std.proofs.Common.{◌∙◌, ◌+◌, sym, arith}
use Rattle.csv_cutter.specs.declared.walk.State.TheVariants.{Inside, Tail}
use Rattle.csv_cutter.proofs.Places.{comes_on, clear_comes, pair_comes, closing_comes, single_comes, ended_comes}
use Rattle.csv_cutter.proofs.walk.quoted_end.Goals as goal

pub returns-then-at-line : goal.returns-then-at-line
returns-then-at-line c =
    let d = c.args.dialect.now in let line = c.args.line.now in let at = c.next_either-at.result in
    ended_comes d line c.args.from at c.if-at-line.true
    (comes_on d line Inside Inside Inside c.args.from c.loop-i.i at c.loop-i.invariant (clear_comes d line c.loop-i.i at c.next_either-at.ensures))

pub loop-i-preserved-then-is_pair : goal.loop-i-preserved-then-is_pair
loop-i-preserved-then-is_pair c =
    let d = c.args.dialect.now in let line = c.args.line.now in let at = c.next_either-at.result in
    comes_on d line Inside Inside Inside c.args.from at (at + 2)
    (comes_on d line Inside Inside Inside c.args.from c.loop-i.i at c.loop-i.invariant (clear_comes d line c.loop-i.i at c.next_either-at.ensures))
    (pair_comes d line at (omega arith) (sym c.is_pair.ensures ∙ c.if-is_pair.true))

pub returns-then-line-at : goal.returns-then-line-at
returns-then-line-at c =
    let d = c.args.dialect.now in let line = c.args.line.now in let at = c.next_either-at.result in
    comes_on d line Inside Inside Tail c.args.from at (at + 1)
    (comes_on d line Inside Inside Inside c.args.from c.loop-i.i at c.loop-i.invariant (clear_comes d line c.loop-i.i at c.next_either-at.ensures))
    (closing_comes d line at (omega arith) (sym c.is_pair.ensures ∙ c.if-is_pair.false) c.if-line-at.true)

pub loop-i-preserved : goal.loop-i-preserved
loop-i-preserved c =
    let d = c.args.dialect.now in let line = c.args.line.now in let at = c.next_either-at.result in
    comes_on d line Inside Inside Inside c.args.from at (at + 1)
    (comes_on d line Inside Inside Inside c.args.from c.loop-i.i at c.loop-i.invariant (clear_comes d line c.loop-i.i at c.next_either-at.ensures))
    (single_comes d line at (omega arith) (sym c.is_pair.ensures ∙ c.if-is_pair.false) c.if-line-at.false)

pub returns : goal.returns
returns c = ended_comes c.args.dialect.now c.args.line.now c.args.from c.loop-i.i (omega arith) c.loop-i.invariant
