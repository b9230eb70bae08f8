use Rattle.std.proofs.Common.{Result, ap, subst, arith}
use Rattle.csv_cutter.specs.Cuttings.{quoted_cuts}
use Rattle.line_window.specs.Answers.{IsNextCut}
use Rattle.scan_plan.specs.declared.columns.Columns.{Columns}
use Rattle.select_reply.specs.declared.code.Code.{Code}
use Rattle.object_plan.specs.Stops.{IsTold}
use Rattle.object_plan.proofs.FirstLine.{size_is, first_given}
use Rattle.object_plan.proofs.Headers.{quoted_at, quoted_over, quoted_end, quoted_empty}
use Rattle.object_plan.proofs.quoted.quoted_columns.Goals as goal

pub returns-then-size-eq0-clause-columns : goal.returns-then-size-eq0-clause-columns
returns-then-size-eq0-clause-columns g c = λ object tells.
    let size = size_is _ object c.args.size c.requires.object tells in
    quoted_empty c.args.dialect.now c.args.window.now.longest object (omega (arith, size, c.if-size-eq0.true))

pub returns-in-Ok-At-clause-columns : goal.returns-in-Ok-At-clause-columns
returns-in-Ok-At-clause-columns g c = λ object tells.
    let dialect = c.args.dialect.now in
    let window = c.args.window.now in
    let v = c.seek.new.self in
    let sought = c.seek.ensures.window in
    let size = size_is _ object c.args.size c.requires.object tells in
    let cuts = quoted_cuts dialect object in
    let next =
    first_given _ dialect c.args.limits.longest c.begin-cutter.result c.next.new.cutter v c.next.follows.lender-at-none c.next.result c.in-Ok-At.field-0 _ _ object cuts
    c.begin-cutter.ensures sought.place (c.object_is_cut_by_a_function.ensures dialect c.requires.valid object) c.next.follows.holds-at-none c.in-Ok-At.is _
    (ap g.S.Store.current c.seek.ensures.store) tells (sought.holds object size) in
    subst (λ (r : Result Columns Code). IsTold r c.named_columns.result)
    (quoted_at dialect window.longest cuts next.0 c.in-Ok-At.field-0 (subst (λ n. IsNextCut n cuts next.0 c.in-Ok-At.field-0) sought.longest next.1)
    c.in-Ok-At.field-0-0 c.in-Ok-At.field-0-2 c.in-Ok-At.bytes c.in-Ok-At.field-0-is)
    c.named_columns.ensures.columns

pub returns-in-Ok-TooLong-clause-columns : goal.returns-in-Ok-TooLong-clause-columns
returns-in-Ok-TooLong-clause-columns g c = λ object tells.
    let dialect = c.args.dialect.now in
    let window = c.args.window.now in
    let v = c.seek.new.self in
    let sought = c.seek.ensures.window in
    let size = size_is _ object c.args.size c.requires.object tells in
    let cuts = quoted_cuts dialect object in
    let next =
    first_given _ dialect c.args.limits.longest c.begin-cutter.result c.next.new.cutter v c.next.follows.lender-at-none c.next.result c.in-Ok-TooLong.field-0 _ _ object cuts
    c.begin-cutter.ensures sought.place (c.object_is_cut_by_a_function.ensures dialect c.requires.valid object) c.next.follows.holds-at-none c.in-Ok-TooLong.is _
    (ap g.S.Store.current c.seek.ensures.store) tells (sought.holds object size) in
    quoted_over dialect window.longest cuts next.0 c.in-Ok-TooLong.field-0 (subst (λ n. IsNextCut n cuts next.0 c.in-Ok-TooLong.field-0) sought.longest next.1)
    c.in-Ok-TooLong.field-0-0 c.in-Ok-TooLong.field-0-is

pub returns-in-Ok-End-clause-columns : goal.returns-in-Ok-End-clause-columns
returns-in-Ok-End-clause-columns g c = λ object tells.
    let dialect = c.args.dialect.now in
    let window = c.args.window.now in
    let v = c.seek.new.self in
    let sought = c.seek.ensures.window in
    let size = size_is _ object c.args.size c.requires.object tells in
    let cuts = quoted_cuts dialect object in
    let next =
    first_given _ dialect c.args.limits.longest c.begin-cutter.result c.next.new.cutter v c.next.follows.lender-at-none c.next.result c.in-Ok-End.field-0 _ _ object cuts
    c.begin-cutter.ensures sought.place (c.object_is_cut_by_a_function.ensures dialect c.requires.valid object) c.next.follows.holds-at-none c.in-Ok-End.is _
    (ap g.S.Store.current c.seek.ensures.store) tells (sought.holds object size) in
    quoted_end dialect window.longest cuts next.0 c.in-Ok-End.field-0 (subst (λ n. IsNextCut n cuts next.0 c.in-Ok-End.field-0) sought.longest next.1)
    c.in-Ok-End.field-0-is
