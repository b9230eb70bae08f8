use Rattle.std.proofs.Common.{◌≡◌, ◌<◌, length, Result, ap, ◌∙◌, subst, arith}
use Rattle.csv_cutter.specs.Dialects.{delimiter_bytes}
use Rattle.line_window.specs.Answers.{IsNextCut}
use Rattle.line_window.specs.Cuts.{cuts_in}
use Rattle.line_window.specs.Sliding.{left}
use Rattle.scan_plan.specs.declared.columns.Columns.{Columns}
use Rattle.select_reply.specs.declared.code.Code.{Code}
use Rattle.object_plan.specs.Stops.{IsTold}
use Rattle.object_plan.proofs.FirstLine.{size_is, given}
use Rattle.object_plan.proofs.Headers.{header_at, header_over}
use Rattle.object_plan.proofs.columns.used_columns.Goals as goal

pub returns-in-Ok-At-clause-columns : goal.returns-in-Ok-At-clause-columns
returns-in-Ok-At-clause-columns g c = λ object tells.
    let dialect = c.args.dialect.now in
    let window = c.args.window.now in
    let v = c.seek.new.self in
    let w = c.next.follows.lender-at-none in
    let sought = c.seek.ensures.window in
    let size = size_is _ object c.args.size c.requires.object tells in
    let some : 0 < length object = omega (arith, size, c.if-size-eq0.false) in
    let line = c.in-Ok-At.field-0 in
    let next =
    given _ v w c.next.result line _ _ object c.next.follows.holds-at-none c.in-Ok-At.is _ (ap g.S.Store.current c.seek.ensures.store) tells (sought.holds object size) in
    let here : left object v ≡ cuts_in (delimiter_bytes dialect.delimiter) object 0 0 = sought.cuts object ∙ ap (λ d. cuts_in d object 0 0) c.requires.delimiter in
    subst (λ (r : Result Columns Code). IsTold r c.named_columns.result)
    (header_at dialect window.longest object (left object v) (left object w) some here line
    (subst (λ n. IsNextCut n (left object v) (left object w) line) sought.longest next) c.in-Ok-At.field-0-0 c.in-Ok-At.field-0-2 c.in-Ok-At.bytes c.in-Ok-At.field-0-is)
    c.named_columns.ensures.columns

pub returns-in-Ok-TooLong-clause-columns : goal.returns-in-Ok-TooLong-clause-columns
returns-in-Ok-TooLong-clause-columns g c = λ object tells.
    let dialect = c.args.dialect.now in
    let window = c.args.window.now in
    let v = c.seek.new.self in
    let w = c.next.follows.lender-at-none in
    let sought = c.seek.ensures.window in
    let size = size_is _ object c.args.size c.requires.object tells in
    let some : 0 < length object = omega (arith, size, c.if-size-eq0.false) in
    let line = c.in-Ok-TooLong.field-0 in
    let next =
    given _ v w c.next.result line _ _ object c.next.follows.holds-at-none c.in-Ok-TooLong.is _ (ap g.S.Store.current c.seek.ensures.store) tells (sought.holds object size) in
    let here : left object v ≡ cuts_in (delimiter_bytes dialect.delimiter) object 0 0 = sought.cuts object ∙ ap (λ d. cuts_in d object 0 0) c.requires.delimiter in
    header_over dialect window.longest object (left object v) (left object w) some here line
    (subst (λ n. IsNextCut n (left object v) (left object w) line) sought.longest next) c.in-Ok-TooLong.field-0-0 c.in-Ok-TooLong.field-0-is
