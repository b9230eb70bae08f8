use Rattle.std.proofs.Common.{arith}
use Rattle.csv_cutter.proofs.Characters.{apart}
use Rattle.csv_cutter.proofs.Places.{quoted_field, plain_field}
use Rattle.csv_cutter.proofs.walk.field_end.Goals.{else-start-line-via-then-start-line+else-line-start, else-start-line-via-else-start-line}
use Rattle.csv_cutter.proofs.walk.field_end.Goals as goal

pub returns-then-line-start : goal.returns-then-line-start
returns-then-line-start c =
    quoted_field c.args.dialect.now (apart c.args.dialect.now c.requires.valid) c.args.line.now c.args.start c.quoted_end-from.result c.next_byte.result
    c.if-start-line.true c.if-line-start.true c.quoted_end-from.ensures c.next_byte.ensures

pub returns : goal.returns
returns c =
    plain_field c.args.dialect.now c.args.line.now c.args.start c.next_byte-2.result c.requires.within
    (λ l. elim c.else-start-line.branch [
      | else-start-line-via-then-start-line+else-line-start w ↦ w.if-line-start.false
      | else-start-line-via-else-start-line w ↦ absurd (omega arith)
    ])
    c.next_byte-2.ensures
