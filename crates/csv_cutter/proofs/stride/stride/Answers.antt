use Rattle.std.proofs.Common.{◌+◌, sym, subst, arith}
use Rattle.csv_cutter.specs.Stops.{IsStride}
use Rattle.csv_cutter.specs.declared.walk.State.{State}
use Rattle.csv_cutter.specs.declared.walk.State.TheVariants.{Start, Inside, Paired}
use Rattle.csv_cutter.proofs.Characters.{apart, delimits}
use Rattle.csv_cutter.proofs.Striding.{went, start_quoted, start_stride, paired_one}
use Rattle.csv_cutter.proofs.stride.stride.Goals as goal

pub returns-then-bytes-from : goal.returns-then-bytes-from
returns-then-bytes-from c =
    let d = c.args.dialect.now in let bytes = c.args.bytes.now in
    let P : State → Type 0 = λ s. IsStride d bytes c.args.last c.args.from s c.onwards.result in
    subst P (sym c.in-Start.is)
    (went d bytes c.args.last c.args.from (c.args.from + 1) Start Inside _ c.onwards.ensures
    (start_quoted d (apart d c.requires.valid) (delimits d c.requires.valid) bytes c.args.last c.args.from c.requires.told c.if-bytes-from.true) (omega arith))

pub returns-else-bytes-from : goal.returns-else-bytes-from
returns-else-bytes-from c =
    let d = c.args.dialect.now in let bytes = c.args.bytes.now in
    let P : State → Type 0 = λ s. IsStride d bytes c.args.last c.args.from s c.stride_outside.result in
    subst P (sym c.in-Start.is) (start_stride d bytes c.args.last c.args.from c.stride_outside.result c.requires.told.here c.if-bytes-from.false c.stride_outside.ensures)

pub returns-in-Paired : goal.returns-in-Paired
returns-in-Paired c =
    let d = c.args.dialect.now in let bytes = c.args.bytes.now in
    let P : State → Type 0 = λ s. IsStride d bytes c.args.last c.args.from s c.onwards-in-Paired.result in
    subst P (sym c.in-Paired.is)
    (went d bytes c.args.last c.args.from (c.args.from + 1) Paired Inside _ c.onwards-in-Paired.ensures (paired_one d (delimits d c.requires.valid) bytes c.args.last c.args.from c.requires.told) (omega arith))
