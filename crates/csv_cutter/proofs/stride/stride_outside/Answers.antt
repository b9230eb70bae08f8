use Rattle.std.proofs.Common.{◌∙◌, ◌+◌, sym, arith, refl}
use Rattle.csv_cutter.specs.declared.walk.State.TheVariants.{Start, Tail}
use Rattle.csv_cutter.proofs.Characters.{delimits}
use Rattle.csv_cutter.proofs.Striding.{strides_on, tail_run, tail_field, tail_one, went, halted, onward_untold, named_pair, delimiter_here}
use Rattle.csv_cutter.proofs.stride.stride_outside.Goals as goal

pub returns-then-not-is_told : goal.returns-then-not-is_told
returns-then-not-is_told c =
    let d = c.args.dialect.now in let bytes = c.args.bytes.now in let last = c.args.last in let at = c.next_either-at.result in let p = delimits d c.requires.valid in
    went d bytes last c.args.from at Tail Tail _ c.onwards.ensures
    (tail_run d p bytes last c.args.from at (named_pair d p bytes c.args.from at d.field c.first_byte.result c.first_byte.ensures c.next_either-at.ensures))
    (onward_untold bytes last c.args.from at c.requires.told (c.is_told.ensures.untold c.if-not-is_told.true))

pub returns-then-bytes-at : goal.returns-then-bytes-at
returns-then-bytes-at c =
    let d = c.args.dialect.now in let bytes = c.args.bytes.now in let last = c.args.last in let at = c.next_either-at.result in let p = delimits d c.requires.valid in
    went d bytes last c.args.from (at + 1) Tail Start _ c.onwards-then-bytes-at.ensures
    (strides_on d bytes last c.args.from at (at + 1) Tail Tail Start
    (tail_run d p bytes last c.args.from at (named_pair d p bytes c.args.from at d.field c.first_byte.result c.first_byte.ensures c.next_either-at.ensures))
    (tail_field d p bytes last at (c.is_told.ensures.told c.if-not-is_told.false) c.if-bytes-at.true))
    (omega (arith, c.next_either-at.ensures.low))

pub returns-then-is_delimited : goal.returns-then-is_delimited
returns-then-is_delimited c =
    let d = c.args.dialect.now in let bytes = c.args.bytes.now in let last = c.args.last in let at = c.next_either-at.result in let p = delimits d c.requires.valid in
    halted d bytes last c.args.from at Tail Tail _ c.stop.ensures
    (tail_run d p bytes last c.args.from at (named_pair d p bytes c.args.from at d.field c.first_byte.result c.first_byte.ensures c.next_either-at.ensures))
    (delimiter_here d bytes at Tail refl (sym c.is_delimited.ensures ∙ c.if-is_delimited.true))

pub returns : goal.returns
returns c =
    let d = c.args.dialect.now in let bytes = c.args.bytes.now in let last = c.args.last in let at = c.next_either-at.result in let p = delimits d c.requires.valid in
    went d bytes last c.args.from (at + 1) Tail Tail _ c.onwards-2.ensures
    (strides_on d bytes last c.args.from at (at + 1) Tail Tail Tail
    (tail_run d p bytes last c.args.from at (named_pair d p bytes c.args.from at d.field c.first_byte.result c.first_byte.ensures c.next_either-at.ensures))
    (tail_one d p bytes last at (c.is_told.ensures.told c.if-not-is_told.false) c.if-bytes-at.false (sym c.is_delimited.ensures ∙ c.if-is_delimited.false)))
    (omega (arith, c.next_either-at.ensures.low))
