use Rattle.std.proofs.Common.{◌∙◌, ◌+◌, sym, arith}
use Rattle.csv_cutter.specs.declared.walk.State.TheVariants.{Inside, Tail}
use Rattle.csv_cutter.proofs.Characters.{delimits}
use Rattle.csv_cutter.proofs.Places.{closing_step, single_step}
use Rattle.csv_cutter.proofs.Striding.{strides_on, inside_run, inside_pair, inside_one, went, onward_untold}
use Rattle.csv_cutter.proofs.stride.stride_inside.Goals as goal

pub returns-then-not-is_told : goal.returns-then-not-is_told
returns-then-not-is_told c =
    let d = c.args.dialect.now in let bytes = c.args.bytes.now in let last = c.args.last in let at = c.next_either-at.result in
    went d bytes last c.args.from at Inside Inside _ c.onwards.ensures (inside_run d bytes last c.args.from at c.next_either-at.ensures)
    (onward_untold bytes last c.args.from at c.requires.told (c.is_told.ensures.untold c.if-not-is_told.true))

pub returns-then-is_pair : goal.returns-then-is_pair
returns-then-is_pair c =
    let d = c.args.dialect.now in let bytes = c.args.bytes.now in let last = c.args.last in let at = c.next_either-at.result in
    went d bytes last c.args.from (at + 2) Inside Inside _ c.onwards-then-is_pair.ensures
    (strides_on d bytes last c.args.from at (at + 2) Inside Inside Inside (inside_run d bytes last c.args.from at c.next_either-at.ensures)
    (inside_pair d (delimits d c.requires.valid) bytes last at (c.is_told.ensures.told c.if-not-is_told.false) (sym c.is_pair.ensures ∙ c.if-is_pair.true)))
    (omega (arith, c.next_either-at.ensures.low))

pub returns-then-bytes-at : goal.returns-then-bytes-at
returns-then-bytes-at c =
    let d = c.args.dialect.now in let bytes = c.args.bytes.now in let last = c.args.last in let at = c.next_either-at.result in
    went d bytes last c.args.from (at + 1) Inside Tail _ c.onwards-then-bytes-at.ensures
    (strides_on d bytes last c.args.from at (at + 1) Inside Inside Tail (inside_run d bytes last c.args.from at c.next_either-at.ensures)
    (inside_one d (delimits d c.requires.valid) bytes last at Tail (c.is_told.ensures.told c.if-not-is_told.false)
    (closing_step d bytes at (sym c.is_pair.ensures ∙ c.if-is_pair.false) c.if-bytes-at.true)))
    (omega (arith, c.next_either-at.ensures.low))

pub returns : goal.returns
returns c =
    let d = c.args.dialect.now in let bytes = c.args.bytes.now in let last = c.args.last in let at = c.next_either-at.result in
    went d bytes last c.args.from (at + 1) Inside Inside _ c.onwards-2.ensures
    (strides_on d bytes last c.args.from at (at + 1) Inside Inside Inside (inside_run d bytes last c.args.from at c.next_either-at.ensures)
    (inside_one d (delimits d c.requires.valid) bytes last at Inside (c.is_told.ensures.told c.if-not-is_told.false)
    (single_step d bytes at (sym c.is_pair.ensures ∙ c.if-is_pair.false) c.if-bytes-at.false)))
    (omega (arith, c.next_either-at.ensures.low))
