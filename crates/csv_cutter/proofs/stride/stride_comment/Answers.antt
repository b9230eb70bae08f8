use Rattle.std.proofs.Common.{◌∙◌, ◌+◌, sym, arith, refl}
use Rattle.csv_cutter.specs.declared.walk.State.TheVariants.{Comment}
use Rattle.csv_cutter.proofs.Characters.{delimits}
use Rattle.csv_cutter.proofs.Striding.{strides_on, comment_run, comment_one, went, halted, onward_untold, named_one, delimiter_here}
use Rattle.csv_cutter.proofs.stride.stride_comment.Goals as goal

pub returns-then-not-is_told : goal.returns-then-not-is_told
returns-then-not-is_told c =
    let d = c.args.dialect.now in let bytes = c.args.bytes.now in let last = c.args.last in let at = c.next_byte-at.result in let p = delimits d c.requires.valid in
    went d bytes last c.args.from at Comment Comment _ c.onwards.ensures
    (comment_run d p bytes last c.args.from at (named_one d p bytes c.args.from at c.first_byte.result c.first_byte.ensures c.next_byte-at.ensures))
    (onward_untold bytes last c.args.from at c.requires.told (c.is_told.ensures.untold c.if-not-is_told.true))

pub returns-then-is_delimited : goal.returns-then-is_delimited
returns-then-is_delimited c =
    let d = c.args.dialect.now in let bytes = c.args.bytes.now in let last = c.args.last in let at = c.next_byte-at.result in let p = delimits d c.requires.valid in
    halted d bytes last c.args.from at Comment Comment _ c.stop.ensures
    (comment_run d p bytes last c.args.from at (named_one d p bytes c.args.from at c.first_byte.result c.first_byte.ensures c.next_byte-at.ensures))
    (delimiter_here d bytes at Comment refl (sym c.is_delimited.ensures ∙ c.if-is_delimited.true))

pub returns : goal.returns
returns c =
    let d = c.args.dialect.now in let bytes = c.args.bytes.now in let last = c.args.last in let at = c.next_byte-at.result in let p = delimits d c.requires.valid in
    went d bytes last c.args.from (at + 1) Comment Comment _ c.onwards-2.ensures
    (strides_on d bytes last c.args.from at (at + 1) Comment Comment Comment
    (comment_run d p bytes last c.args.from at (named_one d p bytes c.args.from at c.first_byte.result c.first_byte.ensures c.next_byte-at.ensures))
    (comment_one d p bytes last at (c.is_told.ensures.told c.if-not-is_told.false) (sym c.is_delimited.ensures ∙ c.if-is_delimited.false)))
    (omega (arith, c.next_byte-at.ensures.low))
