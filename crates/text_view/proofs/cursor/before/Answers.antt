use Rattle.std.proofs.Common.{refl}
use Rattle.text_view.proofs.Runs.{range_is}
use Rattle.text_view.proofs.Cuts.{splits_at}
use Rattle.text_view.proofs.cursor.before.Goals as goal

pub overflow_sub-text : goal.overflow_sub-text
overflow_sub-text c = (splits_at c.args.text.now c.args.behind.now _ c.utf8.text c.utf8.behind c.requires refl).within

pub range-requires-clause-end_boundary : goal.range-requires-clause-end_boundary
range-requires-clause-end_boundary c = (splits_at c.args.text.now c.args.behind.now _ c.utf8.text c.utf8.behind c.requires refl).boundary

pub returns : goal.returns
returns c =
    rw (c.range.ensures.value, range_is _ c.args.text.now) (splits_at c.args.text.now c.args.behind.now _ c.utf8.text c.utf8.behind c.requires refl).parts
