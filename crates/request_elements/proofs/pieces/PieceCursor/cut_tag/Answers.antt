-- The first piece at a `<`.
use Rattle.std.proofs.Common.{◌∙◌, take, sym, ap}
use Rattle.request_elements.proofs.ByteLaws.{whole_has, part_has, up_to_within, take_up_to}
use Rattle.request_elements.proofs.CutLaws.{cut_unfit, cut_tag_at}
use Rattle.request_elements.proofs.pieces.PieceCursor.cut_tag.Goals as goal

pub returns-then-len-bytes : goal.returns-then-len-bytes
returns-then-len-bytes c =
    sym (cut_unfit c.args.at c.args.bytes.now (whole_has 62 c.args.bytes.now (sym c.length_before-len.ensures ∙ c.if-len-bytes.true)))

pub split_at-requires : goal.split_at-requires
split_at-requires c = rw c.length_before-len.ensures (up_to_within 62 c.args.bytes.now)

pub returns : goal.returns
returns c =
    let there = part_has 62 c.args.bytes.now (λ e. c.if-len-bytes.false (c.length_before-len.ensures ∙ e)) in
    let inside = c.split_at.ensures.front ∙ (ap (λ n. take n c.args.bytes.now) c.length_before-len.ensures ∙ take_up_to 62 c.args.bytes.now) in
    rw (c.tag.ensures, inside, c.split_at-2.ensures.back, c.length_before-len.ensures) (sym (cut_tag_at c.args.at c.args.bytes.now there))
