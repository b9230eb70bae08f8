-- The first piece.
use Rattle.std.proofs.Common.{◌∙◌, take, sym, ap}
use Rattle.request_elements.proofs.ByteLaws.{up_to_within, take_up_to}
use Rattle.request_elements.proofs.CutLaws.{cut_no_bytes, cut_text_of}
use Rattle.request_elements.proofs.pieces.PieceCursor.cut.Goals as goal

pub returns-in_default : goal.returns-in_default
returns-in_default c = sym (cut_no_bytes c.args.at c.args.bytes.now c.in_default.ensures.cases)

pub split_at-requires : goal.split_at-requires
split_at-requires c = rw c.length_before-len.ensures (up_to_within 60 c.args.bytes.now)

pub returns : goal.returns
returns c =
    let text = c.split_at.ensures.front ∙ (ap (λ n. take n c.args.bytes.now) c.length_before-len.ensures ∙ take_up_to 60 c.args.bytes.now) in
    rw (text, c.split_at.ensures.back, c.length_before-len.ensures) (sym (cut_text_of c.args.at c.in-Some.first.now c.in-Some.rest.now c.args.bytes.now c.in-Some.ensures.cases.0 c.if-first-eq60.false))
