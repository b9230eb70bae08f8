-- The exits of a leaf.
use Rattle.std.proofs.Common.{◌∙◌, sym, ap, refl}
use Rattle.request_elements.specs.Readers.{onto, read_leaf}
use Rattle.request_elements.proofs.ReaderSteps.{leaf_whole, leaf_refused, leaf_reads, leaf_unclosed, pushed_gives}
use Rattle.request_elements.proofs.elements.leaf.Goals as goal

pub returns-then-is_whole : goal.returns-then-is_whole
returns-then-is_whole c = rw (leaf_whole c.args.element c.args.pieces.now (sym c.is_whole.ensures ∙ c.if-is_whole.true)) c.whole.ensures

pub returns-then-not-starts : goal.returns-then-not-starts
returns-then-not-starts c =
    rw (leaf_refused c.args.element c.args.pieces.now (sym c.is_whole.ensures ∙ c.if-is_whole.false) (sym c.starts.ensures ∙ c.if-not-starts.true)) refl

pub returns-then-not-ends : goal.returns-then-not-ends
returns-then-not-ends c =
    rw (leaf_unclosed c.args.element c.args.pieces.now c.in_ok-text.text c.characters.new.pieces (sym c.is_whole.ensures ∙ c.if-is_whole.false) (sym c.starts.ensures ∙ c.if-not-starts.false)
    (rw (← c.skip.ensures) c.in_ok-text.ensures) (sym c.ends.ensures ∙ c.if-not-ends.true)) refl

pub returns : goal.returns
returns c =
    let read = leaf_reads c.args.element c.args.pieces.now c.in_ok-text.text c.characters.new.pieces (sym c.is_whole.ensures ∙ c.if-is_whole.false) (sym c.starts.ensures ∙ c.if-not-starts.false)
    (rw (← c.skip.ensures) c.in_ok-text.ensures) (sym c.ends.ensures ∙ c.if-not-ends.false) in
    pushed_gives (onto c.args.found.now.items (read_leaf c.args.element c.args.pieces.now)) c.push.result c.args.found.now.items c.push.new.found.items
    (record { element = c.args.element; at = c.place-at.result; text = c.in_ok-text.text }) c.skip-2.new.self
    (ap (onto c.args.found.now.items) read ∙ rw (c.skip-2.ensures, c.place-at.ensures) refl) c.push.ensures
