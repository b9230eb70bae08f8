-- A last byte that is blank is passed, and another ends the loop.
use Rattle.std.proofs.Common.{◌∙◌, sym}
use Rattle.request_elements.proofs.ByteLaws.{last_blank, last_kept}
use Rattle.request_elements.proofs.pieces.without_last_blanks.Goals as goal

pub returns-then-not-is_blank : goal.returns-then-not-is_blank
returns-then-not-is_blank c =
    rw (c.blanks.invariant, c.in-Some.ensures.cases.0) (sym (last_kept c.in-Some.front.now c.in-Some.last.now (sym c.is_blank.ensures ∙ c.if-not-is_blank.true)))

pub blanks-preserved : goal.blanks-preserved
blanks-preserved c =
    rw (c.blanks.invariant, c.in-Some.ensures.cases.0) (last_blank c.in-Some.front.now c.in-Some.last.now (sym c.is_blank.ensures ∙ c.if-not-is_blank.false))
