use Rattle.std.proofs.Common.{◌≡◌, false}
use Rattle.std.specs.Str.{chars}
use Rattle.text_view.specs.JsonString.{has_code}
use Rattle.text_view.proofs.Escapes.{reads_code, lacks_third, lacks_fourth}
use Rattle.text_view.proofs.json.code_of.Goals as goal

pub returns-in_err-third-clause-value : goal.returns-in_err-third-clause-value
returns-in_err-third-clause-value c =
    let lacks : has_code (chars c.args.text.now) ≡ false = lacks_third _ _ _ _ _ _ _ c.in_ok-marker.ensures.value c.in_ok-first.ensures.value.2 c.in_ok-second.ensures.value.2 c.in_err-third.ensures.value in
    rw c.from_residual-in_err-third.ensures lacks

pub returns-in_err-fourth-clause-value : goal.returns-in_err-fourth-clause-value
returns-in_err-fourth-clause-value c =
    let lacks : has_code (chars c.args.text.now) ≡ false = lacks_fourth _ _ _ _ _ _ _ _ _ c.in_ok-marker.ensures.value c.in_ok-first.ensures.value.2 c.in_ok-second.ensures.value.2 c.in_ok-third.ensures.value.2 c.in_err-fourth.ensures.value in
    rw c.from_residual-in_err-fourth.ensures lacks

pub returns-clause-value : goal.returns-clause-value
returns-clause-value c =
    let marked = rw c.if-marker-ne117.false at c.in_ok-marker.ensures.value in
    let read = reads_code (chars c.args.text.now) (chars c.in_ok-marker.behind.now) (chars c.in_ok-first.behind.now) (chars c.in_ok-second.behind.now) (chars c.in_ok-third.behind.now) (chars c.in_ok-fourth.behind.now) c.in_ok-first.first c.in_ok-second.second c.in_ok-third.third c.in_ok-fourth.fourth
    marked c.in_ok-first.ensures.value.2 c.in_ok-second.ensures.value.2 c.in_ok-third.ensures.value.2 c.in_ok-fourth.ensures.value.2
    c.in_ok-first.ensures.value.0 c.in_ok-second.ensures.value.0 c.in_ok-third.ensures.value.0 c.in_ok-fourth.ensures.value.0
    c.in_ok-first.ensures.value.1 c.in_ok-second.ensures.value.1 c.in_ok-third.ensures.value.1 c.in_ok-fourth.ensures.value.1 in
    (read.has, read.value, read.rest)
