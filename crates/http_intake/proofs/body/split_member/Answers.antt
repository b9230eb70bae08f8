use Rattle.std.proofs.Common.{◌+◌, ◌<◌, length, arith, length-drop}
use Rattle.http_intake.proofs.Members.{front_of, members_some}
use Rattle.http_intake.proofs.body.split_member.Goals as goal

pub returns : goal.returns
returns c =
    let within : front_of c.args.value.now < length c.args.value.now = omega (arith, c.count_before_comma-front.ensures.count, c.if-value-front.false) in
    rw (c.behind.ensures, c.count_before_comma-front.ensures.count)
    (members_some c.args.value.now within, omega (arith, length-drop (front_of c.args.value.now + 1) c.args.value.now, within))
