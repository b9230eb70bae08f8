use Rattle.std.proofs.Common.{arith, w16, refl, ◌∙◌, FitsSigned}
use Rattle.jiff_core.proofs.SignedLemmas.{signed_arith}
use Rattle.sql_timestamp.specs.Reading.{signed_offset}
use Rattle.sql_timestamp.proofs.Ranges.{kept, offset_between}
use Rattle.sql_timestamp.proofs.ReadSteps.{ends_kept}
use Rattle.sql_timestamp.proofs.read.at_offset.Goals as goal

pub returns : goal.returns
returns c =
    let ends = offset_between c.signed_offset.result c.signed_offset.ensures.bound in
    let short : FitsSigned w16 c.signed_offset.result = omega (arith, signed_arith) in
    c.at_end.ensures
    ∙ ends_kept c.args.day.number _ (signed_offset c.args.west c.args.hour c.args.minute) _ c.args.second c.args.nanosecond c.args.rest.now refl
    (kept w16 c.signed_offset.result short ∙ c.signed_offset.ensures.value)
