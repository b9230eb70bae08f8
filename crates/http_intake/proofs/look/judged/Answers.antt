use Rattle.std.proofs.Common.{◌≡◌, min, length, ap, arith, ◌∙◌}
use Rattle.std.proofs.lemmas.List.{take_min}
use Rattle.std.proofs.Common.{take}
use Rattle.http_intake.proofs.look.judged.Goals as goal

pub returns : goal.returns
returns c =
    let count : c.min.result ≡ min 16384 (length c.args.kept.now) = omega (arith, c.min.ensures) in
    ap (λ n. take n c.args.kept.now) count ∙ take_min 16384 c.args.kept.now
