use Rattle.std.proofs.Common.{refl}
use Rattle.std.specs.Str.{chars}
use Rattle.record_output.proofs.Slices.{lent_bytes as lent}
use Rattle.record_output.proofs.spelled.lent_bytes.Goals as goal

pub returns : goal.returns
returns c = lent (chars c.args.text.now) c.args.text.now c.as_bytes.result.now refl c.as_bytes.ensures.value c.as_bytes.ensures.utf8
