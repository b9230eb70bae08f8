use Rattle.record_output.proofs.Slices.{lent_bytes}
use Rattle.record_output.proofs.spelled.text_slice.Goals as goal

pub returns-in-Some : goal.returns-in-Some
returns-in-Some c = lent_bytes c.args.text.now c.in-Some.plain.now c.as_bytes.result.now c.in-Some.ensures c.as_bytes.ensures.value c.as_bytes.ensures.utf8
