use Rattle.text_view.proofs.Runs.{special_found, special_nowhere, nothing_own}
use Rattle.std.proofs.Common.{arith}
use Rattle.text_view.proofs.pieces.quoted_len.Goals as goal

pub returns-then-quote-ge128 : goal.returns-then-quote-ge128
returns-then-quote-ge128 c = nothing_own _ _ c.utf8.text

pub returns-in-Some : goal.returns-in-Some
returns-in-Some c =
    let found = rw c.as_bytes-bytes.ensures.value at c.in-Some.ensures in
    special_found c.args.quote c.args.escape _ _ (omega arith) (omega arith) c.utf8.text found

pub returns-in-None : goal.returns-in-None
returns-in-None c =
    let nowhere = rw c.as_bytes-bytes.ensures.value at c.in-None.ensures in
    rw c.as_bytes-bytes.ensures.value (special_nowhere c.args.quote c.args.escape _ (omega arith) (omega arith) c.utf8.text nowhere)
