use Rattle.text_view.proofs.Runs.{byte_found, byte_nowhere, nothing_own}
use Rattle.text_view.proofs.like.place_of.Goals as goal

pub returns-then-code-ge128-clause-own : goal.returns-then-code-ge128-clause-own
returns-then-code-ge128-clause-own c = nothing_own _ _ c.utf8.text

pub returns-in-Some-clause-own : goal.returns-in-Some-clause-own
returns-in-Some-clause-own c =
    let found = rw c.as_bytes.ensures.value at c.in-Some.ensures in
    byte_found c.args.wanted _ _ c.if-code-ge128.false c.utf8.text found

pub returns-in-None-clause-own : goal.returns-in-None-clause-own
returns-in-None-clause-own c =
    let nowhere = rw c.as_bytes.ensures.value at c.in-None.ensures in
    byte_nowhere c.args.wanted _ c.if-code-ge128.false c.utf8.text nowhere
