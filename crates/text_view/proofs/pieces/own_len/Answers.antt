use Rattle.text_view.proofs.Runs.{solidus_found, solidus_nowhere, plain_own}
use Rattle.text_view.proofs.pieces.own_len.Goals as goal

pub returns-in-Plain : goal.returns-in-Plain
returns-in-Plain c = rw (c.in-Plain.is, c.as_bytes.ensures.value) (plain_own _)

pub returns-in-Quoted : goal.returns-in-Quoted
returns-in-Quoted c = rw c.in-Quoted.is c.quoted_len.ensures

pub returns-in-Some : goal.returns-in-Some
returns-in-Some c =
    let found = rw c.as_bytes-in-Json.ensures.value at c.in-Some.ensures in
    rw c.in-Json.is (solidus_found _ _ c.utf8.text found)

pub returns-in-None : goal.returns-in-None
returns-in-None c =
    let nowhere = rw c.as_bytes-in-Json.ensures.value at c.in-None.ensures in
    rw c.in-Json.is (solidus_nowhere _ c.utf8.text nowhere)
