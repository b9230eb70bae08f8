use Rattle.std.proofs.Common.{subst}
use Rattle.std.specs.Str.{IsUtf8}
use Rattle.json_text.proofs.Checks.{is_node, stands, parsing, deep}
use Rattle.json_text.proofs.Functions.{told_encoding, told_value, told_unfit, told_deep}
use Rattle.json_text.proofs.checking.check.Goals as goal

pub of-requires : goal.of-requires
of-requires c = is_node c.args.bytes.now c.in-Ok.text.now c.as_bytes.result.now c.in-Ok.ensures c.as_bytes.ensures.value c.trimmed.result.now c.in-Accepted.ensures c.trimmed.ensures

pub returns-in-Accepted-clause-ok : goal.returns-in-Accepted-clause-ok
returns-in-Accepted-clause-ok c =
    rw c.of.ensures (stands c.args.bytes.now c.in-Ok.text.now c.as_bytes.result.now c.in-Ok.ensures c.as_bytes.ensures.value c.trimmed.result.now c.in-Accepted.ensures c.trimmed.ensures)

pub returns-in-Unfit-clause-err : goal.returns-in-Unfit-clause-err
returns-in-Unfit-clause-err c =
    rw c.fault-in-Unfit.ensures
    (parsing c.args.bytes.now c.in-Ok.text.now c.as_bytes.result.now c.in-Ok.ensures c.as_bytes.ensures.value c.in-Unfit.at (subst IsUtf8 c.as_bytes.ensures.value c.as_bytes.ensures.utf8) c.in-Unfit.ensures)

pub returns-in-TooDeep-clause-err : goal.returns-in-TooDeep-clause-err
returns-in-TooDeep-clause-err c =
    rw c.fault-in-TooDeep.ensures
    (deep c.args.bytes.now c.in-Ok.text.now c.as_bytes.result.now c.in-Ok.ensures c.as_bytes.ensures.value c.in-TooDeep.at (subst IsUtf8 c.as_bytes.ensures.value c.as_bytes.ensures.utf8) c.in-TooDeep.ensures)

pub returns-in-Accepted-clause-function : goal.returns-in-Accepted-clause-function
returns-in-Accepted-clause-function c =
    rw c.of.ensures
    (told_value c.args.bytes.now c.in-Ok.text.now c.as_bytes.result.now c.in-Ok.ensures c.as_bytes.ensures.value (subst IsUtf8 c.as_bytes.ensures.value c.as_bytes.ensures.utf8)
    c.trimmed.result.now c.in-Accepted.ensures c.trimmed.ensures)

pub returns-in-Unfit-clause-function : goal.returns-in-Unfit-clause-function
returns-in-Unfit-clause-function c =
    rw c.fault-in-Unfit.ensures
    (told_unfit c.args.bytes.now c.in-Ok.text.now c.as_bytes.result.now c.in-Ok.ensures c.as_bytes.ensures.value (subst IsUtf8 c.as_bytes.ensures.value c.as_bytes.ensures.utf8)
    c.in-Unfit.at c.in-Unfit.ensures)

pub returns-in-TooDeep-clause-function : goal.returns-in-TooDeep-clause-function
returns-in-TooDeep-clause-function c =
    rw c.fault-in-TooDeep.ensures
    (told_deep c.args.bytes.now c.in-Ok.text.now c.as_bytes.result.now c.in-Ok.ensures c.as_bytes.ensures.value (subst IsUtf8 c.as_bytes.ensures.value c.as_bytes.ensures.utf8)
    c.in-TooDeep.at c.in-TooDeep.ensures)

pub returns-in-Err-clause-function : goal.returns-in-Err-clause-function
returns-in-Err-clause-function c = rw c.fault.ensures (told_encoding c.args.bytes.now c.in-Err.ensures.0)
