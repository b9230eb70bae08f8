use Rattle.std.proofs.Common.{refl}
use Rattle.std.specs.Str.{chars}
use Rattle.memchr.specs.Find.{is_byte}
use Rattle.text_view.proofs.Runs.{solidus_low}
use Rattle.text_view.proofs.Slices.{special_there, string_whole, string_plain}
use Rattle.text_view.proofs.plain.plain_string.Goals as goal

pub returns-in-Some-clause-some : goal.returns-in-Some-clause-some
returns-in-Some-clause-some c =
    let found = rw c.as_bytes.ensures.value at c.in-Some.ensures in
    (λ e. absurd (cc), λ h. absurd (special_there (is_byte 92) c.args.raw.now c.in-Some.field-0 solidus_low c.utf8.raw found h))

pub returns-in-None-clause-value : goal.returns-in-None-clause-value
returns-in-None-clause-value c =
    let nowhere = rw c.as_bytes.ensures.value at c.in-None.ensures in
    string_plain (chars c.args.raw.now) (string_whole c.args.raw.now c.utf8.raw nowhere)

pub returns-in-None-clause-some : goal.returns-in-None-clause-some
returns-in-None-clause-some c =
    let nowhere = rw c.as_bytes.ensures.value at c.in-None.ensures in
    (λ e. string_whole c.args.raw.now c.utf8.raw nowhere, λ h. refl)
