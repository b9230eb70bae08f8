use Rattle.std.proofs.Common.{refl, arith}
use Rattle.std.specs.Str.{chars}
use Rattle.memchr.specs.Find.{is_byte2}
use Rattle.text_view.specs.QuotedField.{unclosed_plain, closed_plain}
use Rattle.text_view.proofs.Runs.{all_own, special_low, range_is}
use Rattle.text_view.proofs.Slices.{field_plain, closing, closes, field_cut}
use Rattle.text_view.proofs.plain.plain_field.Goals as goal

pub returns-in_default-clause-value : goal.returns-in_default-clause-value
returns-in_default-clause-value c =
    let nowhere = rw c.as_bytes-bytes.ensures.value at c.in_default.ensures in
    field_plain c.args.quote c.args.escape (chars c.args.raw.now) (all_own (is_byte2 c.args.quote c.args.escape) c.args.raw.now (λ d t. special_low c.args.quote c.args.escape d c.requires.quote c.requires.escape t) c.utf8.raw nowhere)

pub returns-in_default-clause-some : goal.returns-in_default-clause-some
returns-in_default-clause-some c =
    let nowhere = rw c.as_bytes-bytes.ensures.value at c.in_default.ensures in
    (λ e. unclosed_plain (all_own (is_byte2 c.args.quote c.args.escape) c.args.raw.now (λ d t. special_low c.args.quote c.args.escape d c.requires.quote c.requires.escape t) c.utf8.raw nowhere), λ h. refl)

pub returns-then-place-bytes-clause-some : goal.returns-then-place-bytes-clause-some
returns-then-place-bytes-clause-some c =
    let found = rw c.as_bytes-bytes.ensures.value at c.in-Some.ensures in
    (λ e. absurd (cc), λ h. absurd (omega (arith, c.as_bytes-bytes.ensures.len, (closing c.args.quote c.args.escape c.args.raw.now c.in-Some.place c.requires.quote c.requires.escape c.utf8.raw found h).last)))

pub returns-then-bytes-place-clause-value : goal.returns-then-bytes-place-clause-value
returns-then-bytes-place-clause-value c =
    let found = rw c.as_bytes-bytes.ensures.value at c.in-Some.ensures in
    let quote = rw c.as_bytes-bytes.ensures.value at c.if-bytes-place.true in
    rw (c.range.ensures.value, range_is c.in-Some.place c.args.raw.now)
    (field_cut c.args.quote c.args.escape c.args.raw.now c.in-Some.place (closes c.args.quote c.args.escape c.args.raw.now c.in-Some.place c.requires.quote c.requires.escape c.utf8.raw found quote (omega (arith, c.as_bytes-bytes.ensures.len))))

pub returns-then-bytes-place-clause-some : goal.returns-then-bytes-place-clause-some
returns-then-bytes-place-clause-some c =
    let found = rw c.as_bytes-bytes.ensures.value at c.in-Some.ensures in
    let quote = rw c.as_bytes-bytes.ensures.value at c.if-bytes-place.true in
    let ends = closes c.args.quote c.args.escape c.args.raw.now c.in-Some.place c.requires.quote c.requires.escape c.utf8.raw found quote (omega (arith, c.as_bytes-bytes.ensures.len)) in
    (λ e. closed_plain _ ends.own ends.whole, λ h. refl)

pub returns-clause-some : goal.returns-clause-some
returns-clause-some c =
    let found = rw c.as_bytes-bytes.ensures.value at c.in-Some.ensures in
    let other = rw c.as_bytes-bytes.ensures.value at c.if-bytes-place.false in
    (λ e. absurd (cc), λ h. absurd (other (closing c.args.quote c.args.escape c.args.raw.now c.in-Some.place c.requires.quote c.requires.escape c.utf8.raw found h).quote))
