use Rattle.std.proofs.Common.{◌≡◌, arith, ap, ◌∙◌, ◌/◌, ◌%◌, unsigned_abs, w16, true, FitsSigned}
use Rattle.std.proofs.lemmas.Bool.{and_from}
use Rattle.jiff_core.proofs.SignedLemmas.{signed_arith}
use Rattle.sql_timestamp.specs.Instants.{local_day, is_day, is_offset, is_timestamp}
use Rattle.sql_timestamp.proofs.Ranges.{kept}
use Rattle.sql_timestamp.proofs.Printed.{pushed}
use Rattle.sql_timestamp.proofs.stamp.Stamp.written.Goals as goal

pub returns-clause-text : goal.returns-clause-text
returns-clause-text c =
    let time = c.shown-shown.ensures.time in
    let second = c.shown-shown.ensures.second in
    let nanosecond = c.shown-shown.ensures.nanosecond in
    let low = c.offset.ensures.low in
    let high = c.offset.ensures.high in
    let years = c.date-date.result.year_in in
    let narrow : FitsSigned w16 c.date-date.result.year = omega (arith, signed_arith) in
    let short : FitsSigned w16 c.offset.result = omega (arith, signed_arith) in
    pushed c.args.self.now c.new-text.result.bytes c.push_date.new.text.bytes c.push_time.new.text.bytes c.push_fraction.new.text.bytes c.push_zone.new.text.bytes
    _ c.date-date.result.month c.date-date.result.day
    (c.shown-shown.result.second / 3_600) (c.shown-shown.result.second / 60 % 60) (c.shown-shown.result.second % 60) c.shown-shown.result.nanosecond _
    (c.unsigned_abs.ensures.value ∙ ap unsigned_abs (kept w16 c.date-date.result.year narrow ∙ c.date-date.ensures.year)) c.date-date.ensures.month c.date-date.ensures.day
    (omega arith) (omega arith) (omega arith) (omega arith) (kept w16 c.offset.result short ∙ c.offset.ensures.value)
    c.new-text.ensures c.push_date.ensures.bytes c.push_time.ensures.bytes c.push_fraction.ensures.bytes c.push_zone.ensures

pub returns-clause-sound : goal.returns-clause-sound
unfolding is_timestamp
returns-clause-sound c =
    let day : is_day (local_day c.args.self.now) ≡ true = rw c.shown-shown.ensures.day at c.shown-shown.ensures.year in
    and_from (is_offset c.args.self.now.offset) (is_day (local_day c.args.self.now)) c.shown-shown.ensures.offset day
