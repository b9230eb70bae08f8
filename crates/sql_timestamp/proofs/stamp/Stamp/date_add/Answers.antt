use Rattle.std.proofs.Common.{pos, ap, ◌∙◌, ◌+ℤ◌, ◌*ℤ◌, w64}
use Rattle.sql_timestamp.specs.Instants.{made, second_nanos}
use Rattle.sql_timestamp.specs.Parts.{in_range}
use Rattle.sql_timestamp.proofs.Ranges.{kept}
use Rattle.sql_timestamp.proofs.Moves.{days_told, hours_told, minutes_told, seconds_told}
use Rattle.sql_timestamp.proofs.stamp.Stamp.date_add.Goals as goal

pub returns-in-Day : goal.returns-in-Day
returns-in-Day c =
    rw c.in-Day.is
    (c.in_time.ensures ∙ ap in_range c.later.ensures
    ∙ ap (λ k. in_range (made (c.args.self.now.instant +ℤ k *ℤ pos 86_400 *ℤ pos second_nanos) c.args.self.now.offset)) (kept w64 c.args.n c.ranges.n)
    ∙ days_told c.args.self.now c.args.n)

pub returns-in-Hour : goal.returns-in-Hour
returns-in-Hour c =
    rw c.in-Hour.is
    (c.in_time-in-Hour.ensures ∙ ap in_range c.later-in-Hour.ensures
    ∙ ap (λ k. in_range (made (c.args.self.now.instant +ℤ k *ℤ pos 3_600 *ℤ pos second_nanos) c.args.self.now.offset)) (kept w64 c.args.n c.ranges.n)
    ∙ hours_told c.args.self.now c.args.n)

pub returns-in-Minute : goal.returns-in-Minute
returns-in-Minute c =
    rw c.in-Minute.is
    (c.in_time-in-Minute.ensures ∙ ap in_range c.later-in-Minute.ensures
    ∙ ap (λ k. in_range (made (c.args.self.now.instant +ℤ k *ℤ pos 60 *ℤ pos second_nanos) c.args.self.now.offset)) (kept w64 c.args.n c.ranges.n)
    ∙ minutes_told c.args.self.now c.args.n)

pub returns-in-Second : goal.returns-in-Second
returns-in-Second c =
    rw c.in-Second.is
    (c.in_time-in-Second.ensures ∙ ap in_range c.later-in-Second.ensures
    ∙ ap (λ k. in_range (made (c.args.self.now.instant +ℤ k *ℤ pos 1 *ℤ pos second_nanos) c.args.self.now.offset)) (kept w64 c.args.n c.ranges.n)
    ∙ seconds_told c.args.self.now c.args.n)
