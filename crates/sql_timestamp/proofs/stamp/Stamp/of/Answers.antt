use Rattle.std.proofs.Common.{w16, w64, sym, ◌∙◌}
use Rattle.sql_timestamp.proofs.Ranges.{kept, made_kept, made_lost}
use Rattle.sql_timestamp.proofs.stamp.Stamp.of.Goals as goal

pub returns-then-not-shows_year : goal.returns-then-not-shows_year
returns-then-not-shows_year c =
    made_lost c.args.seconds _ c.args.offset _ c.args.nanoseconds (kept w64 c.args.seconds c.ranges.seconds) (kept w16 c.args.offset c.ranges.offset) c.requires
    (sym c.shows_year.ensures ∙ c.if-not-shows_year.true)

pub returns : goal.returns
returns c =
    made_kept c.args.seconds _ c.args.offset _ c.args.nanoseconds (kept w64 c.args.seconds c.ranges.seconds) (kept w16 c.args.offset c.ranges.offset) c.requires
    (sym c.shows_year.ensures ∙ c.if-not-shows_year.false)
