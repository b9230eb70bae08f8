use Rattle.std.proofs.Common.{arith, sym}
use Rattle.jiff_core.proofs.SignedLemmas.{signed_arith}
use Rattle.sql_timestamp.proofs.Ranges.{shown_close, not_shown}
use Rattle.sql_timestamp.proofs.stamp.shows_year.Goals as goal
use Rattle.sql_timestamp.proofs.stamp.shows_year.Goals.{then-offset-via-then-offset, then-offset-via-else-offset+then-offset-gt-LONGEST_OFFSET, then-seconds-ahead-via-then-seconds-ahead, then-seconds-ahead-via-else-seconds-ahead+then-seconds-ahead-2}

pub returns-then-offset : goal.returns-then-offset
returns-then-offset c = elim c.then-offset.branch [
  | then-offset-via-then-offset w ↦ not_shown c.args.seconds c.args.offset (λ y. omega (arith, signed_arith))
  | then-offset-via-else-offset+then-offset-gt-LONGEST_OFFSET w ↦ not_shown c.args.seconds c.args.offset (λ y. omega (arith, signed_arith))
]

pub returns-then-seconds-ahead : goal.returns-then-seconds-ahead
returns-then-seconds-ahead c = elim c.then-seconds-ahead.branch [
  | then-seconds-ahead-via-then-seconds-ahead w ↦ not_shown c.args.seconds c.args.offset (λ y. omega (arith, signed_arith))
  | then-seconds-ahead-via-else-seconds-ahead+then-seconds-ahead-2 w ↦ not_shown c.args.seconds c.args.offset (λ y. omega (arith, signed_arith))
]

pub returns : goal.returns
returns c = sym (shown_close c.args.seconds c.args.offset (record {
  offset_low = omega (arith, signed_arith);
  offset_high = omega (arith, signed_arith);
  local_low = omega (arith, signed_arith);
  local_high = omega (arith, signed_arith);
}))
