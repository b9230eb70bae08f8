-- The bytes that were passed hold no quote that closes.
use Rattle.std.proofs.Common.{◌≡◌, ◌+◌, length}
use Rattle.sql_tokens.specs.TokenForms.{closing, closing_behind}
use Rattle.sql_tokens.proofs.scan.closing.Given as goal

abbrev pub invariant-quotes : goal.invariant-quotes
invariant-quotes l = record {
  finds : closing l.quote l.fn.bytes ≡ closing_behind l.quote 0 l.at l.left;
  whole : l.at + length l.left ≡ length l.fn.bytes;
}

abbrev pub decreases-quotes : goal.decreases-quotes
decreases-quotes l = length l.left
