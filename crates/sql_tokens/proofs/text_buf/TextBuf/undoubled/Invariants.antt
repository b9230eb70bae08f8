-- What was copied, and then what is left.
use Rattle.std.proofs.Common.{◌≡◌, ◌++◌, length}
use denote.Text.{Utf8}
use denote.Shadow.{shadow}
use Rattle.std.specs.Prelude.{string_bytes}
use Rattle.sql_tokens.specs.Payloads.{undoubled}
use Rattle.sql_tokens.proofs.text_buf.TextBuf.undoubled.Given as goal

abbrev pub invariant-quotes : goal.invariant-quotes
invariant-quotes l = record {
  text : shadow (Utf8 l.left);
  copied : undoubled l.quote l.fn.raw ≡ string_bytes l.text ++ undoubled l.quote l.left;
}

abbrev pub decreases-quotes : goal.decreases-quotes
decreases-quotes l = length l.left
