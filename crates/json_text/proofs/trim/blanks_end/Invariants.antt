use Rattle.std.proofs.Common.{◌≡◌, ◌+◌, ◌≤◌, ◌-◌, length, drop}
use Rattle.std.specs.List.{prefix_len}
use Rattle.json_text.specs.Grammar.{is_blank}
use Rattle.json_text.specs.Trimmed.{skip_blanks}
use Rattle.json_text.proofs.trim.blanks_end.Given as goal

abbrev pub invariant-each : goal.invariant-each
invariant-each l = record {
  same : skip_blanks (drop l.end l.bytes) ≡ skip_blanks (drop l.at l.bytes);
  count : l.at + prefix_len is_blank (drop l.at l.bytes) ≡ l.end + prefix_len is_blank (drop l.end l.bytes);
  after : l.at ≤ l.end;
  within : l.end ≤ length l.bytes;
}

abbrev pub decreases-each : goal.decreases-each
decreases-each l = length l.bytes - l.end
