use Rattle.std.proofs.Common.{◌≡◌, ◌<◌, ◌≤◌, length, take, slice_index}
use Rattle.json_text.specs.Trimmed.{content}
use Rattle.json_text.proofs.trim.content_len.Given as goal

abbrev pub invariant-back : goal.invariant-back
invariant-back l = record {
  same : content (take l.end l.bytes) ≡ content l.bytes;
  within : l.end ≤ length l.bytes;
  ascii : l.end < length l.bytes → slice_index l.bytes l.end < 128;
}

abbrev pub decreases-back : goal.decreases-back
decreases-back l = l.end
