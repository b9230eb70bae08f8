use Rattle.std.proofs.Common.{◌≡◌, ◌≤◌, ◌<◌, ◌-◌, ◌++◌, length, take, drop}
use Rattle.std.specs.Str.{IsUtf8, IsCharBoundary}
use Rattle.json_text.specs.Skipped.{outside}
use Rattle.json_text.specs.Compact.{squeezed}
use Rattle.json_text.proofs.compact.write_squeezed.Given as goal

abbrev pub invariant-runs : goal.invariant-runs
invariant-runs l = record {
  same : l.out.bytes ++ squeezed outside (drop l.from l.bytes) ≡ l.fn.out.bytes ++ squeezed outside l.text;
  room : l.out.room ≡ l.fn.out.room;
  fits : length l.out.bytes ≤ l.out.room;
  kept : take (length l.fn.out.bytes) l.out.bytes ≡ l.fn.out.bytes;
  longer : length l.fn.out.bytes ≤ length l.out.bytes;
  begins : 0 < l.from → IsCharBoundary l.text l.from;
  within : l.from ≤ length l.bytes;
  utf8 : IsUtf8 l.fn.out.bytes → IsUtf8 l.out.bytes;
}

abbrev pub decreases-runs : goal.decreases-runs
decreases-runs l = length l.bytes - l.from
