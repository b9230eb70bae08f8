use Rattle.std.proofs.Common.{◌≡◌, ◌≤◌, length}
use Rattle.std.specs.Prelude.{max}
use Rattle.std.specs.Option.{option_map}
use Rattle.parquet_delta.specs.Arrays.{longest_of}
use Rattle.parquet_delta.proofs.fronts.longest.Given as goal

abbrev pub invariant-loop-prefix : goal.invariant-loop-prefix
invariant-loop-prefix l = record {
  longest : option_map (max l.longest) (longest_of l.before l.prefixes.left l.suffixes) ≡ longest_of 0 l.fn.prefixes.left l.fn.suffixes;
  before : l.before ≤ 4194304;
}

abbrev pub decreases-loop-prefix : goal.decreases-loop-prefix
decreases-loop-prefix l = length l.prefixes.left
