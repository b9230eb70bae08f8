use Rattle.std.proofs.Common.{◌-◌, ◌≤◌, [], ◌∷◌, length}
use Rattle.line_window.specs.Delimiters.{HasNone}
use Rattle.line_window.proofs.delimiter.find_pair.Given as goal

abbrev pub invariant-rest : goal.invariant-rest
invariant-rest l = record {
  within : l.from ≤ length l.bytes;
  clear : HasNone (l.first ∷ l.second ∷ []) l.bytes l.from;
}

abbrev pub decreases-rest : goal.decreases-rest
decreases-rest l = length l.bytes - l.from
