-- What the loop has read, and that it ends.
use Rattle.std.proofs.Common.{◌≡◌, ◌≤◌, length, true}
use Rattle.grammar_rules.proofs.WorkedKeyedProofs.{read_free, entries_left}
use Rattle.grammar_rules.proofs.worked.keyed.read_entries.Given as goal

abbrev pub invariant-entries : goal.invariant-entries
invariant-entries l = record {
  reads : read_free (λ k. true) l.fn.signs ≡ entries_left l.found l.cursor;
  passes : length l.cursor ≤ length l.fn.signs;
}

abbrev pub decreases-entries : goal.decreases-entries
decreases-entries l = length l.cursor
