-- Where the reading of runs stands in their bytes.
use Rattle.std.specs.Prelude.{◌≡◌, ℕ, ◌+◌, ◌*◌, ◌/◌, ◌^◌, ◌<◌, ◌≤◌, true, List, ◌++◌, length, drop}
use Rattle.packed_bits.specs.Packed.{little}
use Rattle.parquet_runs.specs.Hybrid.{run_numbers, numbers, are_there}
use Rattle.parquet_runs.specs.declared.cursor.RunCursor.{RunCursor}

-- the numbers that are still to come: those of the run that was entered, and those of the runs behind it
unfoldable pub numbers_left : RunCursor → List ℕ → List ℕ
numbers_left c bytes =
    run_numbers c.inside c.number c.step (little bytes / 2 ^ c.bit) ++ numbers c.width c.behind 0 (drop c.at bytes)

-- they are all there
pub record IsReady (c : RunCursor) (bytes : List ℕ) : Type 0 where
  pub few : length bytes < 2 ^ 32
  pub width : c.width ≤ 32
  pub step : c.step ≤ 32
  pub at : c.at ≤ length bytes
  pub inside : c.bit + c.inside * c.step ≤ 8 * length bytes
  pub there : are_there c.width c.behind 0 (drop c.at bytes) ≡ true
  pub many : c.inside + c.behind < 2 ^ 32
