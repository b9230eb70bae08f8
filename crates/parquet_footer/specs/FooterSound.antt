-- What holds of each footer that was read.
use Rattle.std.specs.Prelude.{◌≡◌, ◌≤◌, ◌<◌, ℕ, ◌+◌, length}
use Rattle.parquet_footer.specs.Footers.{FooterView, group_at, chunk_in}

-- the groups' starts never fall, each group has a row and a chunk for each column, and the chunks lie in the file
pub record IsSound (f : FooterView) : Type 0 where
  pub order : (j k : ℕ) → j ≤ k → k < length f.groups → (group_at f j).start ≤ (group_at f k).start
  pub rows : (k : ℕ) → k < length f.groups → 0 < (group_at f k).rows
  pub chunks : (k : ℕ) → k < length f.groups → length (group_at f k).chunks ≡ length f.columns
  pub inside : (k column : ℕ) → (chunk_in f k column).start + (chunk_in f k column).bytes ≤ f.size
