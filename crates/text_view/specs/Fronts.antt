-- A lent text that is cut: which front of what was lent spells a front of its characters.
use Rattle.std.specs.Prelude.{◌≡◌, ℕ, List, ◌++◌, take, length}
use Rattle.text_view.specs.declared.cursor.Escape.{Escape}
use Rattle.text_view.specs.Spelled.{spelled}

-- Reading `cs` in the state `old` gives n characters, and goes on with `rest` in the state `new`. It gives
-- them before any front of `rest` too, so that a cut further on changes none of them.
pub record Walks (old : Escape) (cs : List ℕ) (n : ℕ) (new : Escape) (rest : List ℕ) : Type 0 where
  pub passed : List ℕ
  pub text : List ℕ
  pub split : cs ≡ passed ++ rest
  pub size : length text ≡ n
  pub fronts : (front back : List ℕ) → rest ≡ front ++ back
      → spelled old (passed ++ front) ≡ text ++ spelled new front

-- what stands before `rest` spells the first n characters
pub record CutsBefore (escape : Escape) (cs : List ℕ) (n : ℕ) (rest : List ℕ) : Type 0 where
  pub passed : List ℕ
  pub split : cs ≡ passed ++ rest
  pub front : spelled escape passed ≡ take n (spelled escape cs)

-- the characters end in those
pub record EndsIn (cs ending : List ℕ) : Type 0 where
  pub front : List ℕ
  pub split : cs ≡ front ++ ending
