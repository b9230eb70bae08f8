-- JSON texts, and where bytes stop being one.
use Rattle.std.specs.Prelude.{◌≡◌, ℕ, ◌+◌, ◌<◌, List, ◌++◌, length, take}
use Rattle.json_text.specs.Grammar.{Json, print, IsValue, AreBlanks}

-- JSON-text = ws value ws, with at most `limit` brackets open at once
pub record IsText (limit : ℕ) (bytes : List ℕ) : Type 0 where
  pub before : List ℕ
  pub tree : Json
  pub behind : List ℕ
  pub blank_before : AreBlanks before
  pub valid : IsValue limit 0 tree
  pub blank_behind : AreBlanks behind
  pub spelled : bytes ≡ before ++ print tree behind

-- some such text begins with these bytes
pub record BeginsText (limit : ℕ) (front : List ℕ) : Type 0 where
  pub rest : List ℕ
  pub whole : IsText limit (front ++ rest)

-- how many brackets may be open at once
abbrev pub levels : ℕ
levels = 64

-- `at` is the length of the longest front with which some JSON text begins, of any nesting
pub record IsParsingFault (bytes : List ℕ) (at : ℕ) : Type 0 where
  pub begun : BeginsText levels (take at bytes)
  pub longest : (limit : ℕ) → at < length bytes → BeginsText limit (take (at + 1) bytes) → ⊥
  pub wrong : (limit : ℕ) → IsText limit bytes → ⊥

-- the byte at `at` opens a level past the limit, in the front of a JSON text that is nested deeper
pub record IsTooDeep (bytes : List ℕ) (at : ℕ) : Type 0 where
  pub begun : BeginsText levels (take at bytes)
  pub deeper : BeginsText (levels + 1) (take (at + 1) bytes)
  pub past : BeginsText levels (take (at + 1) bytes) → ⊥
