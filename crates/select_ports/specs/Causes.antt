-- Counts of what befell an object. A count is kept in 64 bits, never falls, and stands still at its largest value.
use Rattle.std.specs.Prelude.{◌≡◌, ℕ, ◌+◌, ◌-◌, ◌^◌, ◌≤◌, min, Result, MatchResult}

-- the count rose by one at least, or stands at its largest value
abbrev pub Rose : ℕ → ℕ → Type 0
Rose before now = min (before + 1) (2 ^ 64 - 1) ≤ now

-- the count rose by exactly n, up to its largest value
abbrev pub RoseBy : ℕ → ℕ → ℕ → Type 0
RoseBy n before now = now ≡ min (before + n) (2 ^ 64 - 1)

-- a call that answers `Err` raised the count, and no call lets it fall
pub record HasCause {A E : Type 0} (before now : ℕ) (result : Result A E) : Type 0 where
  pub kept : before ≤ now
  pub cause : MatchResult result (λ _. before ≤ now) (λ _. Rose before now)

-- a count of bytes that rises by n at `Ok(n)` and at nothing else
abbrev pub Counted : {E : Type 0} → ℕ → ℕ → Result ℕ E → Type 0
Counted before now result = MatchResult result (λ n. RoseBy n before now) (λ _. now ≡ before)
