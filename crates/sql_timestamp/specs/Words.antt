-- The two words of an instant: whole seconds, rounded down, and the nanoseconds of a second.
use Rattle.std.specs.Prelude.{◌≡◌, ℕ, ◌<◌, ℤ, pos, negsuc, ◌+ℤ◌, ◌*ℤ◌, ◌≤ℤ◌, unsigned_abs, int_le, Bool, ◌&&◌}
use Rattle.std.specs.Int.{int_div_euclid, int_rem_euclid}
use Rattle.std.proofs.Common.{arith}
use Rattle.jiff_core.proofs.SignedLemmas.{signed_arith}
use Rattle.sql_timestamp.specs.Instants.{second_nanos, is_offset}

-- so many seconds and nanoseconds
abbrev pub joined : ℤ → ℕ → ℤ
joined seconds nanos = seconds *ℤ pos second_nanos +ℤ pos nanos

-- the seconds and the nanoseconds of an instant
unfoldable pub seconds_of : ℤ → ℤ
seconds_of instant = int_div_euclid instant (pos second_nanos)

unfoldable pub nanos_of : ℤ → ℕ
nanos_of instant = unsigned_abs (int_rem_euclid instant (pos second_nanos))

pub seconds_back : (s : ℤ) (n : ℕ) → n < second_nanos → seconds_of (joined s n) ≡ s
unfolding seconds_of
seconds_back s n h = omega (arith, signed_arith)

pub nanos_back : (s : ℤ) (n : ℕ) → n < second_nanos → nanos_of (joined s n) ≡ n
unfolding nanos_of
nanos_back s n h = omega (arith, signed_arith)

-- the offset is below a day, and its clock shows a year from 1 to 9999 at that second
pub record ShowsYear (seconds offset : ℤ) : Type 0 where
  pub offset_low : negsuc 1_438 ≤ℤ offset
  pub offset_high : offset ≤ℤ pos 1_439
  pub local_low : negsuc 62_135_596_799 ≤ℤ (seconds +ℤ offset *ℤ pos 60)
  pub local_high : (seconds +ℤ offset *ℤ pos 60) ≤ℤ pos 253_402_300_799

-- the same as a test
unfoldable pub shows_year_at : ℤ → ℤ → Bool
shows_year_at seconds offset =
    is_offset offset && (int_le (negsuc 62_135_596_799) (seconds +ℤ offset *ℤ pos 60) && int_le (seconds +ℤ offset *ℤ pos 60) (pos 253_402_300_799))
