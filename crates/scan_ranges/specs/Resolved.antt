-- The bytes of an object that a scan range means (Amazon S3 API Reference, ScanRange): Start and End are the places of the first and
-- the last one; Start alone reaches to the object's end; End alone is a number of bytes at the object's end.
use Rattle.std.specs.Prelude.{ℕ, ◌-◌, ◌&&◌, min, nat_lt, nat_le, Option, None, Some, if◌then◌else◌}
use Rattle.select_ports.specs.declared.outcome.Range.{Range}
use Rattle.select_request.specs.declared.request.ScanRange.{ScanRange}
use Rattle.select_request.specs.declared.request.ScanRange.TheVariants.{Between, From, Last}

-- the places from a first to a last one, both included, that an object of so many bytes has
abbrev pub cut_to : ℕ → ℕ → ℕ → Option (ℕ × ℕ)
cut_to first last size = if nat_lt first size && nat_le first last then Some (first, min last (size - 1)) else None

-- the first and the last place of a scan range in an object of so many bytes, and of the whole object without one; none where the
-- object has no such byte
unfoldable pub resolved : Option ScanRange → ℕ → Option (ℕ × ℕ)
resolved None size = cut_to 0 (size - 1) size
resolved (Some (Between start end)) size = cut_to start end size
resolved (Some (From start)) size = cut_to start (size - 1) size
resolved (Some (Last count)) size = cut_to (size - count) (size - 1) size

-- the places of a range that was found
abbrev pub bounds : Option Range → Option (ℕ × ℕ)
bounds None = None
bounds (Some range) = Some (range.first, range.last)
