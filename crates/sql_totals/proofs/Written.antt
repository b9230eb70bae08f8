-- A text that is written to an empty room.
use Rattle.std.proofs.Common.{◌≡◌, ℕ, List, [], ◌++◌, length, sym, ap}
use Rattle.std.specs.Prelude.{nat_le}
use Rattle.std.specs.Str.{chars, encode_utf8_all, IsUtf8}
use Rattle.std.proofs.lemmas.Str.{chars_from_encodes, encodes-chars}
use Rattle.sql_totals.specs.Keeping.{fits_room}

pub written : (cs : List ℕ) (bytes : List ℕ) → IsUtf8 bytes → bytes ≡ [] ++ encode_utf8_all cs → chars bytes ≡ cs
written cs bytes utf8 e = sym (chars_from_encodes cs bytes utf8 (sym e))

pub fits_as_bytes : (bytes : List ℕ) → IsUtf8 bytes → fits_room (chars bytes) ≡ nat_le (length bytes) 4096
fits_as_bytes bytes utf8 = ap (λ l. nat_le (length l) 4096) (encodes-chars bytes utf8)
