-- What three masks say of up to 64 bytes.
use Rattle.std.specs.Prelude.{ℕ, List}
use Rattle.byte_masks.specs.Masks.{Marks, is_byte, is_high}
use Rattle.byte_masks.specs.declared.sight.Sight.{Sight}

-- the masks of the field bytes, of the quote bytes, and of the bytes from 128 on
pub record Sees (field quote : ℕ) (bytes : List ℕ) (sight : Sight) : Type 0 where
  pub fields : Marks (is_byte field) bytes sight.fields
  pub quotes : Marks (is_byte quote) bytes sight.quotes
  pub high : Marks is_high bytes sight.high
