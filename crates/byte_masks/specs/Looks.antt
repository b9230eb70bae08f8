-- The next block of 64 bytes that has the byte.
use Rattle.std.specs.Prelude.{◌≡◌, ℕ, ◌<◌, ◌≤◌, ◌^◌, List, [], ◌++◌, length}
use Rattle.byte_masks.specs.Masks.{marked}
use Rattle.byte_masks.specs.Walks.{places_from}
use Rattle.byte_masks.specs.declared.places.Block.{Block}

-- the marks of a block, and then the places behind it, are the places from `from` on; a block without a mark is the end
pub record Looked (byte : ℕ) (bytes : List ℕ) (from : ℕ) (block : Block) : Type 0 where
  pub all : marked block.base block.mask ++ places_from byte bytes block.end ≡ places_from byte bytes from
  pub ended : marked block.base block.mask ≡ [] → places_from byte bytes from ≡ []
  pub small : block.base < 2 ^ 63
  pub within : from ≤ length bytes → block.end ≤ length bytes
