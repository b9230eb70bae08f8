-- A walk over a slice to which bytes are added.
use Rattle.std.proofs.Common.{◌≡◌, ℕ, ◌+◌, ◌-◌, ◌≤◌, List, ◌++◌, length, drop, sym, ap, ◌∙◌, arith, append_assoc, length-append}
use Rattle.std.proofs.lemmas.List.{length-drop, drop-append-le}
use Rattle.byte_masks.specs.Masks.{is_byte, places_of}
use Rattle.byte_masks.specs.Walks.{AddedBytesKeep, places_from}
use Rattle.byte_masks.proofs.Marking.{places_of-append}

places_from-added : (byte : ℕ) (bytes more : List ℕ) (at : ℕ) → at ≤ length bytes
    → places_from byte (bytes ++ more) at ≡ places_from byte bytes at ++ places_of (is_byte byte) (length bytes) more
places_from-added byte bytes more at within =
    let behind : length (drop at bytes) ≡ length bytes - at = length-drop at bytes in
    let end : at + (length bytes - at) ≡ length bytes = omega arith in
    ap (places_of (is_byte byte) at) (drop-append-le at bytes more within)
    ∙ places_of-append (is_byte byte) at (length bytes - at) (drop at bytes) more behind
    ∙ ap (λ n. places_from byte bytes at ++ places_of (is_byte byte) n more) end

pub added_bytes_keep : AddedBytesKeep
added_bytes_keep walk bytes more at stands =
    let added : List ℕ = places_of (is_byte walk.byte) (length bytes) more in
    record {
      within = omega (arith, stands.within, length-append bytes more);
      looked = omega (arith, stands.looked, length-append bytes more);
      all =
          ap (λ ps. walk.ahead ++ ps) (places_from-added walk.byte bytes more walk.from stands.looked)
          ∙ sym (append_assoc walk.ahead (places_from walk.byte bytes walk.from) added)
          ∙ ap (λ ps. ps ++ added) stands.all
          ∙ sym (places_from-added walk.byte bytes more at stands.within);
    }
