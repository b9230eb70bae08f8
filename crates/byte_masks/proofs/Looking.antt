-- What the next block with the byte says of the places that are left.
use Rattle.std.proofs.Common.{◌≡◌, ◌≢◌, ℕ, ◌+◌, ◌<◌, ◌≤◌, ◌^◌, List, [], ◌++◌, length, take, drop, sym, ap, ◌∙◌, arith}
use Rattle.byte_masks.specs.Masks.{Marks, is_byte, marked}
use Rattle.byte_masks.specs.Walks.{places_from}
use Rattle.byte_masks.specs.Looks.{Looked}
use Rattle.byte_masks.specs.declared.places.Block.{Block}
use Rattle.byte_masks.proofs.SetBits.{marked-zero, marked-some}
use Rattle.byte_masks.proofs.Walking.{places_from-block, places_from-tail, places_from-past}

pub Looked-past : (byte : ℕ) (bytes : List ℕ) (from : ℕ) → length bytes ≤ from → Looked byte bytes from (record { base = 0; mask = 0; end = from })
Looked-past byte bytes from past = record {
  all = ap (λ ps. ps ++ places_from byte bytes from) (marked-zero 0);
  ended = λ _. places_from-past byte bytes from past;
  small = omega arith;
  within = λ h. h;
}

pub Looked-block : (byte : ℕ) (bytes : List ℕ) (from i m : ℕ) → length bytes < 2 ^ 63 → i + 64 ≤ length bytes → m < 2 ^ 64 → m ≢ 0
    → Marks (is_byte byte) (take 64 (drop i bytes)) m → places_from byte bytes i ≡ places_from byte bytes from
    → Looked byte bytes from (record { base = i; mask = m; end = i + 64 })
Looked-block byte bytes from i m short fits small some marks same = record {
  all = sym (places_from-block byte bytes i m fits marks) ∙ same;
  ended = λ e. absurd (marked-some i m some small e);
  small = omega arith;
  within = λ _. fits;
}

pub Looked-nothing : (byte : ℕ) (bytes : List ℕ) (i m : ℕ) → i + 64 ≤ length bytes → m ≡ 0 → Marks (is_byte byte) (take 64 (drop i bytes)) m
    → places_from byte bytes (i + 64) ≡ places_from byte bytes i
Looked-nothing byte bytes i m fits none marks =
    sym (places_from-block byte bytes i m fits marks ∙ ap (λ ps. ps ++ places_from byte bytes (i + 64)) (ap (marked i) none ∙ marked-zero i))

pub Looked-tail : (byte : ℕ) (bytes tail : List ℕ) (i m : ℕ) → length bytes < 2 ^ 63 → i ≤ length bytes → length bytes ≤ i + 64
    → tail ≡ drop i bytes → Marks (is_byte byte) tail m → Looked byte bytes i (record { base = i; mask = m; end = length bytes })
Looked-tail byte bytes tail i m short within near here marks =
    let all : places_from byte bytes i ≡ marked i m ++ places_from byte bytes (length bytes) =
    places_from-tail byte bytes i m within near (rw here at marks) in
    let past : places_from byte bytes (length bytes) ≡ [] = places_from-past byte bytes (length bytes) (omega arith) in
    record {
      all = sym all;
      ended = λ e. all ∙ ap (λ ps. ps ++ places_from byte bytes (length bytes)) e ∙ past;
      small = omega arith;
      within = λ _. omega arith;
    }

-- past a part that has no place
pub Looked-along : (byte : ℕ) (bytes : List ℕ) (from i : ℕ) (block : Block) → i ≤ length bytes → places_from byte bytes i ≡ places_from byte bytes from
    → Looked byte bytes i block → Looked byte bytes from block
Looked-along byte bytes from i block within same looked = record {
  all = looked.all ∙ same;
  ended = λ e. sym same ∙ looked.ended e;
  small = looked.small;
  within = λ _. looked.within within;
}
