-- The first object of a name.
use Rattle.std.proofs.Common.{◌≡◌, ℕ, suc, ◌<◌, List, ◌∷◌, Some, true, length, drop, get_or, refl, sym, ap, ◌∙◌}
use Rattle.std.proofs.Math.Seq.{drop-cons}
use Rattle.std.proofs.lemmas.Option.{slice_get_read}
use Rattle.std.specs.Str.{bytes_eq}
use Rattle.select_ports.specs.Memory.{NamedBytes, IsFirst, first_of}

-- the head of a list is the first of its own name
head_first : (object : NamedBytes) (objects : List NamedBytes) (name : List ℕ) → bytes_eq object.name name ≡ true
    → first_of (object ∷ objects) name ≡ Some object.bytes
head_first object objects name same = rw same refl

-- none before it has the name
pub found_first : (objects : List NamedBytes) (name : List ℕ) (i : ℕ) (object : NamedBytes) → i < length objects
    → object ≡ get_or objects i object → first_of objects name ≡ first_of (drop i objects) name → bytes_eq object.name name ≡ true
    → IsFirst objects name i
found_first objects name i object within is passed same =
    let split : drop i objects ≡ object ∷ drop (suc i) objects =
    drop-cons objects i object within ∙ ap (λ o. o ∷ drop (suc i) objects) (sym is) in record {
      object = object;
      here = slice_get_read objects (length objects) i object refl within is;
      bytes = passed ∙ ap (λ os. first_of os name) split ∙ head_first object (drop (suc i) objects) name same;
    }
