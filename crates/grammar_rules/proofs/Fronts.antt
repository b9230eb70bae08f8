-- The first element of a list.
use Rattle.std.proofs.Common.{◌≡◌, List, [], ◌∷◌, drop, slice_get, Some}

pub first_is : {T : Type 0} (ts : List T) (t : T) → slice_get ts 0 ≡ Some t → ts ≡ t ∷ drop 1 ts
first_is [] t e = cc
first_is (u ∷ ts) t e = cc
