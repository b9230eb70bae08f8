-- LIKE as a test, and the character that TRIM takes off.
use Rattle.std.proofs.Common.{◌≡◌, ℕ, zero, suc, ◌<◌, get_or, true, arith, List, [], ◌∷◌, Bool, IsTrue, ◌↔◌, refl}
use Rattle.std.specs.Str.{chars}
use Rattle.std.proofs.lemmas.Str.{chars-IsAscii}
use Rattle.text_view.specs.declared.like.Part.{Part}
use Rattle.text_view.specs.LikePattern.{Matches}
use Rattle.text_view.specs.Finding.{like}
use Rattle.text_view.proofs.Likes.{like_decides, same_bool}

-- what tells whether the text matches is the test
pub like_is : (parts : List Part) (cs : List ℕ) (b : Bool) → (IsTrue b ↔ Matches parts cs) → b ≡ like parts cs
like_is parts cs b h =
    let tells = like_decides parts cs (like parts cs) refl in
    same_bool b (like parts cs) (λ e. tells.1 (h.0 e)) (λ e. h.1 (tells.0 e))

-- the same as a law
pub like_tells : (parts : List Part) (cs : List ℕ) → (like parts cs ≡ true) ↔ Matches parts cs
like_tells parts cs = like_decides parts cs (like parts cs) refl

space_ascii : (i : ℕ) → get_or (32 ∷ []) i 0 < 128
space_ascii zero = omega arith
space_ascii (suc i) = omega arith

pub space_chars : chars (32 ∷ []) ≡ 32 ∷ []
space_chars = chars-IsAscii (32 ∷ []) space_ascii
