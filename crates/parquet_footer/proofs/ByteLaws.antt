-- The test of a text.
use Rattle.std.proofs.Common.{◌≡◌, ◌↔◌, ℕ, IsTrue, IsUtf8, Bool, true, false, List, refl, sym}
use Rattle.std.specs.Str.{is_utf8}
use Rattle.std.proofs.lemmas.Str.{IsUtf8-from_is_utf8, is_utf8-from_IsUtf8}

not_text : (bs : List ℕ) (t : Bool) → is_utf8 bs ≡ t → (IsUtf8 bs → ⊥) → false ≡ t
not_text bs true e none = absurd (none (IsUtf8-from_is_utf8 bs e))
not_text bs false e none = refl

pub test_is_utf8 : (test : Bool) (bs : List ℕ) → IsTrue test ↔ IsUtf8 bs → test ≡ is_utf8 bs
test_is_utf8 true bs says = sym (is_utf8-from_IsUtf8 bs (says.0 refl))
test_is_utf8 false bs says = not_text bs (is_utf8 bs) refl (λ text. (cc (says.1 text)))
