-- The name of an object.
use Rattle.std.proofs.Common.{◌≡◌, ℕ, ◌<◌, ◌&&◌, nat_lt, Bool, true, false, List, length, Ok, Err, Result, refl, arith, if◌then◌else◌}
use Rattle.std.proofs.lemmas.Bool.Decides.{nat_tests}
use Rattle.std.proofs.lemmas.Str.{is_utf8-from_IsUtf8, IsUtf8-from_is_utf8}
use Rattle.std.specs.Str.{IsUtf8, is_utf8}
use Rattle.http_intake.specs.Targets.{named}
use Rattle.http_intake.specs.declared.refusal.Refusal.{Refusal}
use Rattle.http_intake.specs.declared.refusal.Refusal.TheVariants.{BadTarget}

pub named_text : (bytes : List ℕ) → IsUtf8 bytes → 0 < length bytes → named bytes ≡ Ok bytes
named_text bytes utf8 some =
    let text : is_utf8 bytes ≡ true = is_utf8-from_IsUtf8 bytes utf8 in
    let long : nat_lt 0 (length bytes) ≡ true = grind (arith, nat_tests) in
    rw (text, long) refl

abbrev nameless : Result (List ℕ) Refusal
nameless = Err BadTarget

pub named_no_text : (bytes : List ℕ) → ¬ (IsUtf8 bytes) → named bytes ≡ Err BadTarget
named_no_text bytes bad = by_test (is_utf8 bytes) (λ e. bad (IsUtf8-from_is_utf8 bytes e))
  where
    by_test : (t : Bool) → ¬ (t ≡ true) → (if t && nat_lt 0 (length bytes) then Ok bytes else Err BadTarget) ≡ nameless
    by_test true h = absurd (h refl)
    by_test false h = refl
