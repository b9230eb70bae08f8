-- A character's bytes are that character.
use Rattle.std.proofs.Common.{◌≡◌, ℕ, ◌+◌, ◌-◌, ◌*◌, ◌/◌, ◌%◌, ◌<◌, nat_lt, Bool, true, false, [], ◌∷◌, refl, sym, ap, ◌∙◌, arith, cond}
use Rattle.std.specs.Char.{encode_utf8}
use Rattle.std.proofs.lemmas.Nat.{div-add-mod'}
use Rattle.std.proofs.Math.Nat.{div-div-eq-div-mul}
use Rattle.std.specs.Str.{chars}
use Rattle.std.proofs.lemmas.Bool.{ltb-true, lt-ltb}
use Rattle.std.proofs.lemmas.Bool.Decides.{nat_tests}

low_test : (b k : ℕ) → b < k → nat_lt b k ≡ true
low_test b k l = lt-ltb b k l

high_test : (b k : ℕ) → (b < k → ⊥) → nat_lt b k ≡ false
high_test b k l = grind (arith, nat_tests)

one : (b : ℕ) → b < 128 → chars (b ∷ []) ≡ b ∷ []
unfolding chars
one b l = let t = low_test b 128 l in rw t refl

two : (b x c : ℕ) → (b < 128 → ⊥) → b < 224 → (b - 192) * 64 + (x - 128) ≡ c → chars (b ∷ x ∷ []) ≡ c ∷ []
unfolding chars
two b x c l m e = let t = high_test b 128 l in let u = low_test b 224 m in rw (t, u) (ap (λ n. n ∷ []) e)

three : (b x y c : ℕ) → (b < 224 → ⊥) → b < 240 → ((b - 224) * 64 + (x - 128)) * 64 + (y - 128) ≡ c → chars (b ∷ x ∷ y ∷ []) ≡ c ∷ []
unfolding chars
three b x y c l m e = let t = high_test b 128 (λ h. l (omega arith)) in let u = high_test b 224 l in let v = low_test b 240 m in rw (t, u, v) (ap (λ n. n ∷ []) e)

four : (b x y z c : ℕ) → (b < 240 → ⊥) → (((b - 240) * 64 + (x - 128)) * 64 + (y - 128)) * 64 + (z - 128) ≡ c → chars (b ∷ x ∷ y ∷ z ∷ []) ≡ c ∷ []
unfolding chars
four b x y z c l e = let t = high_test b 128 (λ h. l (omega arith)) in let u = high_test b 224 (λ h. l (omega arith)) in let v = high_test b 240 l in rw (t, u, v) (ap (λ n. n ∷ []) e)

below : (c k : ℕ) → nat_lt c k ≡ true → c < k
below c k e = ltb-true c k e

minus : (k n : ℕ) → k + n - k ≡ n
minus k n = omega arith

split : (c : ℕ) → c / 64 * 64 + c % 64 ≡ c
split c = div-add-mod' c 64

in_three : (c : ℕ) → c < 65536 → (224 + c / 4096 < 240)
in_three c l = let d = div-add-mod' c 4096 in omega (arith, d)

in_two : (c : ℕ) → c < 2048 → (192 + c / 64 < 224)
in_two c l = omega (arith, split c)

again_four : (c a b : ℕ) → a ≡ c / 64 → b ≡ c / 4096 → c / 4096 ≡ a / 64 → c / 262144 ≡ b / 64 → (((240 + c / 262144 - 240) * 64 + (128 + b % 64 - 128)) * 64 + (128 + a % 64 - 128)) * 64 + (128 + c % 64 - 128) ≡ c
again_four c a b e f g h =
    let x : 240 + c / 262144 - 240 ≡ b / 64 = minus 240 (c / 262144) ∙ h in
    let y : 128 + b % 64 - 128 ≡ b % 64 = minus 128 (b % 64) in
    let z : 128 + a % 64 - 128 ≡ a % 64 = minus 128 (a % 64) in
    let w : 128 + c % 64 - 128 ≡ c % 64 = minus 128 (c % 64) in
    let sb : b / 64 * 64 + b % 64 ≡ b = split b in
    let ba : b ≡ a / 64 = f ∙ g in
    let sa : b * 64 + a % 64 ≡ a = ap (λ n. n * 64 + a % 64) ba ∙ split a in
    let sc : a * 64 + c % 64 ≡ c = ap (λ n. n * 64 + c % 64) e ∙ split c in
    rw (x, y, z, w, sb, sa) sc

again_three : (c a : ℕ) → a ≡ c / 64 → c / 4096 ≡ a / 64 → ((224 + c / 4096 - 224) * 64 + (128 + a % 64 - 128)) * 64 + (128 + c % 64 - 128) ≡ c
again_three c a e g =
    let x : 224 + c / 4096 - 224 ≡ a / 64 = minus 224 (c / 4096) ∙ g in
    let z : 128 + a % 64 - 128 ≡ a % 64 = minus 128 (a % 64) in
    let w : 128 + c % 64 - 128 ≡ c % 64 = minus 128 (c % 64) in
    let sc : a * 64 + c % 64 ≡ c = ap (λ n. n * 64 + c % 64) e ∙ split c in
    rw (x, z, w, split a) sc

again_two : (c : ℕ) → (192 + c / 64 - 192) * 64 + (128 + c % 64 - 128) ≡ c
again_two c =
    let x : 192 + c / 64 - 192 ≡ c / 64 = minus 192 (c / 64) in
    let w : 128 + c % 64 - 128 ≡ c % 64 = minus 128 (c % 64) in
    rw (x, w) (split c)

by_64 : (c : ℕ) → c / 4096 ≡ c / 64 / 64
by_64 c = sym (div-div-eq-div-mul c 64 64)

by_4096 : (c : ℕ) → c / 262144 ≡ c / 4096 / 64
by_4096 c = sym (div-div-eq-div-mul c 4096 64)

-- whatever number the character has
pub char_again : (c : ℕ) → chars (encode_utf8 c) ≡ c ∷ []
unfolding encode_utf8
char_again c =
    let OneByte : Bool → Type 0 = λ t. nat_lt c 128 ≡ t → chars (cond t (c ∷ []) (cond (nat_lt c 2048) ((192 + c / 64) ∷ (128 + c % 64) ∷ []) (cond (nat_lt c 65536) ((224 + c / 4096) ∷ (128 + c / 64 % 64) ∷ (128 + c % 64) ∷ []) ((240 + c / 262144) ∷ (128 + c / 4096 % 64) ∷ (128 + c / 64 % 64) ∷ (128 + c % 64) ∷ [])))) ≡ c ∷ [] in
    let TwoBytes : Bool → Type 0 = λ t. nat_lt c 2048 ≡ t → chars (cond t ((192 + c / 64) ∷ (128 + c % 64) ∷ []) (cond (nat_lt c 65536) ((224 + c / 4096) ∷ (128 + c / 64 % 64) ∷ (128 + c % 64) ∷ []) ((240 + c / 262144) ∷ (128 + c / 4096 % 64) ∷ (128 + c / 64 % 64) ∷ (128 + c % 64) ∷ []))) ≡ c ∷ [] in
    let ThreeBytes : Bool → Type 0 = λ t. nat_lt c 65536 ≡ t → chars (cond t ((224 + c / 4096) ∷ (128 + c / 64 % 64) ∷ (128 + c % 64) ∷ []) ((240 + c / 262144) ∷ (128 + c / 4096 % 64) ∷ (128 + c / 64 % 64) ∷ (128 + c % 64) ∷ [])) ≡ c ∷ [] in
    (elim (nat_lt c 128) as OneByte [
      | true ↦ λ t. one c (below c 128 t)
      | false ↦ λ t. (elim (nat_lt c 2048) as TwoBytes [
        | true ↦ λ u. two (192 + c / 64) (128 + c % 64) c (omega arith) (in_two c (below c 2048 u)) (again_two c)
        | false ↦ λ u. (elim (nat_lt c 65536) as ThreeBytes [
          | true ↦ λ v. three (224 + c / 4096) (128 + c / 64 % 64) (128 + c % 64) c (omega arith) (in_three c (below c 65536 v)) (again_three c (c / 64) refl (by_64 c))
          | false ↦ λ v. four (240 + c / 262144) (128 + c / 4096 % 64) (128 + c / 64 % 64) (128 + c % 64) c (omega arith) (again_four c (c / 64) (c / 4096) refl refl (by_64 c) (by_4096 c))
        ]) refl
      ]) refl
    ]) refl
