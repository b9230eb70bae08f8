-- The open brackets in bits.
use Rattle.std.proofs.Common.{◌≡◌, ℕ, zero, suc, ◌/◌, ◌<◌, Bool, true, nat_lt, List, length, refl, sym, ◌∙◌, ap, arith}
use Rattle.std.proofs.lemmas.Bool.Decides.{nat_tests}
use Rattle.json_text.specs.Machine.{nest_of}
use Rattle.json_text.specs.Texts.{levels}

length-nest_of : (bits depth : ℕ) → length (nest_of bits depth) ≡ depth
length-nest_of bits zero = refl
length-nest_of bits (suc depth) = ap suc (length-nest_of (bits / 2) depth)

below : (n : ℕ) → n < 64 → nat_lt n levels ≡ true
below n h = grind (arith, nat_tests)

pub has_room : (bits depth : ℕ) (nest : List Bool) → nest_of bits depth ≡ nest → depth < 64 → true ≡ nat_lt (length nest) levels
has_room bits depth nest e h =
    sym (ap (λ n. nat_lt (length n) levels) (sym e) ∙ ap (λ k. nat_lt k levels) (length-nest_of bits depth) ∙ below depth h)
