-- The steps of reading.
use Rattle.std.proofs.Common.{◌≡◌, ℕ, zero, suc, ◌+◌, ◌-◌, ◌*◌, ◌^◌, ◌<◌, ◌≤◌, true, false, List, [], ◌∷◌, length, get_or, take, drop, None, refl, sym, arith, ℤ, mul-le-mul_right}
use Rattle.std.specs.Char.{is_ascii_digit, digit_value}
use Rattle.std.proofs.lemmas.Bool.Decides.{nat_tests}
use Rattle.std.proofs.lemmas.List.{take_all}
use Rattle.std.proofs.Math.Nat.{pow-succ'}
use Rattle.sql_timestamp.specs.Reading.{at_end, read_zone, read_fraction}

pub ends_kept : (day day' o o' : ℤ) (s f : ℕ) (cs : List ℕ) → day' ≡ day → o' ≡ o → at_end day' s f o' cs ≡ at_end day s f o cs
ends_kept day day' o o' s f cs e g = rw (e, g) refl

pub fraction_more : (day : ℤ) (s f p c : ℕ) (cs : List ℕ) → 0 < p → is_ascii_digit c ≡ true
    → read_fraction day s f p (c ∷ cs) ≡ read_fraction day s (f + digit_value c * 10 ^ (p - 1)) (p - 1) cs
unfolding read_fraction
fraction_more day s f zero c cs some t = absurd (omega arith)
fraction_more day s f (suc k) c cs some t = let e : suc k - 1 ≡ k = omega arith in rw (t, e) refl

pub fraction_zone : (day : ℤ) (s f p c : ℕ) (cs : List ℕ) → 0 < p → is_ascii_digit c ≡ false → read_fraction day s f p (c ∷ cs) ≡ read_zone day s f (c ∷ cs)
unfolding read_fraction
fraction_zone day s f zero c cs some t = absurd (omega arith)
fraction_zone day s f (suc k) c cs some t = rw t refl

pub fraction_none : (day : ℤ) (s f p : ℕ) (cs : List ℕ) → 0 < p → length cs < 1 → read_fraction day s f p cs ≡ None
unfolding read_fraction
fraction_none day s f zero cs some e = absurd (omega arith)
fraction_none day s f (suc k) [] some e = refl
fraction_none day s f (suc k) (c ∷ cs) some e = absurd (omega arith)

pub some_power : (p : ℕ) → 1 ≤ 10 ^ p
some_power zero = omega arith
some_power (suc p) = let power = pow-succ' 10 p in let more = some_power p in omega arith

pub fraction_end : (day : ℤ) (s f p : ℕ) (cs : List ℕ) → p ≡ 0 → read_fraction day s f p cs ≡ read_zone day s f cs
unfolding read_fraction
fraction_end day s f zero cs e = refl
fraction_end day s f (suc p) cs e = absurd (omega arith)

-- a digit leaves room for those that may follow
pub room : (d p : ℕ) → d ≤ 9 → d * 10 ^ p + 10 ^ p ≤ 10 ^ (p + 1)
room d p h =
    let e : p + 1 ≡ suc p = omega arith in
    let power = pow-succ' 10 p in
    let most : d * 10 ^ p ≤ 9 * 10 ^ p = mul-le-mul_right (10 ^ p) h in
    rw e (omega arith)

pub digit_most : (d : ℕ) → is_ascii_digit d ≡ true → d - 48 ≤ 9
digit_most d t = grind (arith, nat_tests)

pub fraction_taken : (day : ℤ) (s f p v : ℕ) (rest : List ℕ) → 0 < p → 1 ≤ length rest → is_ascii_digit (get_or rest 0 0) ≡ true → v ≡ digit_value (get_or rest 0 0) * 10 ^ (p - 1)
    → read_fraction day s (f + v) (p - 1) (take (length rest - 1) (drop 1 rest)) ≡ read_fraction day s f p rest
fraction_taken day s f p v [] some long t e = absurd (omega arith)
fraction_taken day s f p v (c ∷ cs) some long t e =
    let n : length (c ∷ cs) - 1 ≡ length cs = omega arith in
    rw (n, take_all (length cs) cs (omega arith), e) (sym (fraction_more day s f p c cs some t))
