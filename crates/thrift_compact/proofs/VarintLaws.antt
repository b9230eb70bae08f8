-- What `varint_at` answers is what the bytes spell, both ways.
use Rattle.std.proofs.Common.{◌≡◌, ℕ, suc, ◌+◌, ◌%◌, ◌<◌, ◌≤◌, Bool, true, false, not, cond, nat_lt, nat_le, List, [], ◌∷◌, ◌++◌, length, take, Some, None, Result, Ok, Err, refl, ap, sym, arith, add-one}
use Rattle.std.specs.List.{position_or_len, AllByRecursion}
use Rattle.std.proofs.lemmas.Bool.{ltb-true, ltb-false, le-ltb, lt-ltb, leb-false, lt-leb}
use Rattle.std.proofs.lemmas.List.{length-append, take_at}
use Rattle.thrift_compact.specs.declared.faults.ThriftFault.{ThriftFault}
use Rattle.thrift_compact.specs.Varints.{IsBytes, print_varint, varint_number, is_last, low_groups, varint_to, varint_at}
use Rattle.thrift_compact.specs.Grammar.{SpellsVarint}

-- where the first last byte stands
abbrev place : List ℕ → ℕ
place bytes = position_or_len is_last bytes

-- the bytes of a varint of n groups
pub record IsText (n : ℕ) (text : List ℕ) : Type 0 where
  pub printed : print_varint (low_groups text) ≡ text
  pub bits : AllByRecursion (λ g. g < 128) (low_groups text)
  pub groups : length (low_groups text) ≡ n
  pub len : length text ≡ n

low_bits : (b : ℕ) → b < 128 → b % 128 ≡ b
low_bits b h = omega arith

high_bit : (b : ℕ) → 128 ≤ b → b < 256 → 128 + b % 128 ≡ b
high_bit b h k = omega arith

more_text : (b n : ℕ) (text : List ℕ) → 128 ≤ b → b < 256 → 0 < n → IsText n text → IsText (suc n) (b ∷ text)
more_text b n [] h k some t = absurd (omega (arith, t.len))
more_text b n (c ∷ text) h k some t = record {
  printed = let e = high_bit b h k in rw (e, t.printed) refl;
  bits = (omega arith, t.bits);
  groups = omega (arith, t.groups);
  len = omega (arith, t.len);
}

pub text_found : (bytes : List ℕ) → IsBytes bytes → place bytes < length bytes → IsText (suc (place bytes)) (take (suc (place bytes)) bytes)
text_found [] fits inside = absurd (omega arith)
text_found (b ∷ bytes) fits inside = go (nat_lt b 128) refl inside (text_found bytes (λ i. fits (suc i)))
  where
    go : (t : Bool) → nat_lt b 128 ≡ t → cond (not t) (1 + place bytes) 0 < suc (length bytes) → (place bytes < length bytes → IsText (suc (place bytes)) (take (suc (place bytes)) bytes)) → IsText (suc (cond (not t) (1 + place bytes) 0)) (take (suc (cond (not t) (1 + place bytes) 0)) (b ∷ bytes))
    go true e within ih =
        let low = low_bits b (ltb-true b 128 e) in
        record { printed = rw low refl; bits = (omega arith, tt); groups = omega arith; len = omega arith }
    go false e within ih =
        let one : 1 + place bytes ≡ suc (place bytes) = omega arith in
        rw one (more_text b (suc (place bytes)) (take (suc (place bytes)) bytes) (ltb-false b 128 e) (fits 0) (omega arith) (ih (omega arith)))

place_print : (groups rest : List ℕ) → 0 < length groups → AllByRecursion (λ g. g < 128) groups → suc (place (print_varint groups ++ rest)) ≡ length groups
place_print [] rest some bits = absurd (omega arith)
place_print (g ∷ []) rest some bits = let e = lt-ltb g 128 bits.0 in rw e refl
place_print (g ∷ h ∷ groups) rest some bits =
    let above : 128 ≤ 128 + g = omega arith in
    let e = le-ltb (128 + g) 128 above in
    rw e (omega (arith, place_print (h ∷ groups) rest (omega arith) bits.1))

pub length-print_varint : (groups : List ℕ) → length (print_varint groups) ≡ length groups
length-print_varint [] = refl
length-print_varint (g ∷ []) = refl
length-print_varint (g ∷ h ∷ groups) = omega (arith, length-print_varint (h ∷ groups))

low_groups-print : (groups : List ℕ) → AllByRecursion (λ g. g < 128) groups → low_groups (print_varint groups) ≡ groups
low_groups-print [] bits = refl
low_groups-print (g ∷ []) bits = let e = low_bits g bits.0 in rw e refl
low_groups-print (g ∷ h ∷ groups) bits =
    let b : g < 128 = bits.0 in
    let e : (128 + g) % 128 ≡ g = omega arith in
    rw (e, low_groups-print (h ∷ groups) bits.1) refl

-- behind a test that fails stands what an Ok came from
pub guard_ok : {X : Type 0} (b : Bool) (f : ThriftFault) (x : Result X ThriftFault) (y : X) → cond b (Err f) x ≡ Ok y → (b ≡ false) × (x ≡ Ok y)
guard_ok true f x y e = absurd cc
guard_ok false f x y e = (refl, e)

pub ok_same : {X : Type 0} {r : Result X ThriftFault} (x y : X) → r ≡ Ok x → r ≡ Ok y → x ≡ y
ok_same x y d e = cc

-- a varint that is read is spelled
pub varint_found : (limit : ℕ) (bytes : List ℕ) (n taken : ℕ) → IsBytes bytes → varint_at limit bytes ≡ Ok (n, taken) → SpellsVarint limit n (take taken bytes)
unfolding varint_at
varint_found limit bytes n taken fits e = go (nat_lt (place bytes) (length bytes)) refl e
  where
    go : (t : Bool) → nat_lt (place bytes) (length bytes) ≡ t → varint_to limit bytes (cond t (Some (place bytes)) None) ≡ Ok (n, taken) → SpellsVarint limit n (take taken bytes)
    go false inside e = absurd cc
    go true inside e =
        let ten = guard_ok _ _ _ _ e in
        let within = guard_ok _ _ _ _ ten.1 in
        let same = ok_same _ _ refl within.1 in
        let number : varint_number (low_groups (take (place bytes + 1) bytes)) ≡ n = ap (λ p. p.0) same in
        let len : place bytes + 1 ≡ taken = ap (λ p. p.1) same in
        rw (← number, ← len, add-one) (built (ltb-true _ _ inside) (leb-false _ _ ten.0) (rw add-one at (ltb-false _ _ within.0)))
      where
        built : place bytes < length bytes → place bytes < 10 → varint_number (low_groups (take (suc (place bytes)) bytes)) ≤ limit → SpellsVarint limit (varint_number (low_groups (take (suc (place bytes)) bytes))) (take (suc (place bytes)) bytes)
        built inside small low =
            let t = text_found bytes fits inside in
            record {
              groups = low_groups (take (suc (place bytes)) bytes);
              valid = record { some = omega (arith, t.groups); ten = omega (arith, t.groups); seven_bits = t.bits; within = low };
              number = refl;
              text_is = sym t.printed;
            }

-- a varint that is spelled is read
pub varint_only : (limit : ℕ) (n : ℕ) (text rest : List ℕ) → SpellsVarint limit n text → varint_at limit (text ++ rest) ≡ Ok (n, length text)
unfolding varint_at
varint_only limit n text rest s =
    let at : suc (place (print_varint s.groups ++ rest)) ≡ length s.groups = place_print s.groups rest s.valid.some s.valid.seven_bits in
    let len = length-print_varint s.groups in
    let inside : nat_lt (place (print_varint s.groups ++ rest)) (length (print_varint s.groups ++ rest)) ≡ true = lt-ltb _ _ (omega (arith, at, len, length-append (print_varint s.groups) rest)) in
    let small : nat_le 10 (place (print_varint s.groups ++ rest)) ≡ false = lt-leb _ _ (omega (arith, at, s.valid.ten)) in
    let front : take (place (print_varint s.groups ++ rest) + 1) (print_varint s.groups ++ rest) ≡ print_varint s.groups = take_at _ _ _ (omega (arith, at, len)) in
    let low : nat_lt limit (varint_number s.groups) ≡ false = le-ltb _ _ s.valid.within in
    let taken : place (print_varint s.groups ++ rest) + 1 ≡ length (print_varint s.groups) = omega (arith, at, len) in
    rw (s.text_is, s.number, inside, small, front, low_groups-print s.groups s.valid.seven_bits, low, taken) refl
