-- What an item's reading answers is what the bytes spell, both ways.
use Rattle.std.proofs.Common.{◌≡◌, ℕ, suc, ◌+◌, ◌-◌, ◌*◌, ◌/◌, ◌%◌, ◌^◌, ◌<◌, ◌≤◌, ◌≢◌, inl, inr, ℤ, pos, ◌+ℤ◌, T, Bool, true, false, not, cond, nat_eq, nat_lt, List, [], ◌∷◌, ◌++◌, length, drop, take, Option, Some, None, Result, Ok, Err, refl, ap, sym, ◌∙◌, subst, arith, add-one, append_assoc}
use Rattle.std.specs.Prelude.{int_lt}
use Rattle.std.specs.Int.{cast_signed, w8}
use Rattle.std.proofs.lemmas.Bool.{ltb-false, le-ltb}
use Rattle.std.proofs.lemmas.Bool.Decides.{nat_tests}
use Rattle.std.proofs.lemmas.List.{length-append, length-take-le, take_at, drop_at}
use Rattle.std.proofs.Math.Seq.{take-add}
use Rattle.std.specs.Int.Signed.{lt_z_no, lt_z, ◌≤ℤ◌}
use Rattle.thrift_compact.specs.declared.faults.ThriftFault.{ThriftFault}
use Rattle.thrift_compact.specs.declared.kinds.Kind.{Kind}
use Rattle.thrift_compact.specs.declared.kinds.Kind.TheVariants as kind
use Rattle.thrift_compact.specs.Codes.{kind_code, kind_of}
use Rattle.thrift_compact.specs.Varints.{varint_at, zigzag}
use Rattle.thrift_compact.specs.Items.{then_read, byte_at, signed_at, number_at, number_after, field_of, header_at, list_of, list_header_at, map_of, map_kinds_at, map_header_at, byte_list_at, largest_size}
use Rattle.thrift_compact.specs.Grammar.{SpellsVarint, SpellsSigned, SpellsByte, SpellsNumber, IsShortHeader, IsLongHeader, SpellsHeader, IsLongList, SpellsListHeader, IsMapHeader, SpellsMapHeader, SpellsByteList}
use Rattle.thrift_compact.specs.Varints.{IsBytes}
use Rattle.thrift_compact.proofs.VarintLaws.{guard_ok, ok_same, varint_found, varint_only}

-- what an Ok behind a reading came from
pub then_ok : {A B : Type 0} (r : Result A ThriftFault) (next : A → Result B ThriftFault) (y : B) → then_read r next ≡ Ok y → (x : A) × (r ≡ Ok x) × (next x ≡ Ok y)
then_ok (Ok x) next y e = (x, refl, e)
then_ok (Err f) next y e = absurd cc

-- the kind of a code, one at a time
one_kind : (c : ℕ) (k k' : Kind) (rest : Option Kind) → (rest ≡ Some k → c ≡ kind_code k) → cond (nat_eq c (kind_code k')) (Some k') rest ≡ Some k → c ≡ kind_code k
one_kind c k k' rest more e = go (nat_eq c (kind_code k')) refl e
  where
    go : (t : Bool) → nat_eq c (kind_code k') ≡ t → cond t (Some k') rest ≡ Some k → c ≡ kind_code k
    go true h e = let same : k' ≡ k = cc in let P : Kind → Type 0 = λ x. c ≡ kind_code x in subst P same (grind arith)
    go false h e = more e

pub kind_found : (c : ℕ) (k : Kind) → kind_of c ≡ Some k → c ≡ kind_code k
kind_found c k e =
    one_kind c k kind.True _ (one_kind c k kind.False _ (one_kind c k kind.I8 _ (one_kind c k kind.I16 _ (one_kind c k kind.I32 _ (one_kind c k kind.I64 _ (one_kind c k kind.Double _ (one_kind c k kind.Binary _ (one_kind c k kind.List _ (one_kind c k kind.Set _ (one_kind c k kind.Map _ (one_kind c k kind.Struct _ (λ e. absurd cc)))))))))))) e

pub kind_only : (k : Kind) → kind_of (kind_code k) ≡ Some k
kind_only kind.True = refl
kind_only kind.False = refl
kind_only kind.I8 = refl
kind_only kind.I16 = refl
kind_only kind.I32 = refl
kind_only kind.I64 = refl
kind_only kind.Double = refl
kind_only kind.Binary = refl
kind_only kind.List = refl
kind_only kind.Set = refl
kind_only kind.Map = refl
kind_only kind.Struct = refl

-- a code is 1 to 12
pub kind_bounds : (k : Kind) → (0 < kind_code k) × (kind_code k < 13)
kind_bounds kind.True = (omega arith, omega arith)
kind_bounds kind.False = (omega arith, omega arith)
kind_bounds kind.I8 = (omega arith, omega arith)
kind_bounds kind.I16 = (omega arith, omega arith)
kind_bounds kind.I32 = (omega arith, omega arith)
kind_bounds kind.I64 = (omega arith, omega arith)
kind_bounds kind.Double = (omega arith, omega arith)
kind_bounds kind.Binary = (omega arith, omega arith)
kind_bounds kind.List = (omega arith, omega arith)
kind_bounds kind.Set = (omega arith, omega arith)
kind_bounds kind.Map = (omega arith, omega arith)
kind_bounds kind.Struct = (omega arith, omega arith)

signed_built : (limit : ℕ) (bytes : List ℕ) (z : ℤ) (taken n k : ℕ) → IsBytes bytes → varint_at limit bytes ≡ Ok (n, k) → zigzag n ≡ z → k ≡ taken → SpellsSigned limit z (take taken bytes)
signed_built limit bytes z taken n k fits e number len =
    rw (← number, ← len) (record { unsigned = n; varint = varint_found limit bytes n k fits e; number = refl })

pub signed_found : (limit : ℕ) (bytes : List ℕ) (z : ℤ) (taken : ℕ) → IsBytes bytes → signed_at limit bytes ≡ Ok (z, taken) → SpellsSigned limit z (take taken bytes)
signed_found limit bytes z taken fits e =
    let r = then_ok (varint_at limit bytes) _ _ e in
    let same = ok_same _ _ refl r.2 in
    signed_built limit bytes z taken r.0.0 r.0.1 fits r.1 (ap (λ p. p.0) same) (ap (λ p. p.1) same)

pub signed_only : (limit : ℕ) (z : ℤ) (text rest : List ℕ) → SpellsSigned limit z text → signed_at limit (text ++ rest) ≡ Ok (z, length text)
signed_only limit z text rest s =
    rw (varint_only limit s.unsigned text rest s.varint, s.number) refl

byte_found : (bytes : List ℕ) (z : ℤ) (taken : ℕ) → IsBytes bytes → then_read {A = ℕ × ℕ} {B = ℤ × ℕ} (byte_at bytes) (λ b. Ok (cast_signed w8 b.0, b.1)) ≡ Ok (z, taken) → SpellsByte z (take taken bytes)
byte_found [] z taken fits e = absurd cc
byte_found (b ∷ bytes) z taken fits e =
    let same = ok_same _ _ refl e in
    let number : cast_signed w8 b ≡ z = ap (λ p. p.0) same in
    let len : 1 ≡ taken = ap (λ p. p.1) same in
    rw (← number, ← len) (record { byte = b; fits = fits 0; number = refl; text_is = refl })

pub number_found : (k : Kind) (bytes : List ℕ) (z : ℤ) (taken : ℕ) → IsBytes bytes → number_at k bytes ≡ Ok (z, taken) → SpellsNumber k z (take taken bytes)
unfolding number_at
number_found kind.I8 bytes z taken fits e = byte_found bytes z taken fits e
number_found kind.I16 bytes z taken fits e = signed_found _ bytes z taken fits e
number_found kind.I32 bytes z taken fits e = signed_found _ bytes z taken fits e
number_found kind.I64 bytes z taken fits e = signed_found _ bytes z taken fits e
number_found _ bytes z taken fits e = absurd cc

pub number_only : (k : Kind) (z : ℤ) (text rest : List ℕ) → SpellsNumber k z text → number_at k (text ++ rest) ≡ Ok (z, length text)
unfolding number_at
number_only kind.I8 z text rest s = rw (s.text_is, s.number) refl
number_only kind.I16 z text rest s = signed_only _ z text rest s
number_only kind.I32 z text rest s = signed_only _ z text rest s
number_only kind.I64 z text rest s = signed_only _ z text rest s
number_only _ z text rest s = absurd s

-- the code of a kind beside a number of four high bits
pub high : (d : ℕ) (k : Kind) → (d * 16 + kind_code k) / 16 ≡ d
high d k = omega (arith, kind_bounds k)

pub low : (d : ℕ) (k : Kind) → (d * 16 + kind_code k) % 16 ≡ kind_code k
low d k = omega (arith, kind_bounds k)

pub joined : (b : ℕ) → b / 16 * 16 + b % 16 ≡ b
joined b = omega arith

-- a listed kind
list_built : (size taken : ℕ) (c : ℕ) (o : Option Kind) (x : Kind × ℕ) (n : ℕ) → kind_of c ≡ o → list_of size taken o ≡ Ok (x, n) → (c ≡ kind_code x.0) × (size ≡ x.1) × (taken ≡ n)
list_built size taken c None x n k e = absurd cc
list_built size taken c (Some k') x n k e =
    let same = ok_same _ _ refl e in
    let kind_is : k' ≡ x.0 = ap (λ p. p.0.0) same in
    (kind_found c x.0 (k ∙ ap (λ v. Some v) kind_is), ap (λ p. p.0.1) same, ap (λ p. p.1) same)

pub list_header_found : (bytes : List ℕ) (x : Kind × ℕ) (taken : ℕ) → IsBytes bytes → list_header_at bytes ≡ Ok (x, taken) → SpellsListHeader x (take taken bytes)
unfolding list_header_at
list_header_found [] x taken fits e = absurd cc
list_header_found (b ∷ bytes) x taken fits e = go (nat_eq (b / 16) 15) refl e
  where
    long : (n k : ℕ) → b / 16 ≡ 15 → varint_at largest_size bytes ≡ Ok (n, k) → list_of n (k + 1) (kind_of (b % 16)) ≡ Ok (x, taken) → IsLongList x.0 x.1 (take taken (b ∷ bytes))
    long n k first v e =
        let l = list_built n (k + 1) (b % 16) (kind_of (b % 16)) x taken refl e in
        let len : taken ≡ suc k = omega (arith, l.2) in
        let byte : b ≡ 15 * 16 + kind_code x.0 = omega (arith, l.0, first, joined b) in
        rw len (record { tail = take k bytes; spelled = rw (← l.1) (varint_found largest_size bytes n k (λ i. fits (suc i)) v); text_is = ap (λ z. z ∷ take k bytes) byte })

    go : (t : Bool) → nat_eq (b / 16) 15 ≡ t → cond t (then_read (varint_at largest_size bytes) (λ n. list_of n.0 (n.1 + 1) (kind_of (b % 16)))) (list_of (b / 16) 1 (kind_of (b % 16))) ≡ Ok (x, taken) → SpellsListHeader x (take taken (b ∷ bytes))
    go true h e =
        let r = then_ok (varint_at largest_size bytes) _ _ e in
        inr (long r.0.0 r.0.1 (grind arith) r.1 r.2)
    go false h e =
        let l = list_built (b / 16) 1 (b % 16) (kind_of (b % 16)) x taken refl e in
        let small : x.1 ≤ 14 = let byte = fits 0 in let ne : b / 16 ≢ 15 = grind arith in omega (arith, l.1) in
        let byte : b ≡ x.1 * 16 + kind_code x.0 = omega (arith, l.0, l.1, joined b) in
        inl (rw (← l.2) (record { small = small; text_is = ap (λ z. z ∷ []) byte }))

pub list_header_only : (x : Kind × ℕ) (text rest : List ℕ) → SpellsListHeader x text → list_header_at (text ++ rest) ≡ Ok (x, length text)
unfolding list_header_at
list_header_only x text rest (inl s) =
    let short : nat_eq x.1 15 ≡ false = let small = s.small in grind (arith, nat_tests) in
    rw (s.text_is, high x.1 x.0, short, low x.1 x.0, kind_only x.0) refl
list_header_only x text rest (inr s) =
    rw (s.text_is, high 15 x.0, low 15 x.0, varint_only largest_size x.1 s.tail rest s.spelled, kind_only x.0, add-one) refl

-- a listed pair of kinds
map_built : (size taken : ℕ) (c d : ℕ) (o p : Option Kind) (x : Option (Kind × Kind × ℕ)) (n : ℕ) → kind_of c ≡ o → kind_of d ≡ p → map_of size taken o p ≡ Ok (x, n) → (key : Kind) × (value : Kind) × (c ≡ kind_code key) × (d ≡ kind_code value) × (x ≡ Some (key, value, size)) × (taken ≡ n)
map_built size taken c d None None x n k l e = absurd cc
map_built size taken c d None (Some v) x n k l e = absurd cc
map_built size taken c d (Some k') None x n k l e = absurd cc
map_built size taken c d (Some k') (Some v) x n k l e =
    let same = ok_same _ _ refl e in
    (k', v, kind_found c k' k, kind_found d v l, sym (ap (λ p. p.0) same), ap (λ p. p.1) same)

map_kinds_found : (size taken : ℕ) (bytes : List ℕ) (x : Option (Kind × Kind × ℕ)) (n : ℕ) → map_kinds_at size taken bytes ≡ Ok (x, n) → (key : Kind) × (value : Kind) × (take 1 bytes ≡ (kind_code key * 16 + kind_code value) ∷ []) × (x ≡ Some (key, value, size)) × (n ≡ suc taken)
map_kinds_found size taken [] x n e = absurd cc
map_kinds_found size taken (b ∷ bytes) x n e =
    let m = map_built size (taken + 1) (b / 16) (b % 16) (kind_of (b / 16)) (kind_of (b % 16)) x n refl refl e in
    let byte : b ≡ kind_code m.0 * 16 + kind_code m.1 = omega (arith, m.2, m.3, joined b) in
    (m.0, m.1, ap (λ z. z ∷ []) byte, m.4, omega (arith, m.5))

map_spelled : (bytes : List ℕ) (key value : Kind) (n k taken : ℕ) → 0 < n → SpellsVarint largest_size n (take k bytes) → take 1 (drop k bytes) ≡ (kind_code key * 16 + kind_code value) ∷ [] → taken ≡ suc k → IsMapHeader key value n (take taken bytes)
map_spelled bytes key value n k taken some head kinds len =
    let e : taken ≡ k + 1 = omega arith in
    rw (e, take-add k 1 bytes, kinds) (record { some = some; head = take k bytes; spelled = head; text_is = refl })

pub map_header_found : (bytes : List ℕ) (x : Option (Kind × Kind × ℕ)) (taken : ℕ) → IsBytes bytes → map_header_at bytes ≡ Ok (x, taken) → SpellsMapHeader x (take taken bytes)
unfolding map_header_at
map_header_found bytes x taken fits e =
    let r = then_ok (varint_at largest_size bytes) _ _ e in
    go r.0.0 r.0.1 r.1 (nat_eq r.0.0 0) refl r.2
  where
    go : (n k : ℕ) → varint_at largest_size bytes ≡ Ok (n, k) → (t : Bool) → nat_eq n 0 ≡ t → cond t (Ok (None, k)) (map_kinds_at n k (drop k bytes)) ≡ Ok (x, taken) → SpellsMapHeader x (take taken bytes)
    go n k v true h e =
        let same = ok_same _ _ refl e in
        let none : None ≡ x = ap (λ p. p.0) same in
        let len : k ≡ taken = ap (λ p. p.1) same in
        let zero_is : n ≡ 0 = grind arith in
        rw (← none, ← len) (rw zero_is at (varint_found largest_size bytes n k fits v))
    go n k v false h e =
        let m = map_kinds_found n k (drop k bytes) x taken e in
        let some : 0 < n = let ne : n ≢ 0 = grind arith in omega arith in
        let P : Option (Kind × Kind × ℕ) → Type 0 = λ y. SpellsMapHeader y (take taken bytes) in
        subst P (sym m.3) (map_spelled bytes m.0 m.1 n k taken some (varint_found largest_size bytes n k fits v) m.2 m.4)

pub map_header_only : (x : Option (Kind × Kind × ℕ)) (text rest : List ℕ) → SpellsMapHeader x text → map_header_at (text ++ rest) ≡ Ok (x, length text)
unfolding map_header_at
map_header_only None text rest s = rw (varint_only largest_size 0 text rest s) refl
map_header_only (Some x) text rest s =
    let e : text ++ rest ≡ s.head ++ ((kind_code x.0 * 16 + kind_code x.1) ∷ rest) = rw (s.text_is, append_assoc) refl in
    let some : nat_eq x.2 0 ≡ false = let small = s.some in grind (arith, nat_tests) in
    let behind : drop (length s.head) (s.head ++ ((kind_code x.0 * 16 + kind_code x.1) ∷ rest)) ≡ (kind_code x.0 * 16 + kind_code x.1) ∷ rest = drop_at s.head ((kind_code x.0 * 16 + kind_code x.1) ∷ rest) _ refl in
    let len : length text ≡ length s.head + 1 = rw (s.text_is, length-append) refl in
    rw (len, e, varint_only largest_size x.2 s.head _ s.spelled, some, behind, high (kind_code x.0) x.1, low (kind_code x.0) x.1, kind_only x.0, kind_only x.1) refl

list_spelled : (bytes list : List ℕ) (n k taken : ℕ) → SpellsVarint largest_size n (take k bytes) → n ≤ length (drop k bytes) → take n (drop k bytes) ≡ list → k + n ≡ taken → SpellsByteList list (take taken bytes)
list_spelled bytes list n k taken head room is len =
    let size : length (take n (drop k bytes)) ≡ n = length-take-le n (drop k bytes) room in
    rw (← len, take-add k n bytes, ← is) (record { head = take k bytes; spelled = rw size head; text_is = refl })

pub byte_list_found : (bytes list : List ℕ) (taken : ℕ) → IsBytes bytes → byte_list_at bytes ≡ Ok (list, taken) → SpellsByteList list (take taken bytes)
unfolding byte_list_at
byte_list_found bytes list taken fits e =
    let r = then_ok (varint_at largest_size bytes) _ _ e in
    let g = guard_ok _ _ _ _ r.2 in
    let same = ok_same _ _ refl g.1 in
    list_spelled bytes list r.0.0 r.0.1 taken (varint_found largest_size bytes r.0.0 r.0.1 fits r.1) (ltb-false _ _ g.0) (ap (λ p. p.0) same) (ap (λ p. p.1) same)

pub byte_list_only : (list text rest : List ℕ) → SpellsByteList list text → byte_list_at (text ++ rest) ≡ Ok (list, length text)
unfolding byte_list_at
byte_list_only list text rest s =
    let e : text ++ rest ≡ s.head ++ (list ++ rest) = rw (s.text_is, append_assoc) refl in
    let behind : drop (length s.head) (s.head ++ (list ++ rest)) ≡ list ++ rest = drop_at s.head (list ++ rest) _ refl in
    let room : nat_lt (length (list ++ rest)) (length list) ≡ false = le-ltb _ _ (omega (arith, length-append list rest)) in
    let front : take (length list) (list ++ rest) ≡ list = take_at list rest _ refl in
    let len : length text ≡ length s.head + length list = rw (s.text_is, length-append) refl in
    rw (len, e, varint_only largest_size (length list) s.head _ s.spelled, behind, room, front) refl

-- a listed field
field_built : (number : ℤ) (taken c : ℕ) (o : Option Kind) (x : Option (ℤ × Kind)) (n : ℕ) → kind_of c ≡ o → field_of number taken o ≡ Ok (x, n) → (k : Kind) × (c ≡ kind_code k) × (x ≡ Some (number, k)) × (taken ≡ n)
field_built number taken c None x n k e = absurd cc
field_built number taken c (Some k') x n k e =
    let same = ok_same _ _ refl e in
    (k', kind_found c k' k, sym (ap (λ p. p.0) same), ap (λ p. p.1) same)

fits_below : (x : ℤ) → int_lt (pos 32767) x ≡ false → x ≤ℤ pos 32767
fits_below x h = lt_z_no {a = pos 32767} {b = x} (let P : Bool → Type 0 = λ v. T (not v) in subst P (sym h) tt)

below_fits : (x : ℤ) → x ≤ℤ pos 32767 → int_lt (pos 32767) x ≡ false
below_fits x h = grind arith

short_spelled : (last : ℤ) (b : ℕ) (bytes : List ℕ) (k : Kind) (number : ℤ) (taken : ℕ) → b < 256 → b / 16 ≢ 0 → int_lt (pos 32767) (last +ℤ pos (b / 16)) ≡ false → last +ℤ pos (b / 16) ≡ number → b % 16 ≡ kind_code k → 1 ≡ taken → IsShortHeader last number k (take taken (b ∷ bytes))
short_spelled last b bytes k number taken fits some small number_is kind_is len =
    let byte : b ≡ b / 16 * 16 + kind_code k = omega (arith, joined b, kind_is) in
    rw (← len, ← number_is) (record { delta = b / 16; some = omega arith; small = omega arith; number_is = refl; fits = fits_below _ small; text_is = ap (λ z. z ∷ []) byte })

long_spelled : (b : ℕ) (bytes : List ℕ) (k : Kind) (number : ℤ) (n taken : ℕ) → b / 16 ≡ 0 → SpellsSigned (2 ^ 16 - 1) number (take n bytes) → b % 16 ≡ kind_code k → n + 1 ≡ taken → IsLongHeader number k (take taken (b ∷ bytes))
long_spelled b bytes k number n taken first spelled kind_is len =
    let byte : b ≡ kind_code k = omega (arith, joined b, kind_is, first) in
    let e : taken ≡ suc n = omega arith in
    rw e (record { tail = take n bytes; spelled = spelled; text_is = ap (λ z. z ∷ take n bytes) byte })

pub header_found : (last : ℤ) (bytes : List ℕ) (x : Option (ℤ × Kind)) (taken : ℕ) → IsBytes bytes → header_at last bytes ≡ Ok (x, taken) → SpellsHeader last x (take taken bytes)
unfolding header_at
header_found last [] x taken fits e = absurd cc
header_found last (b ∷ bytes) x taken fits e = stop (nat_eq b 0) refl e
  where
    Named : Option (ℤ × Kind) → Type 0
    Named y = SpellsHeader last y (take taken (b ∷ bytes))

    delta : (t : Bool) → nat_eq (b / 16) 0 ≡ t → cond t (then_read {A = ℤ × ℕ} {B = Option (ℤ × Kind) × ℕ} (signed_at (2 ^ 16 - 1) bytes) (λ n. field_of n.0 (n.1 + 1) (kind_of (b % 16)))) (then_read {A = ℤ} {B = Option (ℤ × Kind) × ℕ} (number_after last (b / 16)) (λ n. field_of n 1 (kind_of (b % 16)))) ≡ Ok (x, taken) → Named x
    delta true h e =
        let r = then_ok (signed_at (2 ^ 16 - 1) bytes) _ _ e in
        let f = field_built r.0.0 (r.0.1 + 1) (b % 16) (kind_of (b % 16)) x taken refl r.2 in
        subst Named (sym f.2) (inr (long_spelled b bytes f.0 r.0.0 r.0.1 taken (grind arith) (signed_found (2 ^ 16 - 1) bytes r.0.0 r.0.1 (λ i. fits (suc i)) r.1) f.1 f.3))
    delta false h e =
        let r = then_ok (number_after last (b / 16)) _ _ e in
        let g = guard_ok _ _ _ _ r.1 in
        let f = field_built r.0 1 (b % 16) (kind_of (b % 16)) x taken refl r.2 in
        subst Named (sym f.2) (inl (short_spelled last b bytes f.0 r.0 taken (fits 0) (grind arith) g.0 (ok_same _ _ refl g.1) f.1 f.3))

    stop : (t : Bool) → nat_eq b 0 ≡ t → cond t (Ok (None, 1)) (cond (nat_eq (b / 16) 0) (then_read {A = ℤ × ℕ} {B = Option (ℤ × Kind) × ℕ} (signed_at (2 ^ 16 - 1) bytes) (λ n. field_of n.0 (n.1 + 1) (kind_of (b % 16)))) (then_read {A = ℤ} {B = Option (ℤ × Kind) × ℕ} (number_after last (b / 16)) (λ n. field_of n 1 (kind_of (b % 16))))) ≡ Ok (x, taken) → Named x
    stop true h e =
        let same = ok_same _ _ refl e in
        let zero_is : b ≡ 0 = grind arith in
        let one : 1 ≡ taken = ap (λ p. p.1) same in
        subst Named (ap (λ p. p.0) same) (rw (← one) (ap (λ z. z ∷ []) zero_is))
    stop false h e = delta (nat_eq (b / 16) 0) refl e

pub header_only : (last : ℤ) (x : Option (ℤ × Kind)) (text rest : List ℕ) → SpellsHeader last x text → header_at last (text ++ rest) ≡ Ok (x, length text)
unfolding header_at
header_only last None text rest s = rw s refl
header_only last (Some x) text rest (inl s) =
    let some : nat_eq (s.delta * 16 + kind_code x.1) 0 ≡ false = let bounds = kind_bounds x.1 in grind (arith, nat_tests) in
    let delta : nat_eq s.delta 0 ≡ false = let some = s.some in grind (arith, nat_tests) in
    let fits : int_lt (pos 32767) (last +ℤ pos s.delta) ≡ false = rw (← s.number_is) (below_fits _ s.fits) in
    rw (s.text_is, some, high s.delta x.1, delta, fits, low s.delta x.1, kind_only x.1, s.number_is) refl
header_only last (Some x) text rest (inr s) =
    let bounds = kind_bounds x.1 in
    let some : nat_eq (kind_code x.1) 0 ≡ false = grind (arith, nat_tests) in
    let first : kind_code x.1 / 16 ≡ 0 = omega arith in
    let kind_is : kind_code x.1 % 16 ≡ kind_code x.1 = omega arith in
    rw (s.text_is, some, first, signed_only (2 ^ 16 - 1) x.0 s.tail rest s.spelled, kind_is, kind_only x.1, add-one) refl
