-- The front of a value that is read is spelled, and the other way round.
use Rattle.std.proofs.Common.{◌≡◌, ℕ, ◌*◌, ◌<◌, ◌≢◌, inl, inr, pos, Bool, true, false, MatchBool, cond, nat_eq, nat_lt, nat_le, List, [], ◌∷◌, ◌++◌, length, take, Option, Some, None, Ok, refl, ap, sym, subst, arith, append-nil}
use Rattle.std.proofs.lemmas.Bool.{ltb-false, le-ltb, leb-false, lt-leb}
use Rattle.std.proofs.lemmas.List.{length-append, length-take-le}
use Rattle.thrift_compact.specs.declared.kinds.Kind.{Kind}
use Rattle.thrift_compact.specs.declared.kinds.Kind.TheVariants as kind
use Rattle.thrift_compact.specs.declared.stack.Open.{Open}
use Rattle.thrift_compact.specs.declared.stack.Open.TheVariants.{Fields, Members}
use Rattle.thrift_compact.specs.Items.{Item, then_read, number_at, list_header_at, map_header_at, byte_list_at, opening, members, map_members, whole, truth_at, double_at, value_at}
use Rattle.thrift_compact.specs.Grammar.{SpellsListHeader, SpellsMapHeader, IsSimple, HeadsMembers, Value, simple, sequence, no_values, print_value, IsValue}
use Rattle.thrift_compact.specs.Varints.{IsBytes}
use Rattle.thrift_compact.proofs.VarintLaws.{guard_ok, ok_same}
use Rattle.thrift_compact.proofs.ItemLaws.{then_ok, number_found, number_only, list_header_found, list_header_only, map_header_found, map_header_only, byte_list_found, byte_list_only}

-- the bytes that were taken are a whole value, or the front of one that is open now
abbrev pub Opened : ℕ → Bool → Kind → Option Open → List ℕ → Type 0
Opened already member k None text = (v : Value) × IsValue already member k v × (text ≡ print_value v)
Opened already member k (Some (Fields last)) text =
    (already < 32) × (k ≡ kind.Struct) × (last ≡ pos 0) × (text ≡ [])
Opened already member k (Some (Members first next n)) text =
    (already < 32) × (0 < n) × HeadsMembers k first next n text

whole_found : {X : Type 0} (already : ℕ) (member : Bool) (k : Kind) (bytes : List ℕ) (o : Option Open) (taken : ℕ) (item : Item X) → then_read item whole ≡ Ok (o, taken) → ((x : X) (n : ℕ) → item ≡ Ok (x, n) → IsSimple member k (take n bytes)) → Opened already member k o (take taken bytes)
whole_found {X = X} already member k bytes o taken item e spelled =
    let r = then_ok item _ _ e in
    let same = ok_same _ _ refl r.2 in
    built r.0.1 (spelled r.0.0 r.0.1 r.1) (ap (λ p. p.0) same) (ap (λ p. p.1) same)
  where
    built : (n : ℕ) → IsSimple member k (take n bytes) → None ≡ o → n ≡ taken → Opened already member k o (take taken bytes)
    built n s none len =
        let P : Option Open → Type 0 = λ y. Opened already member k y (take taken bytes) in
        subst P none (rw (← len) (simple (take n bytes), s, refl))

opening_found : (already : ℕ) (what : Option Open) (n : ℕ) (o : Option Open) (taken : ℕ) → opening already what n ≡ Ok (o, taken) → (already < 32) × (what ≡ o) × (n ≡ taken)
opening_found already what n o taken e =
    let g = guard_ok _ _ _ _ e in
    let same = ok_same _ _ refl g.1 in
    (leb-false _ _ g.0, ap (λ p. p.0) same, ap (λ p. p.1) same)

members_found : (already : ℕ) (member : Bool) (k first next : Kind) (n : ℕ) (text : List ℕ) → already < 32 → HeadsMembers k first next n text → Opened already member k (members first next n) text
members_found already member k first next n text room heads = go (nat_eq n 0) refl
  where
    go : (t : Bool) → nat_eq n 0 ≡ t → Opened already member k (cond t None (Some (Members first next n))) text
    go true h = (sequence text no_values, (room, first, next, n, heads, let e : n ≡ 0 = grind arith in e), sym (append-nil text))
    go false h = (room, (let ne : n ≢ 0 = grind arith in omega arith), heads)

-- the bytes of a list
list_found : (already : ℕ) (member : Bool) (k : Kind) (bytes : List ℕ) (o : Option Open) (taken : ℕ) → IsBytes bytes → then_read (list_header_at bytes) (λ h. opening already (members h.0.0 h.0.0 h.0.1) h.1) ≡ Ok (o, taken) → ((first : Kind) (n : ℕ) (text : List ℕ) → SpellsListHeader (first, n) text → HeadsMembers k first first n text) → Opened already member k o (take taken bytes)
list_found already member k bytes o taken fits e heads =
    let r = then_ok (list_header_at bytes) _ _ e in
    let p = opening_found already (members r.0.0.0 r.0.0.0 r.0.0.1) r.0.1 o taken r.2 in
    built r.0.0.0 r.0.0.1 r.0.1 (list_header_found bytes r.0.0 r.0.1 fits r.1) p.0 p.1 p.2
  where
    built : (first : Kind) (n : ℕ) (m : ℕ) → SpellsListHeader (first, n) (take m bytes) → already < 32 → members first first n ≡ o → m ≡ taken → Opened already member k o (take taken bytes)
    built first n m s room what len =
        let P : Option Open → Type 0 = λ y. Opened already member k y (take taken bytes) in
        subst P what (rw (← len) (members_found already member k first first n (take m bytes) room (heads first n (take m bytes) s)))

map_found : (already : ℕ) (member : Bool) (bytes : List ℕ) (o : Option Open) (taken : ℕ) → IsBytes bytes → then_read (map_header_at bytes) (λ h. opening already (map_members h.0) h.1) ≡ Ok (o, taken) → Opened already member kind.Map o (take taken bytes)
map_found already member bytes o taken fits e =
    let r = then_ok (map_header_at bytes) _ _ e in
    let p = opening_found already (map_members r.0.0) r.0.1 o taken r.2 in
    built r.0.0 r.0.1 (map_header_found bytes r.0.0 r.0.1 fits r.1) p.0 p.1 p.2
  where
    built : (h : Option (Kind × Kind × ℕ)) (m : ℕ) → SpellsMapHeader h (take m bytes) → already < 32 → map_members h ≡ o → m ≡ taken → Opened already member kind.Map o (take taken bytes)
    built None m s room what len =
        let P : Option Open → Type 0 = λ y. Opened already member kind.Map y (take taken bytes) in
        subst P what (rw (← len) (members_found already member kind.Map kind.True kind.True 0 (take m bytes) room (inl (refl, s))))
    built (Some x) m s room what len =
        let P : Option Open → Type 0 = λ y. Opened already member kind.Map y (take taken bytes) in
        subst P what (rw (← len) (members_found already member kind.Map x.0 x.1 (2 * x.2) (take m bytes) room (inr (x.2, refl, s))))

struct_found : (already : ℕ) (member : Bool) (bytes : List ℕ) (o : Option Open) (taken : ℕ) → opening already (Some (Fields (pos 0))) 0 ≡ Ok (o, taken) → Opened already member kind.Struct o (take taken bytes)
struct_found already member bytes o taken e =
    let p = opening_found already (Some (Fields (pos 0))) 0 o taken e in
    let P : Option Open → Type 0 = λ y. Opened already member kind.Struct y (take taken bytes) in
    subst P p.1 (p.0, refl, refl, rw (← p.2) refl)

truth_found : (already : ℕ) (member : Bool) (k : Kind) (bytes : List ℕ) (o : Option Open) (taken : ℕ) → ((text : List ℕ) → MatchBool member (length text ≡ 1) (text ≡ []) → IsSimple member k text) → truth_at member bytes ≡ Ok (o, taken) → Opened already member k o (take taken bytes)
truth_found already true k [] o taken s e = absurd cc
truth_found already true k (b ∷ bytes) o taken s e =
    let same = ok_same _ _ refl e in
    let len : 1 ≡ taken = ap (λ p. p.1) same in
    let P : Option Open → Type 0 = λ y. Opened already true k y (take taken (b ∷ bytes)) in
    subst P (ap (λ p. p.0) same) (rw (← len) (simple (b ∷ []), s (b ∷ []) refl, refl))
truth_found already false k bytes o taken s e =
    let same = ok_same _ _ refl e in
    let len : 0 ≡ taken = ap (λ p. p.1) same in
    let P : Option Open → Type 0 = λ y. Opened already false k y (take taken bytes) in
    subst P (ap (λ p. p.0) same) (rw (← len) (simple [], s [] refl, refl))

double_found : (already : ℕ) (member : Bool) (bytes : List ℕ) (o : Option Open) (taken : ℕ) → double_at bytes ≡ Ok (o, taken) → Opened already member kind.Double o (take taken bytes)
double_found already member bytes o taken e =
    let g = guard_ok _ _ _ _ e in
    let same = ok_same _ _ refl g.1 in
    let len : 8 ≡ taken = ap (λ p. p.1) same in
    let P : Option Open → Type 0 = λ y. Opened already member kind.Double y (take taken bytes) in
    let none : None ≡ o = ap (λ p. p.0) same in
    subst P none (rw (← len) (simple (take 8 bytes), length-take-le 8 bytes (ltb-false _ _ g.0), refl))

pub value_found : (already : ℕ) (member : Bool) (k : Kind) (bytes : List ℕ) (o : Option Open) (taken : ℕ) → IsBytes bytes → value_at already member k bytes ≡ Ok (o, taken) → Opened already member k o (take taken bytes)
unfolding value_at
value_found already member kind.True bytes o taken fits e = truth_found already member kind.True bytes o taken (λ text s. s) e
value_found already member kind.False bytes o taken fits e = truth_found already member kind.False bytes o taken (λ text s. s) e
value_found already member kind.I8 bytes o taken fits e = whole_found already member kind.I8 bytes o taken (number_at kind.I8 bytes) e (λ x n f. (x, number_found kind.I8 bytes x n fits f))
value_found already member kind.I16 bytes o taken fits e = whole_found already member kind.I16 bytes o taken (number_at kind.I16 bytes) e (λ x n f. (x, number_found kind.I16 bytes x n fits f))
value_found already member kind.I32 bytes o taken fits e = whole_found already member kind.I32 bytes o taken (number_at kind.I32 bytes) e (λ x n f. (x, number_found kind.I32 bytes x n fits f))
value_found already member kind.I64 bytes o taken fits e = whole_found already member kind.I64 bytes o taken (number_at kind.I64 bytes) e (λ x n f. (x, number_found kind.I64 bytes x n fits f))
value_found already member kind.Double bytes o taken fits e = double_found already member bytes o taken e
value_found already member kind.Binary bytes o taken fits e = whole_found already member kind.Binary bytes o taken (byte_list_at bytes) e (λ x n f. (x, byte_list_found bytes x n fits f))
value_found already member kind.List bytes o taken fits e = list_found already member kind.List bytes o taken fits e (λ first n text s. (refl, s))
value_found already member kind.Set bytes o taken fits e = list_found already member kind.Set bytes o taken fits e (λ first n text s. (refl, s))
value_found already member kind.Map bytes o taken fits e = map_found already member bytes o taken fits e
value_found already member kind.Struct bytes o taken fits e = struct_found already member bytes o taken e

truth_only : (member : Bool) (text rest : List ℕ) → MatchBool member (length text ≡ 1) (text ≡ []) → truth_at member (text ++ rest) ≡ Ok (None, length text)
truth_only true [] rest s = absurd (omega arith)
truth_only true (b ∷ text) rest s = rw s refl
truth_only false text rest s = rw s refl

-- a value that holds no others is read whole
pub simple_only : (already : ℕ) (member : Bool) (k : Kind) (text rest : List ℕ) → IsSimple member k text → value_at already member k (text ++ rest) ≡ Ok (None, length text)
unfolding value_at
simple_only already member kind.True text rest s = truth_only member text rest s
simple_only already member kind.False text rest s = truth_only member text rest s
simple_only already member kind.I8 text rest s = rw (number_only kind.I8 s.0 text rest s.1) refl
simple_only already member kind.I16 text rest s = rw (number_only kind.I16 s.0 text rest s.1) refl
simple_only already member kind.I32 text rest s = rw (number_only kind.I32 s.0 text rest s.1) refl
simple_only already member kind.I64 text rest s = rw (number_only kind.I64 s.0 text rest s.1) refl
simple_only already member kind.Double text rest s =
    let room : nat_lt (length (text ++ rest)) 8 ≡ false = le-ltb _ _ (omega (arith, length-append text rest, s)) in
    rw (room, s) refl
simple_only already member kind.Binary text rest s = rw (byte_list_only s.0 text rest s.1) refl
simple_only already member _ text rest s = absurd s

-- what a header opens is opened
pub header_opens : (already : ℕ) (member : Bool) (k first next : Kind) (n : ℕ) (header rest : List ℕ) → already < 32 → HeadsMembers k first next n header → value_at already member k (header ++ rest) ≡ Ok (members first next n, length header)
unfolding value_at
header_opens already member kind.List first next n header rest room h =
    let open_ : nat_le 32 already ≡ false = lt-leb _ _ room in
    rw (list_header_only (first, n) header rest h.1, open_, h.0) refl
header_opens already member kind.Set first next n header rest room h =
    let open_ : nat_le 32 already ≡ false = lt-leb _ _ room in
    rw (list_header_only (first, n) header rest h.1, open_, h.0) refl
header_opens already member kind.Map first next n header rest room (inl h) =
    let open_ : nat_le 32 already ≡ false = lt-leb _ _ room in
    rw (map_header_only None header rest h.1, open_, h.0) refl
header_opens already member kind.Map first next n header rest room (inr h) =
    let open_ : nat_le 32 already ≡ false = lt-leb _ _ room in
    rw (map_header_only (Some (first, next, h.0)) header rest h.2, open_, h.1) refl
header_opens already member _ first next n header rest room h = absurd h

-- a struct is opened
pub struct_opens : (already : ℕ) (member : Bool) (bytes : List ℕ) → already < 32 → value_at already member kind.Struct bytes ≡ Ok (Some (Fields (pos 0)), 0)
unfolding value_at
struct_opens already member bytes room =
    let open_ : nat_le 32 already ≡ false = lt-leb _ _ room in
    rw open_ refl
