-- What the reader's calls see of the tree that they stand before.
use Rattle.std.proofs.Common.{◌≡◌, ℕ, ◌+◌, ◌<◌, ◌≤◌, ℤ, pos, Bool, true, false, nat_le, List, ◌∷◌, length, drop, Some, None, Result, Ok, Err, refl, ap, sym, ◌∙◌, subst, arith}
use Rattle.std.proofs.lemmas.Bool.{lt-leb, le-leb}
use Rattle.thrift_compact.specs.declared.faults.ThriftFault.{ThriftFault}
use Rattle.thrift_compact.specs.declared.faults.ThriftFaultCode.TheVariants.{TooDeep}
use Rattle.thrift_compact.specs.declared.kinds.Kind.{Kind}
use Rattle.thrift_compact.specs.declared.kinds.Kind.TheVariants as kind
use Rattle.thrift_compact.specs.declared.stack.Open.TheVariants.{Fields}
use Rattle.thrift_compact.specs.Opens.{in_members}
use Rattle.thrift_compact.specs.Items.{Item, then_read, number_at, list_header_at, byte_list_at, value_at}
use Rattle.thrift_compact.specs.Runs.{placed, behind}
use Rattle.thrift_compact.specs.States.{State, left, if_room, SkipsTo}
use Rattle.thrift_compact.specs.Trees.{Datum, cut, passed, numeral, binary, sequence, mapping, structure, standing, is_passed, is_sequence, is_number, IsDatum, AreFields, AtDatum, AtFields, datum_fault, number_in, bytes_in, list_in, enter_in, skip_in, BehindList, BehindEnter}
use Rattle.thrift_compact.proofs.VarintLaws.{ok_same}
use Rattle.thrift_compact.proofs.RunLaws.{behind_ok}
use Rattle.thrift_compact.proofs.TreeRuns.{behind_err, number_front, binary_front, sequence_front, datum_passes, datum_answer, fault_in}

-- an item that stands is not faulty, and has one value and end
pub standing_same : {X : Type 0} (read : List ℕ → Item X) (bytes : List ℕ) (at : ℕ) (x y : X) (taken end : ℕ) → read (drop at bytes) ≡ Ok (x, taken) → standing read bytes at ≡ Ok (y, end) → (x ≡ y) × (at + taken ≡ end)
standing_same read bytes at x y taken end e s =
    let h = behind_ok at (read (drop at bytes)) y end s in
    let same = ok_same (x, taken) (y, h.0) e h.1 in
    let len : taken ≡ h.0 = ap (λ p. p.1) same in
    (ap (λ p. p.0) same, omega (arith, len, h.2))

pub standing_ok : {X : Type 0} (read : List ℕ → Item X) (bytes : List ℕ) (at : ℕ) (x : X) (taken : ℕ) (f : ThriftFault) → read (drop at bytes) ≡ Ok (x, taken) → standing read bytes at ≡ Err f → ⊥
standing_ok read bytes at x taken f e s =
    let h = behind_err at (read (drop at bytes)) f s in
    let same = h.1 in cc

pub standing_err : {X : Type 0} (read : List ℕ → Item X) (bytes : List ℕ) (at : ℕ) (g f : ThriftFault) → read (drop at bytes) ≡ Err g → standing read bytes at ≡ Err f → f ≡ placed at g
standing_err read bytes at g f e s =
    let h = behind_err at (read (drop at bytes)) f s in
    let same : h.0 ≡ g = let found = h.1 in cc in
    sym h.2 ∙ ap (placed at) same

pub standing_no : {X : Type 0} (read : List ℕ → Item X) (bytes : List ℕ) (at : ℕ) (g : ThriftFault) (x : X) (end : ℕ) → read (drop at bytes) ≡ Err g → standing read bytes at ≡ Ok (x, end) → ⊥
standing_no read bytes at g x end e s =
    let h = behind_ok at (read (drop at bytes)) x end s in
    let found = h.1 in cc

not_passed : (k : Kind) → is_number k ≡ true → is_passed k ≡ true → ⊥
not_passed kind.True n p = cc
not_passed kind.False n p = cc
not_passed kind.Double n p = cc
not_passed _ n p = cc

not_sequence : (k : Kind) → is_number k ≡ true → is_sequence k ≡ true → ⊥
not_sequence kind.List n p = cc
not_sequence kind.Set n p = cc
not_sequence _ n p = cc

-- of a number
number_fault : (depth : ℕ) (member : Bool) (k : Kind) (bytes : List ℕ) (g : ThriftFault) → is_number k ≡ true → number_at k bytes ≡ Err g → value_at depth member k bytes ≡ Err g
unfolding value_at
number_fault depth member kind.I8 bytes g n e = rw e refl
number_fault depth member kind.I16 bytes g n e = rw e refl
number_fault depth member kind.I32 bytes g n e = rw e refl
number_fault depth member kind.I64 bytes g n e = rw e refl
number_fault depth member _ bytes g n e = absurd cc

pub int_ok : (k : Kind) (s : State) (end : ℕ) (rest : List ℕ) (z : ℤ) (taken : ℕ) → rest ≡ left s → number_at k rest ≡ Ok (z, taken) → end ≡ s.at + taken → is_number k ≡ true → (d : Datum) (answer : Result ℕ ThriftFault) → AtDatum k s d answer → (Ok z ≡ number_in d) × (answer ≡ Ok end)
int_ok k s end rest z taken here e place n d answer at = go d at.is
  where
    found : number_at k (left s) ≡ Ok (z, taken)
    found = ap (number_at k) (sym here) ∙ e

    go : (d : Datum) → IsDatum s.bytes (length s.nesting) (in_members s.nesting) k s.at d answer → (Ok z ≡ number_in d) × (answer ≡ Ok end)
    go (cut f) is = absurd (standing_ok (value_at (length s.nesting) (in_members s.nesting) k) s.bytes s.at None taken f (number_front (length s.nesting) (in_members s.nesting) k (left s) z taken found) is.0)
    go passed is = absurd (not_passed k n is.0)
    go (numeral y) is =
        let same = standing_same (number_at k) s.bytes s.at z y taken is.0 found is.1 in
        (ap (λ v. Ok v) same.0, is.2 ∙ ap (λ v. Ok v) (sym same.1 ∙ sym place))
    go (binary list) is = let P : Kind → Type 0 = λ k. is_number k ≡ true in absurd (let none : false ≡ true = subst P is.0 n in cc)
    go (sequence each size items) is = absurd (not_sequence k n is.0)
    go (mapping header items) is = let P : Kind → Type 0 = λ k. is_number k ≡ true in absurd (let none : false ≡ true = subst P is.0 n in cc)
    go (structure fields) is = let P : Kind → Type 0 = λ k. is_number k ≡ true in absurd (let none : false ≡ true = subst P is.0 n in cc)

pub int_err : (k : Kind) (s : State) (rest : List ℕ) (g : ThriftFault) → rest ≡ left s → number_at k rest ≡ Err g → is_number k ≡ true → (d : Datum) (answer : Result ℕ ThriftFault) → AtDatum k s d answer → (Err (placed s.at g) ≡ number_in d) × (answer ≡ Err (placed s.at g))
int_err k s rest g here e n d answer at = go d at.is
  where
    found : number_at k (left s) ≡ Err g
    found = ap (number_at k) (sym here) ∙ e

    go : (d : Datum) → IsDatum s.bytes (length s.nesting) (in_members s.nesting) k s.at d answer → (Err (placed s.at g) ≡ number_in d) × (answer ≡ Err (placed s.at g))
    go (cut f) is =
        let same = standing_err (value_at (length s.nesting) (in_members s.nesting) k) s.bytes s.at g f (number_fault (length s.nesting) (in_members s.nesting) k (left s) g n found) is.0 in
        (ap (λ v. Err v) (sym same), is.1 ∙ ap (λ v. Err v) same)
    go passed is = absurd (not_passed k n is.0)
    go (numeral y) is = absurd (standing_no (number_at k) s.bytes s.at g y is.0 found is.1)
    go (binary list) is = let P : Kind → Type 0 = λ k. is_number k ≡ true in absurd (let none : false ≡ true = subst P is.0 n in cc)
    go (sequence each size items) is = absurd (not_sequence k n is.0)
    go (mapping header items) is = let P : Kind → Type 0 = λ k. is_number k ≡ true in absurd (let none : false ≡ true = subst P is.0 n in cc)
    go (structure fields) is = let P : Kind → Type 0 = λ k. is_number k ≡ true in absurd (let none : false ≡ true = subst P is.0 n in cc)

-- a number of a kind
unread : (k : Kind) (bytes : List ℕ) (z : ℤ) (taken : ℕ) → is_number k ≡ false → number_at k bytes ≡ Ok (z, taken) → ⊥
unfolding number_at
unread kind.I8 bytes z taken n e = cc
unread kind.I16 bytes z taken n e = cc
unread kind.I32 bytes z taken n e = cc
unread kind.I64 bytes z taken n e = cc
unread _ bytes z taken n e = cc

no_kind : {A : Type 0} (a b : Kind) (test : Kind → Bool) → a ≡ b → test a ≡ true → test b ≡ false → A
no_kind {A = A} a b test same holds fails = absurd (let ends : true ≡ false = sym holds ∙ ap test same ∙ fails in cc)

abbrev is_binary : Kind → Bool
is_binary kind.Binary = true
is_binary _ = false

abbrev is_struct : Kind → Bool
is_struct kind.Struct = true
is_struct _ = false

-- of a byte list
binary_fault : (depth : ℕ) (member : Bool) (bytes : List ℕ) (g : ThriftFault) → byte_list_at bytes ≡ Err g → value_at depth member kind.Binary bytes ≡ Err g
unfolding value_at
binary_fault depth member bytes g e = rw e refl

pub bytes_ok : (s : State) (end : ℕ) (rest list : List ℕ) (taken : ℕ) → rest ≡ left s → byte_list_at rest ≡ Ok (list, taken) → end ≡ s.at + taken → (d : Datum) (answer : Result ℕ ThriftFault) → AtDatum kind.Binary s d answer → (Ok list ≡ bytes_in d) × (answer ≡ Ok end)
bytes_ok s end rest list taken here e place d answer at = go d at.is
  where
    found : byte_list_at (left s) ≡ Ok (list, taken)
    found = ap byte_list_at (sym here) ∙ e

    go : (d : Datum) → IsDatum s.bytes (length s.nesting) (in_members s.nesting) kind.Binary s.at d answer → (Ok list ≡ bytes_in d) × (answer ≡ Ok end)
    go (cut f) is = absurd (standing_ok (value_at (length s.nesting) (in_members s.nesting) kind.Binary) s.bytes s.at None taken f (binary_front (length s.nesting) (in_members s.nesting) kind.Binary (left s) list taken refl found) is.0)
    go passed is = absurd (let no = is.0 in cc)
    go (numeral z) is = absurd (unread kind.Binary (left s) z (behind_ok s.at (number_at kind.Binary (left s)) z is.0 is.1).0 refl (behind_ok s.at (number_at kind.Binary (left s)) z is.0 is.1).1)
    go (binary y) is =
        let same = standing_same byte_list_at s.bytes s.at list y taken is.1 found is.2 in
        (ap (λ v. Ok v) same.0, is.3 ∙ ap (λ v. Ok v) (sym same.1 ∙ sym place))
    go (sequence each size items) is = absurd (let no = is.0 in cc)
    go (mapping header items) is = no_kind kind.Binary kind.Map is_binary is.0 refl refl
    go (structure fields) is = no_kind kind.Binary kind.Struct is_binary is.0 refl refl

pub bytes_err : (s : State) (rest : List ℕ) (g : ThriftFault) → rest ≡ left s → byte_list_at rest ≡ Err g → (d : Datum) (answer : Result ℕ ThriftFault) → AtDatum kind.Binary s d answer → (Err (placed s.at g) ≡ bytes_in d) × (answer ≡ Err (placed s.at g))
bytes_err s rest g here e d answer at = go d at.is
  where
    found : byte_list_at (left s) ≡ Err g
    found = ap byte_list_at (sym here) ∙ e

    go : (d : Datum) → IsDatum s.bytes (length s.nesting) (in_members s.nesting) kind.Binary s.at d answer → (Err (placed s.at g) ≡ bytes_in d) × (answer ≡ Err (placed s.at g))
    go (cut f) is =
        let same = standing_err (value_at (length s.nesting) (in_members s.nesting) kind.Binary) s.bytes s.at g f (binary_fault (length s.nesting) (in_members s.nesting) (left s) g found) is.0 in
        (ap (λ v. Err v) (sym same), is.1 ∙ ap (λ v. Err v) same)
    go passed is = absurd (let no = is.0 in cc)
    go (numeral z) is = absurd (unread kind.Binary (left s) z (behind_ok s.at (number_at kind.Binary (left s)) z is.0 is.1).0 refl (behind_ok s.at (number_at kind.Binary (left s)) z is.0 is.1).1)
    go (binary y) is = absurd (standing_no byte_list_at s.bytes s.at g y is.1 found is.2)
    go (sequence each size items) is = absurd (let no = is.0 in cc)
    go (mapping header items) is = no_kind kind.Binary kind.Map is_binary is.0 refl refl
    go (structure fields) is = no_kind kind.Binary kind.Struct is_binary is.0 refl refl

same_fault : (f g : ThriftFault) → ◌≡◌ {A = Item (Kind × ℕ)} (Err f) (Err g) → f ≡ g
same_fault f g e = cc

-- of a list's header, which needs room
list_fault : (depth : ℕ) (member : Bool) (bytes : List ℕ) (g : ThriftFault) → then_read (list_header_at bytes) (if_room depth) ≡ Err g → value_at depth member kind.List bytes ≡ Err g
unfolding value_at
list_fault depth member bytes g e = go (list_header_at bytes) (nat_le 32 depth) refl refl e
  where
    go : (r : Item (Kind × ℕ)) (t : Bool) → list_header_at bytes ≡ r → nat_le 32 depth ≡ t → then_read r (if_room depth) ≡ Err g → value_at depth member kind.List bytes ≡ Err g
    go (Err f) t r h e = rw r (ap (λ z. Err z) (same_fault f g e))
    go (Ok x) true r h e = rw (r, h) (ap (λ z. Err z) (same_fault (record { code = TooDeep; at = 0 }) g (rw h at e)))
    go (Ok x) false r h e = absurd (let none = rw h at e in cc)

pub list_ok : (s new : State) (rest : List ℕ) (each : Kind) (size taken : ℕ) → rest ≡ left s → list_header_at rest ≡ Ok ((each, size), taken) → length s.nesting < 32 → new.bytes ≡ s.bytes → new.at ≡ s.at + taken → (d : Datum) (answer : Result ℕ ThriftFault) → AtDatum kind.List s d answer → (Ok (each, size) ≡ list_in d) × BehindList d answer s new
list_ok s new rest each size taken here e room kept place d answer at = go d at.is
  where
    found : list_header_at (left s) ≡ Ok ((each, size), taken)
    found = ap list_header_at (sym here) ∙ e

    go : (d : Datum) → IsDatum s.bytes (length s.nesting) (in_members s.nesting) kind.List s.at d answer → (Ok (each, size) ≡ list_in d) × BehindList d answer s new
    go (cut f) is = absurd (standing_ok (value_at (length s.nesting) (in_members s.nesting) kind.List) s.bytes s.at _ taken f (sequence_front (length s.nesting) (in_members s.nesting) kind.List each size (left s) taken refl room found) is.0)
    go passed is = absurd (let no = is.0 in cc)
    go (numeral z) is = absurd (unread kind.List (left s) z (behind_ok s.at (number_at kind.List (left s)) z is.0 is.1).0 refl (behind_ok s.at (number_at kind.List (left s)) z is.0 is.1).1)
    go (binary list) is = no_kind kind.List kind.Binary is_sequence is.0 refl refl
    go (sequence each' size' items) is =
        let same = standing_same list_header_at s.bytes s.at (each, size) (each', size') taken is.2 found is.3 in
        (ap (λ v. Ok v) same.0, rw (kept, place, same.1) is.4)
    go (mapping header items) is = no_kind kind.List kind.Map is_sequence is.0 refl refl
    go (structure fields) is = no_kind kind.List kind.Struct is_sequence is.0 refl refl

pub list_err : (s new : State) (rest : List ℕ) (g : ThriftFault) → rest ≡ left s → then_read (list_header_at rest) (if_room (length s.nesting)) ≡ Err g → (d : Datum) (answer : Result ℕ ThriftFault) → AtDatum kind.List s d answer → (Err (placed s.at g) ≡ list_in d) × BehindList d answer s new
list_err s new rest g here e d answer at = go d at.is
  where
    found : value_at (length s.nesting) (in_members s.nesting) kind.List (left s) ≡ Err g
    found = list_fault (length s.nesting) (in_members s.nesting) (left s) g (ap (λ z. then_read (list_header_at z) (if_room (length s.nesting))) (sym here) ∙ e)

    go : (d : Datum) → IsDatum s.bytes (length s.nesting) (in_members s.nesting) kind.List s.at d answer → (Err (placed s.at g) ≡ list_in d) × BehindList d answer s new
    go (cut f) is =
        let same = standing_err (value_at (length s.nesting) (in_members s.nesting) kind.List) s.bytes s.at g f found is.0 in
        (ap (λ v. Err v) (sym same), is.1)
    go passed is = absurd (let no = is.0 in cc)
    go (numeral z) is = absurd (unread kind.List (left s) z (behind_ok s.at (number_at kind.List (left s)) z is.0 is.1).0 refl (behind_ok s.at (number_at kind.List (left s)) z is.0 is.1).1)
    go (binary list) is = no_kind kind.List kind.Binary is_sequence is.0 refl refl
    go (sequence each' size' items) is =
        let h = behind_ok s.at (list_header_at (left s)) (each', size') is.2 is.3 in
        absurd (standing_no (value_at (length s.nesting) (in_members s.nesting) kind.List) s.bytes s.at g _ (s.at + h.0) found (ap (behind s.at) (sequence_front (length s.nesting) (in_members s.nesting) kind.List each' size' (left s) h.0 refl is.1 h.1)))
    go (mapping header items) is = no_kind kind.List kind.Map is_sequence is.0 refl refl
    go (structure fields) is = no_kind kind.List kind.Struct is_sequence is.0 refl refl

-- of a struct that opens
full_struct : (depth : ℕ) (member : Bool) (bytes : List ℕ) → 32 ≤ depth → value_at depth member kind.Struct bytes ≡ Err (record { code = TooDeep; at = 0 })
unfolding value_at
full_struct depth member bytes full =
    let t : nat_le 32 depth ≡ true = le-leb _ _ full in
    rw t refl

free_struct : (depth : ℕ) (member : Bool) (bytes : List ℕ) → depth < 32 → value_at depth member kind.Struct bytes ≡ Ok (Some (Fields (pos 0)), 0)
unfolding value_at
free_struct depth member bytes free =
    let t : nat_le 32 depth ≡ false = lt-leb _ _ free in
    rw t refl

pub enter_ok : (s new : State) → length s.nesting < 32 → new ≡ record s { nesting = Fields (pos 0) ∷ s.nesting } → (d : Datum) (answer : Result ℕ ThriftFault) → AtDatum kind.Struct s d answer → (Ok tt ≡ enter_in d) × BehindEnter d answer new
enter_ok s new room kept d answer at = go d at.is
  where
    go : (d : Datum) → IsDatum s.bytes (length s.nesting) (in_members s.nesting) kind.Struct s.at d answer → (Ok tt ≡ enter_in d) × BehindEnter d answer new
    go (cut f) is = absurd (standing_ok (value_at (length s.nesting) (in_members s.nesting) kind.Struct) s.bytes s.at _ 0 f (free_struct (length s.nesting) (in_members s.nesting) (left s) room) is.0)
    go passed is = absurd (let no = is.0 in cc)
    go (numeral z) is = absurd (unread kind.Struct (left s) z (behind_ok s.at (number_at kind.Struct (left s)) z is.0 is.1).0 refl (behind_ok s.at (number_at kind.Struct (left s)) z is.0 is.1).1)
    go (binary list) is = no_kind kind.Struct kind.Binary is_struct is.0 refl refl
    go (sequence each size items) is = absurd (let no = is.0 in cc)
    go (mapping header items) is = no_kind kind.Struct kind.Map is_struct is.0 refl refl
    go (structure fields) is =
        let P : State → Type 0 = λ z. AtFields z fields answer in
        let one : length s.nesting + 1 ≡ length (Fields (pos 0) ∷ s.nesting) = omega arith in
        let Q : ℕ → Type 0 = λ n. AreFields s.bytes n (pos 0) s.at fields answer in
        (refl, subst P (sym kept) (record { sound = at.sound; inside = refl; are = subst Q one is.2 }))

pub enter_err : (s new : State) → 32 ≤ length s.nesting → (d : Datum) (answer : Result ℕ ThriftFault) → AtDatum kind.Struct s d answer → (Err (placed s.at (record { code = TooDeep; at = 0 })) ≡ enter_in d) × BehindEnter d answer new
enter_err s new full d answer at = go d at.is
  where
    go : (d : Datum) → IsDatum s.bytes (length s.nesting) (in_members s.nesting) kind.Struct s.at d answer → (Err (placed s.at (record { code = TooDeep; at = 0 })) ≡ enter_in d) × BehindEnter d answer new
    go (cut f) is =
        let same = standing_err (value_at (length s.nesting) (in_members s.nesting) kind.Struct) s.bytes s.at (record { code = TooDeep; at = 0 }) f (full_struct (length s.nesting) (in_members s.nesting) (left s) full) is.0 in
        (ap (λ v. Err v) (sym same), is.1)
    go passed is = absurd (let no = is.0 in cc)
    go (numeral z) is = absurd (unread kind.Struct (left s) z (behind_ok s.at (number_at kind.Struct (left s)) z is.0 is.1).0 refl (behind_ok s.at (number_at kind.Struct (left s)) z is.0 is.1).1)
    go (binary list) is = no_kind kind.Struct kind.Binary is_struct is.0 refl refl
    go (sequence each size items) is = absurd (let no = is.0 in cc)
    go (mapping header items) is = no_kind kind.Struct kind.Map is_struct is.0 refl refl
    go (structure fields) is = absurd (let room = is.1 in omega arith)

-- of a value that is passed over
pub skip_ok : (k : Kind) (s : State) (end : ℕ) → ((to : Result ℕ ThriftFault) → SkipsTo k s to → Ok end ≡ to) → (d : Datum) (answer : Result ℕ ThriftFault) → AtDatum k s d answer → (Ok tt ≡ skip_in d) × (answer ≡ Ok end)
skip_ok k s end one d answer at =
    let to = one answer (datum_passes d (length s.nesting) (in_members s.nesting) k s.bytes s.at answer at.is) in
    let none : datum_fault d ≡ None = datum_answer d s.bytes (length s.nesting) (in_members s.nesting) k s.at answer at.is ∙ ap fault_in (sym to) in
    (rw none refl, sym to)

pub skip_err : (k : Kind) (s : State) (f : ThriftFault) → ((to : Result ℕ ThriftFault) → SkipsTo k s to → Err f ≡ to) → (d : Datum) (answer : Result ℕ ThriftFault) → AtDatum k s d answer → (Err f ≡ skip_in d) × (answer ≡ Err f)
skip_err k s f one d answer at =
    let to = one answer (datum_passes d (length s.nesting) (in_members s.nesting) k s.bytes s.at answer at.is) in
    let some : datum_fault d ≡ Some f = datum_answer d s.bytes (length s.nesting) (in_members s.nesting) k s.at answer at.is ∙ ap fault_in (sym to) in
    (rw some refl, sym to)
