-- Any bytes have at most one tree.
use Rattle.std.proofs.Common.{◌≡◌, ℕ, ◌+◌, ◌-◌, ℤ, pos, Bool, IsTrue, true, false, List, drop, Option, Some, None, Result, Ok, Err, refl, ap, sym, ◌∙◌, subst, arith}
use Rattle.thrift_compact.specs.declared.faults.ThriftFault.{ThriftFault}
use Rattle.thrift_compact.specs.declared.kinds.Kind.{Kind}
use Rattle.thrift_compact.specs.declared.kinds.Kind.TheVariants as kind
use Rattle.thrift_compact.specs.Items.{Item, number_at, header_at, list_header_at, map_header_at, byte_list_at, value_at}
use Rattle.thrift_compact.specs.Trees.{Datum, Data, FieldList, cut, passed, numeral, binary, sequence, mapping, structure, nothing, datum, stop, field, broken, standing, is_passed, is_sequence, key_kind, value_kind, entries, Behind, IsDatum, AreData, AreFields}
use Rattle.thrift_compact.proofs.RunLaws.{behind_ok}
use Rattle.thrift_compact.proofs.TreeRuns.{behind_err, number_front, binary_front, sequence_front, mapping_front, structure_front}

-- ---- what stands at a place tells the form of its tree

abbrev form_of : Kind → ℕ
form_of kind.True = 0
form_of kind.False = 0
form_of kind.Double = 0
form_of kind.I8 = 1
form_of kind.I16 = 1
form_of kind.I32 = 1
form_of kind.I64 = 1
form_of kind.Binary = 2
form_of kind.List = 3
form_of kind.Set = 3
form_of kind.Map = 4
form_of kind.Struct = 5

abbrev form : Datum → ℕ
form passed = 0
form (numeral z) = 1
form (binary list) = 2
form (sequence each size items) = 3
form (mapping header items) = 4
form (structure fields) = 5
form (cut f) = 6

abbrev seen : {X : Type 0} → Item X → Kind → ℕ
seen (Err f) k = 6
seen (Ok x) k = form_of k

passed_form : (k : Kind) → IsTrue (is_passed k) → form_of k ≡ 0
passed_form kind.True h = refl
passed_form kind.False h = refl
passed_form kind.Double h = refl
passed_form _ h = absurd (cc)

number_form : (k : Kind) (bytes : List ℕ) (z : ℤ) (n : ℕ) → number_at k bytes ≡ Ok (z, n) → form_of k ≡ 1
unfolding number_at
number_form kind.I8 bytes z n h = refl
number_form kind.I16 bytes z n h = refl
number_form kind.I32 bytes z n h = refl
number_form kind.I64 bytes z n h = refl
number_form _ bytes z n h = absurd (cc)

sequence_form : (k : Kind) → IsTrue (is_sequence k) → form_of k ≡ 3
sequence_form kind.List h = refl
sequence_form kind.Set h = refl
sequence_form _ h = absurd (cc)

form_seen : (d : Datum) (bytes : List ℕ) (depth : ℕ) (member : Bool) (k : Kind) (at : ℕ) (answer : Result ℕ ThriftFault) → IsDatum bytes depth member k at d answer → seen (value_at depth member k (drop at bytes)) k ≡ form d
form_seen (cut f) bytes depth member k at answer is =
    let h = behind_err at (value_at depth member k (drop at bytes)) f is.0 in
    rw h.1 refl
form_seen passed bytes depth member k at answer is =
    let h = behind_ok at (value_at depth member k (drop at bytes)) None is.1 is.2 in
    rw h.1 (passed_form k is.0)
form_seen (numeral z) bytes depth member k at answer is =
    let h = behind_ok at (number_at k (drop at bytes)) z is.0 is.1 in
    rw (number_front depth member k (drop at bytes) z h.0 h.1) (number_form k (drop at bytes) z h.0 h.1)
form_seen (binary list) bytes depth member k at answer is =
    let h = behind_ok at (byte_list_at (drop at bytes)) list is.1 is.2 in
    rw (binary_front depth member k (drop at bytes) list h.0 is.0 h.1) (ap form_of is.0)
form_seen (sequence each size items) bytes depth member k at answer is =
    let h = behind_ok at (list_header_at (drop at bytes)) (each, size) is.2 is.3 in
    rw (sequence_front depth member k each size (drop at bytes) h.0 is.0 is.1 h.1) (sequence_form k is.0)
form_seen (mapping header items) bytes depth member k at answer is =
    let h = behind_ok at (map_header_at (drop at bytes)) header is.2 is.3 in
    rw (mapping_front depth member k header (drop at bytes) h.0 is.0 is.1 h.1) (ap form_of is.0)
form_seen (structure fields) bytes depth member k at answer is =
    rw (structure_front depth member k (drop at bytes) is.0 is.1) (ap form_of is.0)

-- ---- equal results have equal values

ok_is : {X E : Type 0} (r : Result X E) (x y : X) → r ≡ Ok x → r ≡ Ok y → x ≡ y
ok_is r x y a b = cc

err_is : {X E : Type 0} (r : Result X E) (f g : E) → r ≡ Err f → r ≡ Err g → f ≡ g
err_is r f g a b = cc

some_is : {X : Type 0} (x y : X) → Some x ≡ Some y → x ≡ y
some_is x y e = cc

none_some : {X : Type 0} (x : X) → None ≡ Some x → ⊥
none_some x e = absurd (cc)

ok_err : {X E : Type 0} (r : Result X E) (x : X) (f : E) → r ≡ Ok x → r ≡ Err f → ⊥
ok_err r x f a b = absurd (cc)

-- ---- one tree

mutual
  one_datum : (d e : Datum) (bytes : List ℕ) (depth : ℕ) (member : Bool) (k : Kind) (at : ℕ) (a b : Result ℕ ThriftFault) → IsDatum bytes depth member k at d a → IsDatum bytes depth member k at e b → (d ≡ e) × (a ≡ b)
  one_datum (cut f) (cut g) bytes depth member k at a b h i =
      let same = err_is (standing (value_at depth member k) bytes at) f g h.0 i.0 in
      (ap cut same, h.1 ∙ ap (λ z. Err z) same ∙ sym i.1)
  one_datum passed passed bytes depth member k at a b h i =
      let same = ok_is (standing (value_at depth member k) bytes at) (None, h.1) (None, i.1) h.2 i.2 in
      (refl, h.3 ∙ ap (λ z. Ok z.1) same ∙ sym i.3)
  one_datum (numeral y) (numeral z) bytes depth member k at a b h i =
      let same = ok_is (standing (number_at k) bytes at) (y, h.0) (z, i.0) h.1 i.1 in
      (ap (λ p. numeral p.0) same, h.2 ∙ ap (λ p. Ok p.1) same ∙ sym i.2)
  one_datum (binary y) (binary z) bytes depth member k at a b h i =
      let same = ok_is (standing byte_list_at bytes at) (y, h.1) (z, i.1) h.2 i.2 in
      (ap (λ p. binary p.0) same, h.3 ∙ ap (λ p. Ok p.1) same ∙ sym i.3)
  one_datum (sequence each size items) (sequence other count others) bytes depth member k at a b h i =
      let same = ok_is (standing list_header_at bytes at) ((each, size), h.2) ((other, count), i.2) h.3 i.3 in
      let P : (Kind × ℕ) × ℕ → Type 0 = λ p. AreData bytes (depth + 1) p.0.0 p.0.0 p.0.1 p.1 others b in
      let rest = one_data items others bytes (depth + 1) each each size h.2 a b h.4 (subst P (sym same) i.4) in
      (ap (λ p. sequence p.0.0 p.0.1 items) same ∙ ap (sequence other count) rest.0, rest.1)
  one_datum (mapping header items) (mapping other others) bytes depth member k at a b h i =
      let same = ok_is (standing map_header_at bytes at) (header, h.2) (other, i.2) h.3 i.3 in
      let P : Option (Kind × Kind × ℕ) × ℕ → Type 0 = λ p. AreData bytes (depth + 1) (key_kind p.0) (value_kind p.0) (entries p.0) p.1 others b in
      let rest = one_data items others bytes (depth + 1) (key_kind header) (value_kind header) (entries header) h.2 a b h.4 (subst P (sym same) i.4) in
      (ap (λ p. mapping p.0 items) same ∙ ap (mapping other) rest.0, rest.1)
  one_datum (structure fields) (structure others) bytes depth member k at a b h i =
      let rest = one_fields fields others bytes (depth + 1) (pos 0) at a b h.2 i.2 in
      (ap structure rest.0, rest.1)
  one_datum d e bytes depth member k at a b h i =
      let apart : form d ≡ form e = sym (form_seen d bytes depth member k at a h) ∙ form_seen e bytes depth member k at b i in
      absurd (omega arith)

  one_data : (items others : Data) (bytes : List ℕ) (depth : ℕ) (first next : Kind) (left at : ℕ) (a b : Result ℕ ThriftFault) → AreData bytes depth first next left at items a → AreData bytes depth first next left at others b → (items ≡ others) × (a ≡ b)
  one_data nothing nothing bytes depth first next left at a b h i = (refl, h.1 ∙ sym i.1)
  one_data nothing (datum e others) bytes depth first next left at a b h i =
      absurd (omega (arith, h.0, i.0))
  one_data (datum d items) nothing bytes depth first next left at a b h i =
      absurd (omega (arith, h.0, i.0))
  one_data (datum d items) (datum e others) bytes depth first next left at a b h i =
      let here = one_datum d e bytes depth true first at h.1 i.1 h.2 i.2 in
      let P : Result ℕ ThriftFault → Type 0 = λ z. Behind z (λ end. AreData bytes depth next first (left - 1) end others b) (λ f. (others ≡ nothing) × (b ≡ Err f)) in
      let rest = go h.1 h.3 (subst P (sym here.1) i.3) (λ end r s. one_data items others bytes depth next first (left - 1) end a b r s) in
      (ap (λ z. datum z items) here.0 ∙ ap (datum e) rest.0, rest.1)
    where
      go : (z : Result ℕ ThriftFault) → Behind z (λ end. AreData bytes depth next first (left - 1) end items a) (λ f. (items ≡ nothing) × (a ≡ Err f)) → Behind z (λ end. AreData bytes depth next first (left - 1) end others b) (λ f. (others ≡ nothing) × (b ≡ Err f)) → ((end : ℕ) → AreData bytes depth next first (left - 1) end items a → AreData bytes depth next first (left - 1) end others b → (items ≡ others) × (a ≡ b)) → (items ≡ others) × (a ≡ b)
      go (Ok end) r s on = on end r s
      go (Err f) r s on = (r.0 ∙ sym s.0, r.1 ∙ sym s.1)

  pub one_fields : (fields others : FieldList) (bytes : List ℕ) (depth : ℕ) (last : ℤ) (at : ℕ) (a b : Result ℕ ThriftFault) → AreFields bytes depth last at fields a → AreFields bytes depth last at others b → (fields ≡ others) × (a ≡ b)
  one_fields (stop place) (stop other) bytes depth last at a b h i =
      (ap stop (h.0 ∙ sym i.0), h.2 ∙ sym i.2)
  one_fields (broken f) (broken g) bytes depth last at a b h i =
      let same = err_is (standing (header_at last) bytes at) f g h.0 i.0 in
      (ap broken same, h.1 ∙ ap (λ z. Err z) same ∙ sym i.1)
  one_fields (field number k d fields) (field other j e others) bytes depth last at a b h i =
      let header = ok_is (standing (header_at last) bytes at) (Some (number, k), h.0) (Some (other, j), i.0) h.1 i.1 in
      let named : (number, k) ≡ (other, j) = some_is (number, k) (other, j) (ap (λ p. p.0) header) in
      let placed : h.0 ≡ i.0 = ap (λ p. p.1) header in
      let P : ℤ × Kind → Type 0 = λ p. IsDatum bytes depth false p.1 i.0 e i.2 in
      let Q : ℕ → Type 0 = λ n. IsDatum bytes depth false k n e i.2 in
      let here = one_datum d e bytes depth false k h.0 h.2 i.2 h.3 (subst Q (sym placed) (subst P (sym named) i.3)) in
      let R : ℤ × Kind → Type 0 = λ p. Behind i.2 (λ end. AreFields bytes depth p.0 end others b) (λ f. (others ≡ broken f) × (b ≡ Err f)) in
      let S : Result ℕ ThriftFault → Type 0 = λ z. Behind z (λ end. AreFields bytes depth number end others b) (λ f. (others ≡ broken f) × (b ≡ Err f)) in
      let rest = go h.2 h.4 (subst S (sym here.1) (subst R (sym named) i.4)) (λ end r s. one_fields fields others bytes depth number end a b r s) in
      (ap (λ p. field p.0 p.1 d fields) named ∙ ap (λ z. field other j z fields) here.0 ∙ ap (field other j e) rest.0, rest.1)
    where
      go : (z : Result ℕ ThriftFault) → Behind z (λ end. AreFields bytes depth number end fields a) (λ f. (fields ≡ broken f) × (a ≡ Err f)) → Behind z (λ end. AreFields bytes depth number end others b) (λ f. (others ≡ broken f) × (b ≡ Err f)) → ((end : ℕ) → AreFields bytes depth number end fields a → AreFields bytes depth number end others b → (fields ≡ others) × (a ≡ b)) → (fields ≡ others) × (a ≡ b)
      go (Ok end) r s on = on end r s
      go (Err f) r s on = (r.0 ∙ sym s.0, r.1 ∙ sym s.1)
  one_fields (stop place) (broken f) bytes depth last at a b h i =
      absurd (ok_err (standing (header_at last) bytes at) (None, at + 1) f h.1 i.0)
  one_fields (broken f) (stop place) bytes depth last at a b h i =
      absurd (ok_err (standing (header_at last) bytes at) (None, at + 1) f i.1 h.0)
  one_fields (stop place) (field other j e others) bytes depth last at a b h i =
      let clash = ok_is (standing (header_at last) bytes at) (None, at + 1) (Some (other, j), i.0) h.1 i.1 in
      absurd (none_some (other, j) (ap (λ p. p.0) clash))
  one_fields (field number k d fields) (stop place) bytes depth last at a b h i =
      let clash = ok_is (standing (header_at last) bytes at) (Some (number, k), h.0) (None, at + 1) h.1 i.1 in
      absurd (none_some (number, k) (sym (ap (λ p. p.0) clash)))
  one_fields (broken f) (field other j e others) bytes depth last at a b h i =
      absurd (ok_err (standing (header_at last) bytes at) (Some (other, j), i.0) f i.1 h.0)
  one_fields (field number k d fields) (broken f) bytes depth last at a b h i =
      absurd (ok_err (standing (header_at last) bytes at) (Some (number, k), h.0) f h.1 i.0)
