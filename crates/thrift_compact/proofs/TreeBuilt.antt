-- Any bytes have a tree.
use Rattle.std.proofs.Common.{◌≡◌, ℕ, zero, suc, ◌+◌, ◌-◌, ◌*◌, ◌<◌, ◌≤◌, ℤ, pos, Bool, true, false, IsTrue, nat_le, List, [], ◌∷◌, ◌++◌, length, drop, take, Option, Some, None, Result, Ok, Err, refl, ap, sym, ◌∙◌, arith}
use Rattle.std.proofs.lemmas.Bool.{leb-false, ltb-false}
use Rattle.std.proofs.lemmas.List.{take-append-drop, length-take}
use Rattle.std.proofs.Math.ListN.{length-drop}
use Rattle.thrift_compact.specs.declared.faults.ThriftFault.{ThriftFault}
use Rattle.thrift_compact.specs.declared.faults.ThriftFaultCode.TheVariants.{TooDeep, Truncated, BadKind}
use Rattle.thrift_compact.specs.declared.kinds.Kind.{Kind}
use Rattle.thrift_compact.specs.declared.kinds.Kind.TheVariants as kind
use Rattle.thrift_compact.specs.declared.stack.Open.{Open}
use Rattle.thrift_compact.specs.Items.{Item, number_at, header_at, list_header_at, map_header_at, byte_list_at, value_at}
use Rattle.thrift_compact.specs.Runs.{placed}
use Rattle.thrift_compact.specs.Varints.{IsBytes, varint_at}
use Rattle.thrift_compact.specs.Grammar.{SpellsNumber, SpellsHeader, SpellsByteList, SpellsListHeader, SpellsMapHeader}
use Rattle.thrift_compact.specs.Trees.{Datum, Data, FieldList, cut, passed, numeral, binary, sequence, mapping, structure, nothing, datum, stop, field, broken, standing, is_passed, is_sequence, key_kind, value_kind, entries, IsDatum, AreData, AreFields, HasTree}
use Rattle.thrift_compact.proofs.VarintLaws.{ok_same, guard_ok}
use Rattle.thrift_compact.proofs.ItemLaws.{number_found, number_only, header_found, header_only, byte_list_found, byte_list_only, list_header_found, list_header_only, map_header_found, map_header_only}
use Rattle.thrift_compact.proofs.RunLaws.{bytes_behind}

-- an item that is found takes some of the bytes that are there
record Front (bytes : List ℕ) (taken : ℕ) : Type 0 where
  some : 0 < taken
  there : taken ≤ length bytes

front_of : {X : Type 0} (read : List ℕ → Item X) (Spells : X → List ℕ → Type 0) (f : ThriftFault) → read [] ≡ Err f → ((bytes : List ℕ) (x : X) (taken : ℕ) → IsBytes bytes → read bytes ≡ Ok (x, taken) → Spells x (take taken bytes)) → ((x : X) (text rest : List ℕ) → Spells x text → read (text ++ rest) ≡ Ok (x, length text)) → (bytes : List ℕ) (x : X) (taken : ℕ) → IsBytes bytes → read bytes ≡ Ok (x, taken) → Front bytes taken
front_of read Spells f none found only bytes x zero fits e =
    absurd (let nothing_there = only x [] [] (found bytes x zero fits e) in cc)
front_of read Spells f none found only bytes x (suc n) fits e =
    let spelled = only x (take (suc n) bytes) (drop (suc n) bytes) (found bytes x (suc n) fits e) in
    let whole : read (take (suc n) bytes ++ drop (suc n) bytes) ≡ Ok (x, suc n) = ap read (take-append-drop (suc n) bytes) ∙ e in
    let same = ok_same (x, suc n) (x, length (take (suc n) bytes)) whole spelled in
    let len : suc n ≡ length (take (suc n) bytes) = ap (λ p. p.1) same in
    record { some = omega arith; there = omega (arith, len, length-take (suc n) bytes) }

header_front : (last : ℤ) (bytes : List ℕ) (x : Option (ℤ × Kind)) (taken : ℕ) → IsBytes bytes → header_at last bytes ≡ Ok (x, taken) → Front bytes taken
unfolding header_at
header_front last = front_of (header_at last) (SpellsHeader last) (record { code = Truncated; at = 0 }) refl (header_found last) (header_only last)

list_front : (bytes : List ℕ) (x : Kind × ℕ) (taken : ℕ) → IsBytes bytes → list_header_at bytes ≡ Ok (x, taken) → Front bytes taken
unfolding list_header_at
list_front = front_of list_header_at SpellsListHeader (record { code = Truncated; at = 0 }) refl list_header_found list_header_only

map_front : (bytes : List ℕ) (x : Option (Kind × Kind × ℕ)) (taken : ℕ) → IsBytes bytes → map_header_at bytes ≡ Ok (x, taken) → Front bytes taken
unfolding map_header_at varint_at
map_front = front_of map_header_at SpellsMapHeader (record { code = Truncated; at = 0 }) refl map_header_found map_header_only

bytes_front : (bytes list : List ℕ) (taken : ℕ) → IsBytes bytes → byte_list_at bytes ≡ Ok (list, taken) → Front bytes taken
unfolding byte_list_at varint_at
bytes_front = front_of byte_list_at SpellsByteList (record { code = Truncated; at = 0 }) refl byte_list_found byte_list_only

none_number : (k : Kind) → (f : ThriftFault) × (number_at k [] ≡ Err f)
unfolding number_at varint_at
none_number kind.I8 = (record { code = Truncated; at = 0 }, refl)
none_number kind.I16 = (record { code = Truncated; at = 0 }, refl)
none_number kind.I32 = (record { code = Truncated; at = 0 }, refl)
none_number kind.I64 = (record { code = Truncated; at = 0 }, refl)
none_number _ = (record { code = BadKind; at = 0 }, refl)

numeral_front : (k : Kind) (bytes : List ℕ) (x : ℤ) (taken : ℕ) → IsBytes bytes → number_at k bytes ≡ Ok (x, taken) → Front bytes taken
numeral_front k =
    let none = none_number k in
    front_of (number_at k) (SpellsNumber k) none.0 none.1 (number_found k) (number_only k)

-- the bytes of which a member takes one at least
abbrev least : Bool → ℕ
least true = 1
least false = 0

-- an answer's place lies between these
abbrev Within : ℕ → ℕ → Result ℕ ThriftFault → Type 0
Within from to (Ok end) = (from ≤ end) × (end ≤ to)
Within from to (Err f) = Unit {0}

record DatumBuilt (bytes : List ℕ) (depth : ℕ) (member : Bool) (k : Kind) (at : ℕ) : Type 0 where
  d : Datum
  answer : Result ℕ ThriftFault
  is : IsDatum bytes depth member k at d answer
  within : Within (at + least member) (length bytes) answer

record DataBuilt (bytes : List ℕ) (depth : ℕ) (first next : Kind) (n at : ℕ) : Type 0 where
  items : Data
  answer : Result ℕ ThriftFault
  are : AreData bytes depth first next n at items answer
  within : Within at (length bytes) answer

record FieldsBuilt (bytes : List ℕ) (depth : ℕ) (last : ℤ) (at : ℕ) : Type 0 where
  fields : FieldList
  answer : Result ℕ ThriftFault
  are : AreFields bytes depth last at fields answer
  within : Within (at + 1) (length bytes) answer

-- the item at a place, and where it ends
stands : {X : Type 0} (read : List ℕ → Item X) (bytes : List ℕ) (at : ℕ) (x : X) (taken : ℕ) → read (drop at bytes) ≡ Ok (x, taken) → standing read bytes at ≡ Ok (x, at + taken)
stands read bytes at x taken e = rw e refl

stands_not : {X : Type 0} (read : List ℕ → Item X) (bytes : List ℕ) (at : ℕ) (f : ThriftFault) → read (drop at bytes) ≡ Err f → standing read bytes at ≡ Err (placed at f)
stands_not read bytes at f e = rw e refl

least_small : (member : Bool) → least member ≤ 1
least_small true = omega arith
least_small false = omega arith

-- a faulty front
cut_built : (bytes : List ℕ) (depth : ℕ) (member : Bool) (k : Kind) (at : ℕ) (f : ThriftFault) → value_at depth member k (drop at bytes) ≡ Err f → DatumBuilt bytes depth member k at
cut_built bytes depth member k at f e = record {
  d = cut (placed at f);
  answer = Err (placed at f);
  is = (stands_not (value_at depth member k) bytes at f e, refl);
  within = tt;
}

-- a place behind an item that was found
ends_within : (bytes : List ℕ) (at taken : ℕ) (member : Bool) → at ≤ length bytes → Front (drop at bytes) taken → Within (at + least member) (length bytes) (Ok (at + taken))
ends_within bytes at taken member inside front =
    (omega (arith, front.some, least_small member), omega (arith, front.there, length-drop at bytes))

numeral_built : (bytes : List ℕ) (depth : ℕ) (member : Bool) (k : Kind) (at : ℕ) → IsBytes bytes → at ≤ length bytes → ((f : ThriftFault) → number_at k (drop at bytes) ≡ Err f → value_at depth member k (drop at bytes) ≡ Err f) → DatumBuilt bytes depth member k at
numeral_built bytes depth member k at fits inside none = go (number_at k (drop at bytes)) refl
  where
    go : (r : Item ℤ) → number_at k (drop at bytes) ≡ r → DatumBuilt bytes depth member k at
    go (Err f) e = cut_built bytes depth member k at f (none f e)
    go (Ok (z, taken)) e = record {
      d = numeral z;
      answer = Ok (at + taken);
      is = (at + taken, stands (number_at k) bytes at z taken e, refl);
      within = ends_within bytes at taken member inside (numeral_front k (drop at bytes) z taken (bytes_behind bytes at fits) e);
    }

binary_built : (bytes : List ℕ) (depth : ℕ) (member : Bool) (at : ℕ) → IsBytes bytes → at ≤ length bytes → DatumBuilt bytes depth member kind.Binary at
unfolding value_at
binary_built bytes depth member at fits inside = go (byte_list_at (drop at bytes)) refl
  where
    go : (r : Item (List ℕ)) → byte_list_at (drop at bytes) ≡ r → DatumBuilt bytes depth member kind.Binary at
    go (Err f) e = cut_built bytes depth member kind.Binary at f (rw e refl)
    go (Ok (list, taken)) e = record {
      d = binary list;
      answer = Ok (at + taken);
      is = (refl, at + taken, stands byte_list_at bytes at list taken e, refl);
      within = ends_within bytes at taken member inside (bytes_front (drop at bytes) list taken (bytes_behind bytes at fits) e);
    }

-- a value that is passed over
passed_built : (bytes : List ℕ) (depth : ℕ) (member : Bool) (k : Kind) (at : ℕ) → IsTrue (is_passed k) → (r : Item (Option Open)) → value_at depth member k (drop at bytes) ≡ r → ((o : Option Open) (taken : ℕ) → r ≡ Ok (o, taken) → (o ≡ None) × (least member ≤ taken) × (taken ≤ length (drop at bytes))) → at ≤ length bytes → DatumBuilt bytes depth member k at
passed_built bytes depth member k at is (Err f) e front inside = cut_built bytes depth member k at f e
passed_built bytes depth member k at is (Ok (o, taken)) e front inside =
    let h = front o taken refl in
    record {
      d = passed;
      answer = Ok (at + taken);
      is = (is, at + taken, stands (value_at depth member k) bytes at None taken (rw e (ap (λ z. Ok (z, taken)) h.0)), refl);
      within = (omega (arith, h.1), omega (arith, h.2, length-drop at bytes));
    }

truth_front : (depth : ℕ) (member : Bool) (bytes : List ℕ) (o : Option Open) (taken : ℕ) → value_at depth member kind.True bytes ≡ Ok (o, taken) → (o ≡ None) × (least member ≤ taken) × (taken ≤ length bytes)
unfolding value_at
truth_front depth true [] o taken e = absurd cc
truth_front depth true (b ∷ bytes) o taken e =
    let same = ok_same _ _ refl e in
    let one : 1 ≡ taken = ap (λ p. p.1) same in
    (sym (ap (λ p. p.0) same), omega arith, omega arith)
truth_front depth false bytes o taken e =
    let same = ok_same _ _ refl e in
    let none : 0 ≡ taken = ap (λ p. p.1) same in
    (sym (ap (λ p. p.0) same), omega arith, omega arith)

false_front : (depth : ℕ) (member : Bool) (bytes : List ℕ) (o : Option Open) (taken : ℕ) → value_at depth member kind.False bytes ≡ Ok (o, taken) → (o ≡ None) × (least member ≤ taken) × (taken ≤ length bytes)
unfolding value_at
false_front depth member bytes o taken e = truth_front depth member bytes o taken e

double_front : (depth : ℕ) (member : Bool) (bytes : List ℕ) (o : Option Open) (taken : ℕ) → value_at depth member kind.Double bytes ≡ Ok (o, taken) → (o ≡ None) × (least member ≤ taken) × (taken ≤ length bytes)
unfolding value_at
double_front depth member bytes o taken e =
    let g = guard_ok _ _ _ _ e in
    let same = ok_same _ _ refl g.1 in
    let eight : 8 ≡ taken = ap (λ p. p.1) same in
    let room : 8 ≤ length bytes = ltb-false _ _ g.0 in
    (sym (ap (λ p. p.0) same), omega (arith, least_small member), omega arith)

-- so many are open already
full_built : (bytes : List ℕ) (depth : ℕ) (member : Bool) (k : Kind) (at : ℕ) → value_at depth member k (drop at bytes) ≡ Err (record { code = TooDeep; at = 0 }) → DatumBuilt bytes depth member k at
full_built bytes depth member k at e = cut_built bytes depth member k at (record { code = TooDeep; at = 0 }) e

weaker : (from below to : ℕ) (answer : Result ℕ ThriftFault) → below ≤ from → Within from to answer → Within below to answer
weaker from below to (Ok end) h w = (omega (arith, w.0), w.1)
weaker from below to (Err f) h w = tt

sequence_built : (bytes : List ℕ) (depth : ℕ) (member : Bool) (k : Kind) (at : ℕ) → IsTrue (is_sequence k) → IsBytes bytes → at ≤ length bytes → value_at depth member k ≡ value_at depth member kind.List → ((each : Kind) (size end : ℕ) → at < end → end ≤ length bytes → DataBuilt bytes (depth + 1) each each size end) → DatumBuilt bytes depth member k at
unfolding value_at
sequence_built bytes depth member k at is fits inside like inner = go (list_header_at (drop at bytes)) refl
  where
    Read : Type 0
    Read = Item (Kind × ℕ)

    room : (each : Kind) (size taken : ℕ) → list_header_at (drop at bytes) ≡ Ok ((each, size), taken) → (t : Bool) → nat_le 32 depth ≡ t → DatumBuilt bytes depth member k at
    room each size taken e true h = full_built bytes depth member k at (ap (λ g. g (drop at bytes)) like ∙ rw (e, h) refl)
    room each size taken e false h =
        let front = list_front (drop at bytes) (each, size) taken (bytes_behind bytes at fits) e in
        let some : at < at + taken = omega (arith, front.some) in
        let b = inner each size (at + taken) some (omega (arith, front.there, length-drop at bytes)) in
        record {
          d = sequence each size b.items;
          answer = b.answer;
          is = (is, leb-false _ _ h, at + taken, stands list_header_at bytes at (each, size) taken e, b.are);
          within = weaker (at + taken) (at + least member) (length bytes) b.answer (omega (arith, some, least_small member)) b.within;
        }

    go : (r : Read) → list_header_at (drop at bytes) ≡ r → DatumBuilt bytes depth member k at
    go (Err f) e = cut_built bytes depth member k at f (ap (λ g. g (drop at bytes)) like ∙ rw e refl)
    go (Ok ((each, size), taken)) e = room each size taken e (nat_le 32 depth) refl

mapping_built : (bytes : List ℕ) (depth : ℕ) (member : Bool) (at : ℕ) → IsBytes bytes → at ≤ length bytes → ((first next : Kind) (size end : ℕ) → at < end → end ≤ length bytes → DataBuilt bytes (depth + 1) first next size end) → DatumBuilt bytes depth member kind.Map at
unfolding value_at
mapping_built bytes depth member at fits inside inner = go (map_header_at (drop at bytes)) refl
  where
    room : (header : Option (Kind × Kind × ℕ)) (taken : ℕ) → map_header_at (drop at bytes) ≡ Ok (header, taken) → (t : Bool) → nat_le 32 depth ≡ t → DatumBuilt bytes depth member kind.Map at
    room header taken e true h = full_built bytes depth member kind.Map at (rw (e, h) refl)
    room header taken e false h =
        let front = map_front (drop at bytes) header taken (bytes_behind bytes at fits) e in
        let some : at < at + taken = omega (arith, front.some) in
        let b = inner (key_kind header) (value_kind header) (entries header) (at + taken) some (omega (arith, front.there, length-drop at bytes)) in
        record {
          d = mapping header b.items;
          answer = b.answer;
          is = (refl, leb-false _ _ h, at + taken, stands map_header_at bytes at header taken e, b.are);
          within = weaker (at + taken) (at + least member) (length bytes) b.answer (omega (arith, some, least_small member)) b.within;
        }

    go : (r : Item (Option (Kind × Kind × ℕ))) → map_header_at (drop at bytes) ≡ r → DatumBuilt bytes depth member kind.Map at
    go (Err f) e = cut_built bytes depth member kind.Map at f (rw e refl)
    go (Ok (header, taken)) e = room header taken e (nat_le 32 depth) refl

structure_built : (bytes : List ℕ) (depth : ℕ) (member : Bool) (at : ℕ) → FieldsBuilt bytes (depth + 1) (pos 0) at → DatumBuilt bytes depth member kind.Struct at
unfolding value_at
structure_built bytes depth member at b = room (nat_le 32 depth) refl
  where
    room : (t : Bool) → nat_le 32 depth ≡ t → DatumBuilt bytes depth member kind.Struct at
    room true h = full_built bytes depth member kind.Struct at (rw h refl)
    room false h = record {
      d = structure b.fields;
      answer = b.answer;
      is = (refl, leb-false _ _ h, b.are);
      within = weaker (at + 1) (at + least member) (length bytes) b.answer (omega (arith, least_small member)) b.within;
    }

-- a member, and then the others
member_built : (bytes : List ℕ) (depth : ℕ) (first next : Kind) (n at : ℕ) → 0 < n → at ≤ length bytes → (b : DatumBuilt bytes depth true first at) → ((end : ℕ) → at < end → end ≤ length bytes → DataBuilt bytes depth next first (n - 1) end) → DataBuilt bytes depth first next n at
member_built bytes depth first next n at some inside b more = go b.answer b.is b.within
  where
    go : (between : Result ℕ ThriftFault) → IsDatum bytes depth true first at b.d between → Within (at + 1) (length bytes) between → DataBuilt bytes depth first next n at
    go (Ok end) is within =
        let forward : at < end = omega (arith, within.0) in
        let r = more end forward within.1 in
        record {
          items = datum b.d r.items;
          answer = r.answer;
          are = (some, Ok end, is, r.are);
          within = weaker end at (length bytes) r.answer (omega arith) r.within;
        }
    go (Err f) is within = record {
      items = datum b.d nothing;
      answer = Err f;
      are = (some, Err f, is, (refl, refl));
      within = tt;
    }

-- a field, and then the others
field_built : (bytes : List ℕ) (depth : ℕ) (last number : ℤ) (k : Kind) (at begin : ℕ) → standing (header_at last) bytes at ≡ Ok (Some (number, k), begin) → at < begin → (b : DatumBuilt bytes depth false k begin) → ((end : ℕ) → begin ≤ end → end ≤ length bytes → FieldsBuilt bytes depth number end) → FieldsBuilt bytes depth last at
field_built bytes depth last number k at begin header forward b more = go b.answer b.is b.within
  where
    go : (between : Result ℕ ThriftFault) → IsDatum bytes depth false k begin b.d between → Within (begin + 0) (length bytes) between → FieldsBuilt bytes depth last at
    go (Ok end) is within =
        let r = more end (omega (arith, within.0)) within.1 in
        record {
          fields = field number k b.d r.fields;
          answer = r.answer;
          are = (begin, header, Ok end, is, r.are);
          within = weaker (end + 1) (at + 1) (length bytes) r.answer (omega (arith, within.0)) r.within;
        }
    go (Err f) is within = record {
      fields = field number k b.d (broken f);
      answer = Err f;
      are = (begin, header, Err f, is, (refl, refl));
      within = tt;
    }

-- the fields from a place on, by their first header
header_built : (bytes : List ℕ) (depth : ℕ) (last : ℤ) (at : ℕ) → IsBytes bytes → at ≤ length bytes → ((number : ℤ) (k : Kind) (begin : ℕ) → standing (header_at last) bytes at ≡ Ok (Some (number, k), begin) → at < begin → begin ≤ length bytes → FieldsBuilt bytes depth last at) → ((h : Option (ℤ × Kind)) (taken : ℕ) → header_at last (drop at bytes) ≡ Ok (None, taken) → taken ≡ 1) → FieldsBuilt bytes depth last at
header_built bytes depth last at fits inside more stops = go (header_at last (drop at bytes)) refl
  where
    go : (r : Item (Option (ℤ × Kind))) → header_at last (drop at bytes) ≡ r → FieldsBuilt bytes depth last at
    go (Err f) e = record {
      fields = broken (placed at f);
      answer = Err (placed at f);
      are = (stands_not (header_at last) bytes at f e, refl);
      within = tt;
    }
    go (Ok (None, taken)) e =
        let front = header_front last (drop at bytes) None taken (bytes_behind bytes at fits) e in
        let one = stops None taken e in
        record {
          fields = stop at;
          answer = Ok (at + 1);
          are = (refl, stands (header_at last) bytes at None 1 (e ∙ ap (λ z. Ok (None, z)) one), refl);
          within = (omega arith, omega (arith, one, front.there, length-drop at bytes));
        }
    go (Ok (Some (number, k), taken)) e =
        let front = header_front last (drop at bytes) (Some (number, k)) taken (bytes_behind bytes at fits) e in
        more number k (at + taken) (stands (header_at last) bytes at (Some (number, k)) taken e) (omega (arith, front.some)) (omega (arith, front.there, length-drop at bytes))

stop_one : (last : ℤ) (bytes : List ℕ) (taken : ℕ) → IsBytes bytes → header_at last bytes ≡ Ok (None, taken) → taken ≡ 1
stop_one last bytes taken fits e =
    let front = header_front last bytes None taken fits e in
    let text : take taken bytes ≡ 0 ∷ [] = header_found last bytes None taken fits e in
    let len : length (take taken bytes) ≡ 1 = ap length text in
    omega (arith, len, length-take taken bytes, front.there)

mutual
  unfolding value_at

  data_built : (fuel : ℕ) (bytes : List ℕ) (depth : ℕ) (first next : Kind) (n at : ℕ) → IsBytes bytes → at ≤ length bytes → 3 * (length bytes - at) + 2 < fuel → DataBuilt bytes depth first next n at
  data_built zero bytes depth first next n at fits inside enough = absurd (omega arith)
  data_built (suc fuel) bytes depth first next zero at fits inside enough = record {
    items = nothing;
    answer = Ok at;
    are = (refl, refl);
    within = (omega arith, inside);
  }
  data_built (suc fuel) bytes depth first next (suc n) at fits inside enough =
      member_built bytes depth first next (suc n) at (omega arith) inside (datum_built fuel bytes depth true first at fits inside (omega arith))
      (λ end forward within. data_built fuel bytes depth next first (suc n - 1) end fits within (omega arith))

  datum_built : (fuel : ℕ) (bytes : List ℕ) (depth : ℕ) (member : Bool) (k : Kind) (at : ℕ) → IsBytes bytes → at ≤ length bytes → 3 * (length bytes - at) + 1 < fuel → DatumBuilt bytes depth member k at
  datum_built zero bytes depth member k at fits inside enough = absurd (omega arith)
  datum_built (suc fuel) bytes depth member kind.True at fits inside enough =
      passed_built bytes depth member kind.True at refl (value_at depth member kind.True (drop at bytes)) refl (truth_front depth member (drop at bytes)) inside
  datum_built (suc fuel) bytes depth member kind.False at fits inside enough =
      passed_built bytes depth member kind.False at refl (value_at depth member kind.False (drop at bytes)) refl (false_front depth member (drop at bytes)) inside
  datum_built (suc fuel) bytes depth member kind.Double at fits inside enough =
      passed_built bytes depth member kind.Double at refl (value_at depth member kind.Double (drop at bytes)) refl (double_front depth member (drop at bytes)) inside
  datum_built (suc fuel) bytes depth member kind.I8 at fits inside enough = numeral_built bytes depth member kind.I8 at fits inside (λ f e. rw e refl)
  datum_built (suc fuel) bytes depth member kind.I16 at fits inside enough = numeral_built bytes depth member kind.I16 at fits inside (λ f e. rw e refl)
  datum_built (suc fuel) bytes depth member kind.I32 at fits inside enough = numeral_built bytes depth member kind.I32 at fits inside (λ f e. rw e refl)
  datum_built (suc fuel) bytes depth member kind.I64 at fits inside enough = numeral_built bytes depth member kind.I64 at fits inside (λ f e. rw e refl)
  datum_built (suc fuel) bytes depth member kind.Binary at fits inside enough = binary_built bytes depth member at fits inside
  datum_built (suc fuel) bytes depth member kind.List at fits inside enough =
      sequence_built bytes depth member kind.List at refl fits inside refl (λ each size end forward within. data_built fuel bytes (depth + 1) each each size end fits within (omega arith))
  datum_built (suc fuel) bytes depth member kind.Set at fits inside enough =
      sequence_built bytes depth member kind.Set at refl fits inside refl (λ each size end forward within. data_built fuel bytes (depth + 1) each each size end fits within (omega arith))
  datum_built (suc fuel) bytes depth member kind.Map at fits inside enough =
      mapping_built bytes depth member at fits inside (λ first next size end forward within. data_built fuel bytes (depth + 1) first next size end fits within (omega arith))
  datum_built (suc fuel) bytes depth member kind.Struct at fits inside enough =
      structure_built bytes depth member at (fields_built fuel bytes (depth + 1) (pos 0) at fits inside (omega arith))

  fields_built : (fuel : ℕ) (bytes : List ℕ) (depth : ℕ) (last : ℤ) (at : ℕ) → IsBytes bytes → at ≤ length bytes → 3 * (length bytes - at) < fuel → FieldsBuilt bytes depth last at
  fields_built zero bytes depth last at fits inside enough = absurd (omega arith)
  fields_built (suc fuel) bytes depth last at fits inside enough =
      header_built bytes depth last at fits inside
      (λ number k begin header forward within. field_built bytes depth last number k at begin header forward (datum_built fuel bytes depth false k begin fits within (omega arith))
      (λ end on inside'. fields_built fuel bytes depth number end fits inside' (omega arith)))
      (λ h taken e. stop_one last (drop at bytes) taken (bytes_behind bytes at fits) e)

-- the bytes of a struct have a tree
pub tree_built : (bytes : List ℕ) → IsBytes bytes → HasTree bytes
tree_built bytes fits =
    let b = fields_built (3 * length bytes + 1) bytes 1 (pos 0) 0 fits (omega arith) (omega arith) in
    record { fields = b.fields; answer = b.answer; are = b.are }
