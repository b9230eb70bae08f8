-- The record of a JSON value.
use Rattle.std.specs.Prelude.{◌≡◌, ℕ, ◌-◌, ◌≤◌, ◌<◌, Bool, true, false, nat_le, nat_lt, List, [], ◌∷◌, ◌++◌, length, take, map, Ok, Err, refl}
use Rattle.std.proofs.Common.{◌∙◌, ap, ap₂, sym, subst, arith, append_assoc, append-nil, length-append}
use Rattle.std.proofs.Math.Logic.{∥∥₁_elim}
use Rattle.std.proofs.Math.Nat.{ℕ_set}
use mathlib.Core.List.{is_set as List-set}
use Rattle.std.proofs.Math.Seq.{take-append_seam}
use Rattle.std.proofs.lemmas.List.{map-append}
use Rattle.std.proofs.lemmas.Grind.{flat_map-append}
use Rattle.std.specs.List.{flat_map}
use Rattle.select_request.specs.declared.request.Delimiter.{Delimiter}
use Rattle.select_request.specs.declared.request.Output.{Output}
use Rattle.select_request.specs.declared.request.Output.TheVariants.{Json as JsonOutput}
use Rattle.json_text.specs.Grammar.{Json, null, truth, number, string, empty_array, array, empty_object, object, element, member, Members, no_members, more_members, print, print_member, print_members}
use Rattle.json_text.specs.Nodes.{IsNode, Spells, kind_of}
use Rattle.json_text.specs.Skipped.{outside}
use Rattle.json_text.specs.Compact.{tight, tight_member, tight_members, compact, squeezed}
use Rattle.json_text.specs.Walks.{Cursor}
use Rattle.json_text.specs.Naming.{Named, members_of, Coming, IsNextMember}
use Rattle.json_text.specs.declared.node.Kind.TheVariants as kind
use Rattle.json_text.proofs.Prints.{member_apart}
use Rattle.json_text.proofs.Squeezing.{compact_is}
use Rattle.sql_value.specs.declared.value.Value.TheVariants.{Node}
use Rattle.std.proofs.lemmas.Bool.Decides.{nat_tests}
use Rattle.record_output.specs.declared.out.OutFault.{OutFault}
use Rattle.record_output.specs.declared.out.OutFault.TheVariants as fault
use Rattle.record_output.proofs.Recording.{holds_more, holds_closed}
use Rattle.record_output.specs.Records.{Field, first_name, parts_of, joined, opening, separator, closing, begun_text, record_text, node_field, is_object, has_values, values_in, whole_text}
use Rattle.record_output.specs.Writing.{Writing, closed, with_field, is_within, within_limit, Holds, HasSettings}

-- ---- objects

pub object_kind : (tree : Json) → kind.Object ≡ kind_of tree → true ≡ is_object tree
object_kind null e = absurd (cc)
object_kind (truth b) e = absurd (cc)
object_kind (number n) e = absurd (cc)
object_kind (string raw) e = absurd (cc)
object_kind (empty_array blanks) e = absurd (cc)
object_kind (array x xs) e = absurd (cc)
object_kind (empty_object blanks) e = refl
object_kind (object m ms) e = refl

pub other_kind : (tree : Json) → (kind.Object ≡ kind_of tree → ⊥) → false ≡ is_object tree
other_kind null e = refl
other_kind (truth b) e = refl
other_kind (number n) e = refl
other_kind (string raw) e = refl
other_kind (empty_array blanks) e = refl
other_kind (array x xs) e = refl
other_kind (empty_object blanks) e = absurd (e refl)
other_kind (object m ms) e = absurd (e refl)

-- ---- an object ends with its brace

record Braced (bytes : List ℕ) : Type 0 where
  front : List ℕ
  is : bytes ≡ front ++ 125 ∷ []

members_braced : (ms : Members) → Braced (print_members ms [])
unfolding print
members_braced no_members = record { front = []; is = refl }
members_braced (more_members m ms) =
    let later = members_braced ms in
    record { front = 44 ∷ print_member m later.front; is = ap (λ l. 44 ∷ print_member m l) later.is ∙ ap (λ l. 44 ∷ l) (member_apart m later.front (125 ∷ [])) }

object_braced : (tree : Json) → is_object tree ≡ true → Braced (compact tree)
unfolding print tight
object_braced null e = absurd (cc)
object_braced (truth b) e = absurd (cc)
object_braced (number n) e = absurd (cc)
object_braced (string raw) e = absurd (cc)
object_braced (empty_array blanks) e = absurd (cc)
object_braced (array x xs) e = absurd (cc)
object_braced (empty_object blanks) e = record { front = 123 ∷ []; is = refl }
object_braced (object m ms) e =
    let later = members_braced (tight_members ms) in
    record {
      front = 123 ∷ print_member (tight_member m) later.front;
      is = ap (λ l. 123 ∷ print_member (tight_member m) l) later.is ∙ ap (λ l. 123 ∷ l) (member_apart (tight_member m) later.front (125 ∷ []));
    }

without_last : (bytes : List ℕ) → Braced bytes → take (length bytes - 1) bytes ++ 125 ∷ [] ≡ bytes
without_last bytes b =
    let size : length bytes - 1 ≡ length b.front = omega (arith, ap length b.is, length-append b.front (125 ∷ [])) in
    ap₂ (λ n l. take n l ++ 125 ∷ []) size b.is ∙ ap (λ l. l ++ 125 ∷ []) (take-append_seam b.front (125 ∷ [])) ∙ sym b.is

braced_node : (bytes : List ℕ) → ((tree : Json) → Spells bytes tree → is_object tree ≡ true) → IsNode bytes → Braced (squeezed outside bytes)
braced_node bytes told node = subst Braced (sym (compact_is bytes node.tree node.spells)) (object_braced node.tree (told node.tree node.spells))

pub brace_last : (bytes : List ℕ) → ((tree : Json) → Spells bytes tree → is_object tree ≡ true) → ∥ IsNode bytes ∥₁
    → take (length (squeezed outside bytes) - 1) (squeezed outside bytes) ++ 125 ∷ [] ≡ squeezed outside bytes
brace_last bytes told node = ∥∥₁_elim node (hlevel (ℕ_set, List-set)) (λ x. without_last (squeezed outside bytes) (braced_node bytes told x))

some_brace : (bytes : List ℕ) → Braced bytes → 1 - length bytes ≡ 0
some_brace bytes b = omega (arith, ap length b.is, length-append b.front (125 ∷ []))

pub brace_there : (bytes : List ℕ) → ((tree : Json) → Spells bytes tree → is_object tree ≡ true) → ∥ IsNode bytes ∥₁ → 1 - length (squeezed outside bytes) ≡ 0
brace_there bytes told node = ∥∥₁_elim node (hlevel ℕ_set) (λ x. some_brace (squeezed outside bytes) (braced_node bytes told x))

-- ---- the values of an object, one after the other

-- some values of the object stand in the record, and the walk has the members of the others ahead
pub record Passed (w : Writing) (walk : Cursor) (tree : Json) : Type 0 where
  pub done : List Json
  pub left : List Named
  pub whole : values_in tree ≡ done ++ map (λ m. m.value) left
  pub ahead : Coming walk left
  pub holds : Holds w (map node_field done)

pub none_passed : (w : Writing) (walk : Cursor) (tree : Json) → Holds w [] → Coming walk (members_of tree) → Passed w walk tree
none_passed w walk tree h c = record { done = []; left = members_of tree; whole = refl; ahead = c; holds = h }

-- a list of parts is no shorter with more of them
joined_longer : (s : List ℕ) (ps qs : List (List ℕ)) → length (joined s ps) ≤ length (joined s (ps ++ qs))
joined_longer s [] qs = omega arith
joined_longer s (p ∷ []) [] = omega arith
joined_longer s (p ∷ []) (q ∷ qs) = omega (arith, length-append p (s ++ joined s (q ∷ qs)))
joined_longer s (p ∷ p' ∷ ps) qs =
    omega (
      arith,
      joined_longer s (p' ∷ ps) qs,
      length-append p (s ++ joined s (p' ∷ ps)),
      length-append s (joined s (p' ∷ ps)),
      length-append p (s ++ joined s (p' ∷ (ps ++ qs))),
      length-append s (joined s (p' ∷ (ps ++ qs))),
    )

pub record_longer : (output : Output) (fields more : List Field) → length (record_text output fields) ≤ length (record_text output (fields ++ more))
record_longer output fields more =
    let parts = flat_map (parts_of output) fields in
    let others = flat_map (parts_of output) more in
    let same = flat_map-append (parts_of output) fields more in
    let longer = joined_longer (separator output) parts others in
    omega (
      arith,
      longer,
      ap (λ l. length (joined (separator output) l)) same,
      length-append (begun_text output fields) (closing output),
      length-append (begun_text output (fields ++ more)) (closing output),
      length-append (opening output) (joined (separator output) parts),
      length-append (opening output) (joined (separator output) (flat_map (parts_of output) (fields ++ more))),
    )

past_limit : (n longest : ℕ) → nat_le n longest ≡ false → longest < n
past_limit n longest h = grind (arith, nat_tests)

-- ---- the last brace is put behind the object again

pub object_closed : (bytes out text close : List ℕ) → bytes ≡ text → out ≡ text → close ≡ 125 ∷ [] → take (length text - 1) text ++ 125 ∷ [] ≡ text
    → take (length bytes - 1) out ++ close ≡ text
object_closed bytes out text close same here closes last =
    ap₂ (λ n l. take n l ++ close) (ap (λ b. length b - 1) same) here ∙ ap (λ k. take (length text - 1) text ++ k) closes ∙ last

-- ---- one value more

as_field : (tree : Json) (name value : List ℕ) → name ≡ first_name → value ≡ print tree [] → record { name = name; value = Node value } ≡ node_field tree
as_field tree name value named same = ap₂ (λ n b. record { name = n; value = Node b }) named same

module _ (w : Writing) (walk next : Cursor) (tree : Json) (text name value : List ℕ) (place : ℕ) (p : Passed w walk tree)
    (told : (items : List Named) → Coming walk items → IsNextMember items text place value next) (named : name ≡ first_name) where
  fields_so_far : List Json → List Field
  fields_so_far done = map node_field done

  with_one : map node_field p.done ++ record { name = name; value = Node value } ∷ [] ≡ map node_field (p.done ++ (told p.left p.ahead).first.value ∷ [])
  with_one =
      let n = told p.left p.ahead in
      ap (λ f. map node_field p.done ++ f ∷ []) (as_field n.first.value name value named n.same) ∙ sym (map-append node_field p.done (n.first.value ∷ []))

  split_here : values_in tree ≡ (p.done ++ (told p.left p.ahead).first.value ∷ []) ++ map (λ m. m.value) (told p.left p.ahead).others
  split_here =
      let n = told p.left p.ahead in
      p.whole ∙ ap (λ l. p.done ++ map (λ m. m.value) l) n.whole ∙ sym (append_assoc p.done (n.first.value ∷ []) (map (λ m. m.value) n.others))

  pub goes_on : (new : Writing) → Holds new (map node_field p.done ++ record { name = name; value = Node value } ∷ []) → Passed new next tree
  goes_on new h =
      let n = told p.left p.ahead in
      record {
        done = p.done ++ n.first.value ∷ [];
        left = n.others;
        whole = split_here;
        ahead = n.ahead;
        holds = subst (Holds new) with_one h;
      }

  -- a record that is too long with it is too long with all of them
  pub over_values : is_within (with_field w (record { name = name; value = Node value })) ≡ false → w.longest < length (record_text w.output (map node_field (values_in tree)))
  over_values over =
      let n = told p.left p.ahead in
      let field : Field = record { name = name; value = Node value } in
      let here : closed (with_field w field) ≡ record_text w.output (map node_field p.done ++ field ∷ []) =
      holds_closed (with_field w field) (map node_field p.done ++ field ∷ []) (holds_more w (map node_field p.done) field p.holds) in
      let values = p.done ++ n.first.value ∷ [] in
      let all : map node_field (values_in tree) ≡ map node_field values ++ map node_field (map (λ m. m.value) n.others) =
      ap (map node_field) split_here ∙ map-append node_field values (map (λ m. m.value) n.others) in
      let longer = record_longer w.output (map node_field values) (map node_field (map (λ m. m.value) n.others)) in
      let size : length (closed (with_field w field)) ≡ length (record_text w.output (map node_field values)) = ap length here ∙ ap (λ l. length (record_text w.output l)) with_one in
      let sizes : length (record_text w.output (map node_field (values_in tree))) ≡ length (record_text w.output (map node_field values ++ map node_field (map (λ m. m.value) n.others))) = ap (λ l. length (record_text w.output l)) all in
      let above : w.longest < length (closed (with_field w field)) = past_limit (length (closed (with_field w field))) w.longest over in
      omega arith

pub all_passed : (w : Writing) (walk next : Cursor) (tree : Json) → Passed w walk tree → ((items : List Named) → Coming walk items → (items ≡ []) × (next ≡ walk))
    → Holds w (map node_field (values_in tree))
all_passed w walk next tree p over =
    let none = (over p.left p.ahead).0 in
    let all : values_in tree ≡ p.done = p.whole ∙ ap (λ l. p.done ++ map (λ m. m.value) l) none ∙ append-nil p.done in
    subst (λ l. Holds w (map node_field l)) (sym all) p.holds

-- ---- what adding a value answers

pub err_over : (b : Bool) (e : OutFault) → Err e ≡ within_limit b → (b ≡ false) × (e ≡ fault.OverMaxRecordSize)
err_over true e h = absurd (cc)
err_over false e h = (refl, cc)

pub ok_within : (b : Bool) (x : Unit {0}) → Ok x ≡ within_limit b → b ≡ true
ok_within true x h = refl
ok_within false x h = absurd (cc)

pub empty_within : (w : Writing) → closed w ≡ [] → is_within w ≡ true
empty_within w e = let size : length (closed w) ≡ 0 = ap length e in grind (arith, nat_tests)

pub same_settings : (old w new : Writing) (field : Field) → HasSettings old w → new ≡ with_field w field → HasSettings old new
same_settings old w new field h is = record { output = ap (λ v. v.output) is ∙ h.output; longest = ap (λ v. v.longest) is ∙ h.longest }

pub whole_object : (output : Output) (delimiter : Delimiter) (tree : Json) (bytes : List ℕ) → output ≡ JsonOutput delimiter → is_object tree ≡ true → Spells bytes tree
    → whole_text output tree ≡ squeezed outside bytes
whole_object output delimiter tree bytes json is spells = rw (json, is) (sym (compact_is bytes tree spells))

-- ---- whether a value stands in the record

long_name : (name rest : List ℕ) → nat_lt 2 (length (123 ∷ 34 ∷ (name ++ 34 ∷ 58 ∷ rest))) ≡ true
long_name name rest = let size = length-append name (34 ∷ 58 ∷ rest) in grind (arith, nat_tests)

json_some : (tree : Json) → is_object tree ≡ true → nat_lt 2 (length (compact tree)) ≡ has_values tree
unfolding print tight
json_some null e = absurd (cc)
json_some (truth b) e = absurd (cc)
json_some (number n) e = absurd (cc)
json_some (string raw) e = absurd (cc)
json_some (empty_array blanks) e = absurd (cc)
json_some (array x xs) e = absurd (cc)
json_some (empty_object blanks) e = refl
json_some (object (member before name gap (element front v back)) ms) e = long_name name _

pub some_members : (bytes : List ℕ) (tree : Json) → Spells bytes tree → is_object tree ≡ true → nat_lt 2 (length (squeezed outside bytes)) ≡ has_values tree
some_members bytes tree spells braces = ap (λ l. nat_lt 2 (length l)) (compact_is bytes tree spells) ∙ json_some tree braces
