-- A JSON value's record by its bytes is the one by its tree.
use Rattle.std.specs.Prelude.{◌≡◌, ℕ, Bool, true, false, nat_le, List, [], ◌∷◌, ◌++◌, length, map, Ok, Err, if◌then◌else◌, refl}
use Rattle.std.proofs.Common.{◌∙◌, ap, sym}
use Rattle.std.proofs.Math.Logic.{∥∥₁_elim}
use Rattle.std.proofs.Math.Nat.{ℕ_set}
use mathlib.Core.List.{is_set as List-set}
use Rattle.select_request.specs.declared.request.Output.{Output}
use Rattle.select_request.specs.declared.request.Output.TheVariants as output
use Rattle.json_text.specs.Grammar.{Json as Tree, null, truth, number, string, empty_array, array, empty_object, object}
use Rattle.json_text.specs.Nodes.{Spells, IsNode, kind_at, kind_of}
use Rattle.json_text.specs.Naming.{Named, members_of}
use Rattle.json_text.specs.Skipped.{outside}
use Rattle.json_text.specs.Compact.{squeezed, compact}
use Rattle.json_text.proofs.Checks.{kind_told}
use Rattle.json_text.proofs.Squeezing.{compact_is}
use Rattle.sql_eval.specs.Paths.{members_in}
use Rattle.sql_eval.proofs.Walks.{spelled, members_law}
use Rattle.record_output.specs.declared.out.OutFault.{OutFault}
use Rattle.record_output.specs.Records.{is_object, node_field, values_in, record_text, whole_text, delimiter_of, delimiter_bytes}
use Rattle.record_output.specs.Writing.{Writing, closed, whole_verdict, within_limit, HasSettings}
use Rattle.select_reply.specs.declared.code.Code.TheVariants.{OverMaxRecordSize}
use Rattle.select_reply.specs.Yields.{writes, fails}
use Rattle.record_yields.specs.Whole.{is_object_kind, node_named, values_of, whole_of, EachWholeIsItsTrees}
use Rattle.record_yields.specs.Yields.{limited}

by_kind : (tree : Tree) → is_object_kind (kind_of tree) ≡ is_object tree
by_kind null = refl
by_kind (truth true) = refl
by_kind (truth false) = refl
by_kind (number n) = refl
by_kind (string raw) = refl
by_kind (empty_array blanks) = refl
by_kind (array e es) = refl
by_kind (empty_object blanks) = refl
by_kind (object m ms) = refl

object_told : (bytes : List ℕ) (tree : Tree) → Spells bytes tree → is_object_kind (kind_at bytes) ≡ is_object tree
object_told bytes tree s = ap is_object_kind (kind_told bytes bytes (kind_at bytes) refl refl tree s) ∙ by_kind tree

same_fields : (ms : List Named) → map node_named (map (λ m. m.value) (map spelled ms)) ≡ map node_field (map (λ m. m.value) ms)
same_fields [] = refl
same_fields (m ∷ ms) = ap (λ l. node_field m.value ∷ l) (same_fields ms)

fields_told : (bytes : List ℕ) (tree : Tree) → Spells bytes tree → (b : Bool)
    → map node_named (if b then map (λ m. m.value) (members_in bytes) else bytes ∷ []) ≡ map node_field (if b then values_in tree else tree ∷ [])
fields_told bytes tree s true = ap (λ ms. map node_named (map (λ m. m.value) ms)) (members_law bytes tree s) ∙ same_fields (members_of tree)
fields_told bytes tree s false = ap (λ b. node_named b ∷ []) s.spelled

values_told : (bytes : List ℕ) (tree : Tree) → Spells bytes tree → map node_named (values_of bytes) ≡ map node_field (if is_object tree then values_in tree else tree ∷ [])
values_told bytes tree s =
    ap (λ b. map node_named (if b then map (λ m. m.value) (members_in bytes) else bytes ∷ [])) (object_told bytes tree s)
    ∙ fields_told bytes tree s (is_object tree)

pub whole_told : EachWholeIsItsTrees
unfolding whole_of
whole_told (output.Csv csv) bytes tree s = ap (record_text (output.Csv csv)) (values_told bytes tree s)
whole_told (output.Json delimiter) bytes tree s =
    let alone : List ℕ = record_text (output.Json delimiter) (node_named bytes ∷ []) in
    ap (λ b. if b then squeezed outside bytes else alone) (object_told bytes tree s)
    ∙ ap (λ l. if is_object tree then l else alone) (compact_is bytes tree s)
    ∙ ap (λ b. if is_object tree then compact tree else record_text (output.Json delimiter) (node_named b ∷ [])) s.spelled

-- ---- what a writer answers

num : Bool → ℕ
num true = 1
num false = 0

is_true : (b : Bool) → num b ≡ 1 → b ≡ true
unfolding num
is_true true h = refl
is_true false h = absurd (cc)

is_false : (b : Bool) → num b ≡ 0 → b ≡ false
unfolding num
is_false true h = absurd (cc)
is_false false h = refl

ok_num : (b : Bool) (x : Unit {0}) → Ok x ≡ within_limit b → num b ≡ 1
unfolding num
ok_num true x h = refl
ok_num false x h = absurd (cc)

err_num : (b : Bool) (e : OutFault) → Err e ≡ within_limit b → num b ≡ 0
unfolding num
err_num true e h = absurd (cc)
err_num false e h = refl

limited_by : (output : Output) (longest : ℕ) (text : List ℕ) (b : Bool) → nat_le (length text) longest ≡ b
    → limited output longest text ≡ (if b then writes (text ++ delimiter_bytes (delimiter_of output)) else fails OverMaxRecordSize)
limited_by output longest text b is = ap (λ b. if b then writes (text ++ delimiter_bytes (delimiter_of output)) else fails OverMaxRecordSize) is

module _ (w new : Writing) (bytes : List ℕ) (node : ∥ IsNode bytes ∥₁) where
  fits : Bool
  fits = nat_le (length (whole_of w.output bytes)) w.longest

  by_tree : (tree : Tree) → Spells bytes tree → nat_le (length (whole_text w.output tree)) w.longest ≡ nat_le (length (whole_of w.output bytes)) w.longest
  by_tree tree s = ap (λ t. nat_le (length t) w.longest) (sym (whole_told w.output bytes tree s))

  pub node_written : (x : Unit {0}) → ((tree : Tree) → Spells bytes tree → Ok x ≡ whole_verdict w tree)
      → ((tree : Tree) → Spells bytes tree → closed new ≡ whole_text w.output tree) → HasSettings w new
      → writes (closed new ++ delimiter_bytes (delimiter_of new.output)) ≡ limited w.output w.longest (whole_of w.output bytes)
  node_written x said is same =
      let text : closed new ≡ whole_of w.output bytes =
      ∥∥₁_elim node (hlevel (ℕ_set, List-set)) (λ n. is n.tree n.spells ∙ sym (whole_told w.output bytes n.tree n.spells)) in
      let one : num (nat_le (length (whole_of w.output bytes)) w.longest) ≡ 1 =
      ∥∥₁_elim node (hlevel ℕ_set) (λ n. ap num (sym (by_tree n.tree n.spells)) ∙ ok_num _ x (said n.tree n.spells)) in
      ap (λ t. writes (t ++ delimiter_bytes (delimiter_of new.output))) text
      ∙ ap (λ o. writes (whole_of w.output bytes ++ delimiter_bytes (delimiter_of o))) same.output
      ∙ sym (limited_by w.output w.longest (whole_of w.output bytes) true (is_true _ one))

  pub node_over : (e : OutFault) → ((tree : Tree) → Spells bytes tree → Err e ≡ whole_verdict w tree)
      → fails OverMaxRecordSize ≡ limited w.output w.longest (whole_of w.output bytes)
  node_over e said =
      let none : num (nat_le (length (whole_of w.output bytes)) w.longest) ≡ 0 =
      ∥∥₁_elim node (hlevel ℕ_set) (λ n. ap num (sym (by_tree n.tree n.spells)) ∙ err_num _ e (said n.tree n.spells)) in
      sym (limited_by w.output w.longest (whole_of w.output bytes) false (is_false _ none))
