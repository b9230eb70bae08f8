-- What a JSON value is, told by its bytes.
use Rattle.std.proofs.Common.{◌≡◌, ℕ, true, false, ◌==◌, if◌then◌else◌, ◌-◌, List, [], ◌∷◌, ◌++◌, None, Some, length, take, length-append, refl, sym, ap, subst, ◌∙◌, arith}
use Rattle.std.specs.Str.{chars}
use Rattle.std.proofs.Math.Logic.{∥∥₁_elim}
use Rattle.std.proofs.Math.Nat.{ℕ_set}
use mathlib.Core.List.{is_set as List-set}
use Rattle.std.proofs.Math.Seq.{take-append_seam}
use Rattle.text_view.specs.JsonString.{unescaped_text}
use Rattle.json_text.specs.Grammar.{Json, null, truth, number, string, empty_array, array, empty_object, object, print}
use Rattle.json_text.specs.Nodes.{IsNode, Spells, kind_of, kind_at, IsTextOf}
use Rattle.json_text.specs.declared.node.Kind.{Kind}
use Rattle.json_text.specs.declared.node.Kind.TheVariants as kind
use Rattle.json_text.proofs.Checks.{kind_told}
use Rattle.sql_value.specs.Settled.{inside, tree_value, kind_value, judged, settled, is_null_kind, is_null_tree}
use Rattle.sql_value.specs.declared.value.Value.{Value}
use Rattle.sql_value.specs.declared.value.Value.TheVariants.{Text, Node}

-- the kind of the first byte is the tree's
at_tree : (bytes : List ℕ) (tree : Json) → Spells bytes tree → kind_at bytes ≡ kind_of tree
at_tree bytes tree x = kind_told bytes bytes (kind_at bytes) refl refl tree x

-- kinds as numbers, which tell them apart
place : Kind → ℕ
place kind.Null = 0
place (kind.Bool true) = 1
place (kind.Bool false) = 2
place kind.Number = 3
place kind.Text = 4
place kind.Array = 5
place kind.Object = 6

at_place : ℕ → Kind
at_place n =
    if n == 0 then kind.Null else if n == 1 then kind.Bool true else if n == 2 then kind.Bool false
    else if n == 3 then kind.Number else if n == 4 then kind.Text else if n == 5 then kind.Array else kind.Object

back : (k : Kind) → at_place (place k) ≡ k
unfolding at_place place
back kind.Null = refl
back (kind.Bool true) = refl
back (kind.Bool false) = refl
back kind.Number = refl
back kind.Text = refl
back kind.Array = refl
back kind.Object = refl

same_kind : (a b : Kind) → place a ≡ place b → a ≡ b
same_kind a b e = sym (back a) ∙ ap at_place e ∙ back b

pub kind_is : (bytes raw : List ℕ) (k : Kind) → raw ≡ bytes → ∥ IsNode raw ∥₁ → ((tree : Json) → Spells bytes tree → k ≡ kind_of tree) → k ≡ kind_at bytes
kind_is bytes raw k same node told =
    let here : ∥ IsNode bytes ∥₁ = subst (λ b. ∥ IsNode b ∥₁) same node in
    same_kind k (kind_at bytes) (∥∥₁_elim here (hlevel ℕ_set) (λ x. ap place (told x.tree x.spells ∙ sym (at_tree bytes x.tree x.spells))))

-- between the quotation marks
middle : (raw : List ℕ) → inside (34 ∷ (raw ++ 34 ∷ [])) ≡ raw
middle raw =
    let size : length (34 ∷ (raw ++ 34 ∷ [])) - 1 - 1 ≡ length raw = omega (arith, length-append raw (34 ∷ [])) in
    ap (λ n. take n (raw ++ 34 ∷ [])) size ∙ take-append_seam raw (34 ∷ [])

printed_string : (raw : List ℕ) → inside (print (string raw) []) ≡ raw
unfolding print
printed_string raw = middle raw

-- of a tree of that kind, the characters are those between its quotation marks
told_text : (bytes : List ℕ) (tree : Json) (text : List ℕ) → kind_of tree ≡ kind.Text → bytes ≡ print tree [] → IsTextOf tree (Some text) → text ≡ unescaped_text (chars (inside bytes))
told_text bytes null text k e t = cc
told_text bytes (truth b) text k e t = cc
told_text bytes (number n) text k e t = cc
told_text bytes (string raw) text k e t = t ∙ ap (λ s. unescaped_text (chars s)) (sym (ap inside e ∙ printed_string raw))
told_text bytes (empty_array blanks) text k e t = cc
told_text bytes (array x xs) text k e t = cc
told_text bytes (empty_object blanks) text k e t = cc
told_text bytes (object m ms) text k e t = cc

told_none : (tree : Json) → kind_of tree ≡ kind.Text → IsTextOf tree None → ⊥
told_none null k t = cc
told_none (truth b) k t = cc
told_none (number n) k t = cc
told_none (string raw) k t = t
told_none (empty_array blanks) k t = cc
told_none (array x xs) k t = cc
told_none (empty_object blanks) k t = cc
told_none (object m ms) k t = cc

pub text_is : (bytes raw text : List ℕ) → raw ≡ bytes → ∥ IsNode raw ∥₁ → kind_at bytes ≡ kind.Text → ((tree : Json) → Spells bytes tree → IsTextOf tree (Some text)) → text ≡ unescaped_text (chars (inside bytes))
text_is bytes raw text same node k told =
    let here : ∥ IsNode bytes ∥₁ = subst (λ b. ∥ IsNode b ∥₁) same node in
    ∥∥₁_elim here (hlevel (ℕ_set, List-set)) (λ x. told_text bytes x.tree text (sym (at_tree bytes x.tree x.spells) ∙ k) x.spells.spelled (told x.tree x.spells))

pub text_there : (bytes raw : List ℕ) → raw ≡ bytes → ∥ IsNode raw ∥₁ → kind_at bytes ≡ kind.Text → ((tree : Json) → Spells bytes tree → IsTextOf tree None) → ⊥
text_there bytes raw same node k told =
    let here : ∥ IsNode bytes ∥₁ = subst (λ b. ∥ IsNode b ∥₁) same node in
    ∥∥₁_elim here (hlevel) (λ x. told_none x.tree (sym (at_tree bytes x.tree x.spells) ∙ k) (told x.tree x.spells))

-- the value of a kind is the tree's
by_tree : (bytes : List ℕ) (tree : Json) → bytes ≡ print tree [] → kind_value (kind_of tree) bytes ≡ tree_value tree bytes
by_tree bytes null e = refl
by_tree bytes (truth b) e = refl
by_tree bytes (number n) e = refl
by_tree bytes (string raw) e = ap (λ s. Text (unescaped_text (chars s))) (ap inside e ∙ printed_string raw)
by_tree bytes (empty_array blanks) e = refl
by_tree bytes (array x xs) e = refl
by_tree bytes (empty_object blanks) e = refl
by_tree bytes (object m ms) e = refl

pub value_by_tree : (bytes : List ℕ) (tree : Json) → Spells bytes tree → kind_value (kind_at bytes) bytes ≡ tree_value tree bytes
value_by_tree bytes tree x = ap (λ k. kind_value k bytes) (at_tree bytes tree x) ∙ by_tree bytes tree x.spelled

-- a settled JSON value is what its tree becomes
pub settled_tree : (v : Value) (bytes : List ℕ) (tree : Json) → v ≡ Node bytes → Spells bytes tree → settled v ≡ judged (tree_value tree bytes)
unfolding settled
settled_tree v bytes tree e x = rw e (ap judged (value_by_tree bytes tree x))

null_tree : (tree : Json) → is_null_kind (kind_of tree) ≡ is_null_tree tree
null_tree null = refl
null_tree (truth b) = refl
null_tree (number n) = refl
null_tree (string raw) = refl
null_tree (empty_array blanks) = refl
null_tree (array x xs) = refl
null_tree (empty_object blanks) = refl
null_tree (object m ms) = refl

-- a JSON value is null where its tree is
pub null_node : (v : Value) (node bytes : List ℕ) (tree : Json) → v ≡ Node node → v ≡ Node bytes → Spells bytes tree → is_null_kind (kind_at node) ≡ is_null_tree tree
null_node v node bytes tree n e x =
    let same : node ≡ bytes = cc in
    ap (λ b. is_null_kind (kind_at b)) same ∙ ap is_null_kind (at_tree bytes tree x) ∙ null_tree tree
