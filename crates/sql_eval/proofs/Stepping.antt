-- What a step of a path finds by the tree is what it finds by the bytes.
use Rattle.std.proofs.Common.{◌≡◌, ℕ, zero, suc, Bool, true, false, cond, List, [], ◌∷◌, length, map, ◌≤◌, refl, sym, ◌∙◌, ap, subst, arith}
use Rattle.std.specs.Prelude.{Option, None, Some, slice_get, MatchOption}
use Rattle.std.specs.Str.{chars}
use Rattle.std.specs.List.{find}
use Rattle.std.specs.Option.{option_map}
use Rattle.std.proofs.Math.Logic.{∥∥₁_elim}
use Rattle.std.proofs.lemmas.Option.{slice_get-map}
use Rattle.text_view.specs.JsonString.{unescaped_text}
use Rattle.json_text.specs.Grammar.{Json, print}
use Rattle.json_text.specs.Nodes.{IsNode, Spells}
use Rattle.json_text.specs.Walks.{Placed, elements_of, IsAt}
use Rattle.json_text.specs.Naming.{Named, members_of, member_named, same_name, is_named, IsValueOf}
use Rattle.std.proofs.Math.Nat.{ℕ_set}
use mathlib.Core.List.{is_set as List-set}
use Rattle.sql_grammar.specs.declared.tree.PathStep.{PathStep}
use Rattle.sql_grammar.specs.declared.tree.PathStep.TheVariants.{Member, Element}
use Rattle.sql_grammar.specs.declared.tree.Name.{Name}
use Rattle.sql_eval.specs.Paths.{Spelled, members_in, elements_in, step_in}
use Rattle.sql_eval.proofs.Walks.{members_law, elements_law, spelled, value_there}

abbrev to_list : Option (List ℕ) → List (List ℕ)
to_list None = []
to_list (Some x) = x ∷ []

from_list : (a b : Option (List ℕ)) → to_list a ≡ to_list b → a ≡ b
from_list None None e = refl
from_list None (Some y) e = absurd (cc)
from_list (Some x) None e = absurd (cc)
from_list (Some x) (Some y) e = let same : x ≡ y = cc in ap Some same

-- ---- a member by its name

find_spelled : (p : Spelled → Bool) (xs : List Named) → find p (map spelled xs) ≡ option_map spelled (find (λ n. p (spelled n)) xs)
find_spelled p [] = refl
find_spelled p (x ∷ xs) = by_test (p (spelled x)) (find_spelled p xs)
  where
    by_test : (b : Bool) → find p (map spelled xs) ≡ option_map spelled (find (λ n. p (spelled n)) xs)
        → cond b (Some (spelled x)) (find p (map spelled xs)) ≡ option_map spelled (cond b (Some x) (find (λ n. p (spelled n)) xs))
    by_test true e = refl
    by_test false e = e

value_told : (o : Option Named) (result : Option (List ℕ)) → MatchOption result (o ≡ None) (λ node. IsValueOf o node)
    → result ≡ option_map (λ m. m.value) (option_map spelled o)
value_told None None e = refl
value_told None (Some node) x = absurd x
value_told (Some m) None e = absurd (cc)
value_told (Some m) (Some node) e = ap Some e

pub member_step : (exact : Bool) (wanted bytes : List ℕ) (result : Option (List ℕ)) → ∥ IsNode bytes ∥₁
    → ((tree : Json) → Spells bytes tree → MatchOption result (member_named exact wanted tree ≡ None) (λ node. IsValueOf (member_named exact wanted tree) node))
    → result ≡ option_map (λ m. m.value) (find (λ m. same_name exact wanted (unescaped_text (chars m.name))) (members_in bytes))
member_step exact wanted bytes result here told =
    let test : Spelled → Bool = λ m. same_name exact wanted (unescaped_text (chars m.name)) in
    from_list result (option_map (λ m. m.value) (find test (members_in bytes)))
    (∥∥₁_elim here (hlevel (ℕ_set, List-set)) (λ x. ap to_list
    (value_told (member_named exact wanted x.tree) result (told x.tree x.spells)
    ∙ ap (option_map (λ m. m.value)) (sym (find_spelled test (members_of x.tree)))
    ∙ ap (λ l. option_map (λ m. m.value) (find test l)) (sym (members_law bytes x.tree x.spells)))))

-- ---- an element by its place

past_all : (xs : List Placed) (k : ℕ) → length xs ≤ k → slice_get xs k ≡ None
past_all [] zero le = refl
past_all [] (suc k) le = refl
past_all (x ∷ xs) zero le = absurd (omega (arith, le))
past_all (x ∷ xs) (suc k) le = past_all xs k (omega (arith, le))

place_told : (xs : List Placed) (k : ℕ) (o : Option Placed) (result : Option (List ℕ)) → slice_get xs k ≡ o → MatchOption result (length xs ≤ k) (λ node. IsAt o node)
    → result ≡ option_map value_there o
place_told xs k None None e x = refl
place_told xs k None (Some node) e x = absurd x
place_told xs k (Some p) None e x = let none : Some p ≡ None = sym e ∙ past_all xs k x in absurd (cc)
place_told xs k (Some p) (Some node) e x = ap Some x

pub element_step : (k : ℕ) (bytes : List ℕ) (result : Option (List ℕ)) → ∥ IsNode bytes ∥₁
    → ((tree : Json) → Spells bytes tree → MatchOption result (length (elements_of tree) ≤ k) (λ node. IsAt (slice_get (elements_of tree) k) node))
    → result ≡ slice_get (elements_in bytes) k
element_step k bytes result here told =
    from_list result (slice_get (elements_in bytes) k)
    (∥∥₁_elim here (hlevel (ℕ_set, List-set)) (λ x. ap to_list
    (place_told (elements_of x.tree) k (slice_get (elements_of x.tree) k) result refl (told x.tree x.spells)
    ∙ sym (slice_get-map value_there (elements_of x.tree) k)
    ∙ ap (λ l. slice_get l k) (sym (elements_law bytes x.tree x.spells)))))

-- ---- a step

pub named_step : (step : PathStep) (name : Name) (bytes token raw : List ℕ) (result : Option (List ℕ)) → step ≡ Member name → raw ≡ name.text → token ≡ bytes → ∥ IsNode token ∥₁
    → ((tree : Json) → Spells bytes tree → MatchOption result (member_named name.quoted (chars raw) tree ≡ None) (λ node. IsValueOf (member_named name.quoted (chars raw) tree) node))
    → result ≡ step_in step bytes
unfolding step_in
named_step step name bytes token raw result e same_raw same here told =
    member_step name.quoted (chars raw) bytes result (subst (λ l. ∥ IsNode l ∥₁) same here) told
    ∙ ap (λ l. option_map (λ m. m.value) (find (λ m. same_name name.quoted (chars l) (unescaped_text (chars m.name))) (members_in bytes))) same_raw
    ∙ ap (λ s. step_in s bytes) (sym e)

pub placed_step : (step : PathStep) (k : ℕ) (bytes token : List ℕ) (result : Option (List ℕ)) → step ≡ Element k → token ≡ bytes → ∥ IsNode token ∥₁
    → ((tree : Json) → Spells bytes tree → MatchOption result (length (elements_of tree) ≤ k) (λ node. IsAt (slice_get (elements_of tree) k) node))
    → result ≡ step_in step bytes
unfolding step_in
placed_step step k bytes token result e same here told =
    element_step k bytes result (subst (λ l. ∥ IsNode l ∥₁) same here) told ∙ ap (λ s. step_in s bytes) (sym e)
