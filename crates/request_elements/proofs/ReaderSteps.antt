-- The readers' steps, as the code takes them.
use Rattle.std.proofs.Common.{◌≡◌, ℕ, zero, suc, ◌<◌, ◌≤◌, Bool, true, false, List, [], ◌∷◌, ◌++◌, length, drop, Option, Some, None, Result, Ok, Err, MatchResult, refl, sym, ap, ◌∙◌, subst, arith, append_assoc, append-nil, if◌then◌else◌}
use Rattle.grammar_rules.specs.Rules.{without, allowed, followed_by}
use Rattle.grammar_rules.specs.Readers.{Outcome, found, failed, and_then, read_made, starts, chosen, closed_by, is_free, read_member}
use Rattle.grammar_rules.proofs.Many.{Shrinks, shrinks}
use Rattle.grammar_rules.proofs.AnyOrder.{less_member, read_members-unrolled}
use Rattle.request_elements.specs.declared.element.Element.{Element}
use Rattle.request_elements.specs.declared.element.Element.TheVariants.{Request}
use Rattle.request_elements.specs.declared.found.Found.{Found}
use Rattle.request_elements.specs.declared.elements.Failure.{Failure}
use Rattle.request_elements.specs.declared.elements.Failure.TheVariants.{Refused, Memory}
use Rattle.request_elements.specs.Elements.{is_leaf, is_child, same_element}
use Rattle.grammar_rules.specs.Placed.{first_place}
use Rattle.request_elements.specs.Pieces.{Symbol}
use Rattle.request_elements.specs.Grammar.{is_declaration_piece, starts_element, ends_element, is_whole_element, blanks, found_alone, joined, element_within}
use Rattle.request_elements.specs.Readers.{behind, behind_blanks, with_blanks, read_whole, read_characters, read_leaf, read_container, child_begun, first_child, where_free, read_child, read_free, read_children, read_element, read_body, onto, Gives, Closes, FailsToClose}
use Rattle.request_elements.proofs.ChildLaws.{tells_tag}
use Rattle.request_elements.proofs.Readings.{tag_sight, each_sight, is_tail, named_children, reads-child, reads-element}

-- ---- outcomes behind elements that were found before

pub onto_onto : (before more : List Found) (o : Outcome Symbol ⊥ (List Found)) → onto before (read_made (λ rest. more ++ rest) o) ≡ onto (before ++ more) o
onto_onto before more (found a left) = ap (λ l. found l left) (sym (append_assoc before more a))
onto_onto before more (failed k left) = refl

pub onto_nothing : (o : Outcome Symbol ⊥ (List Found)) → onto [] o ≡ o
onto_nothing (found a left) = refl
onto_nothing (failed k left) = refl

closed_on : (before a : List Found) (test : Symbol → Bool) (b : Bool) (left : List Symbol)
    → onto before (chosen b (found a (drop 1 left)) (failed None left)) ≡ chosen b (found (before ++ a) (drop 1 left)) (failed None left)
closed_on before a test true left = refl
closed_on before a test false left = refl

pub onto_closed : (before : List Found) (test : Symbol → Bool) (o : Outcome Symbol ⊥ (List Found)) (after : List Found) (left : List Symbol)
    → onto before o ≡ found after left → onto before (and_then o (closed_by test)) ≡ closed_by test after left
onto_closed before test (found a l) after left e =
    let p : before ++ a ≡ after = cc in
    let q : l ≡ left = cc in
    closed_on before a test (starts test l) l ∙ rw (p, q) refl
onto_closed before test (failed k l) after left e = cc

pub onto_failed : (before : List Found) (next : List Found → List Symbol → Outcome Symbol ⊥ (List Found)) (o : Outcome Symbol ⊥ (List Found)) (left : List Symbol)
    → onto before o ≡ failed None left → onto before (and_then o next) ≡ failed None left
onto_failed before next (found a l) left e = cc
onto_failed before next (failed k l) left e = e

pub onto_blanks : (before : List Found) (read : List Symbol → Outcome Symbol ⊥ (List Found)) (ss : List Symbol) (after : List Found) (left : List Symbol)
    → onto before (read ss) ≡ found after left → onto before (with_blanks read ss) ≡ found after (behind_blanks left)
onto_blanks before read ss after left e = blanks_on (read ss) e where
  blanks_on : (o : Outcome Symbol ⊥ (List Found)) → onto before o ≡ found after left → onto before (and_then o (λ a l. found a (behind_blanks l))) ≡ found after (behind_blanks left)
  blanks_on (found a l) e =
      let p : before ++ a ≡ after = cc in
      let q : l ≡ left = cc in rw (p, q) refl
  blanks_on (failed k l) e = cc

-- ---- a leaf

module _ (e : Element) (ss : List Symbol) where
  pub leaf_whole : starts (λ s. is_whole_element e s.piece) ss ≡ true → read_leaf e ss ≡ read_whole e ss
  unfolding read_leaf
  leaf_whole w = rw w refl

module _ (e : Element) where
  pub leaf_refused : (ss : List Symbol) → starts (λ s. is_whole_element e s.piece) ss ≡ false → starts (λ s. starts_element e s.piece) ss ≡ false → read_leaf e ss ≡ failed None ss
  unfolding read_leaf
  leaf_refused [] w s = refl
  leaf_refused (x ∷ ss) w s = rw (w, s) refl

  pub leaf_reads : (ss : List Symbol) (text : List ℕ) (left : List Symbol) → starts (λ s. is_whole_element e s.piece) ss ≡ false → starts (λ s. starts_element e s.piece) ss ≡ true
      → read_characters (drop 1 ss) ≡ found text left → starts (λ s. ends_element e s.piece) left ≡ true
      → read_leaf e ss ≡ found (found_alone e (first_place 0 ss) text) (drop 1 left)
  unfolding read_leaf
  leaf_reads [] text left w s r f = cc
  leaf_reads (x ∷ ss) text left w s r f = rw (w, s, r, f) refl

  pub leaf_unclosed : (ss : List Symbol) (text : List ℕ) (left : List Symbol) → starts (λ s. is_whole_element e s.piece) ss ≡ false → starts (λ s. starts_element e s.piece) ss ≡ true
      → read_characters (drop 1 ss) ≡ found text left → starts (λ s. ends_element e s.piece) left ≡ false
      → read_leaf e ss ≡ failed None left
  unfolding read_leaf
  leaf_unclosed [] text left w s r f = cc
  leaf_unclosed (x ∷ ss) text left w s r f = rw (w, s, r, f) refl

-- ---- a container

made_made : {A B C : Type 0} (f : B → C) (g : A → B) (o : Outcome Symbol ⊥ A) → read_made f (read_made g o) ≡ read_made (λ a. f (g a)) o
made_made f g (found a left) = refl
made_made f g (failed k left) = refl

module _ (e : Element) (read : List Symbol → Outcome Symbol ⊥ (List Found)) where
  pub container_whole : (ss : List Symbol) → starts (λ s. is_whole_element e s.piece) ss ≡ true → read_container e read ss ≡ read_whole e ss
  unfolding read_container
  container_whole ss w = rw w refl

  pub container_refused : (ss : List Symbol) → starts (λ s. is_whole_element e s.piece) ss ≡ false → starts (λ s. starts_element e s.piece) ss ≡ false → read_container e read ss ≡ failed None ss
  unfolding read_container
  container_refused [] w s = refl
  container_refused (x ∷ ss) w s = rw (w, s) refl

  opened : (ss : List Symbol) → starts (λ s. is_whole_element e s.piece) ss ≡ false → starts (λ s. starts_element e s.piece) ss ≡ true
      → read_container e read ss ≡ read_made (λ more. found_alone e (first_place 0 ss) [] ++ more) (and_then (read (behind_blanks (drop 1 ss))) (closed_by (λ s. ends_element e s.piece)))
  unfolding read_container
  opened [] w s = cc
  opened (x ∷ ss) w s =
      rw (w, s) (made_made (λ p. found_alone e p.0.at [] ++ p.1) (λ b. (x, b)) (and_then (read (behind_blanks ss)) (closed_by (λ s. ends_element e s.piece))))

  pub container_opened : (before : List Found) (ss : List Symbol) → starts (λ s. is_whole_element e s.piece) ss ≡ false → starts (λ s. starts_element e s.piece) ss ≡ true
      → onto before (read_container e read ss) ≡ onto (before ++ found_alone e (first_place 0 ss) []) (and_then (read (behind_blanks (drop 1 ss))) (closed_by (λ s. ends_element e s.piece)))
  container_opened before ss w s =
      ap (onto before) (opened ss w s) ∙ onto_onto before (found_alone e (first_place 0 ss) []) (and_then (read (behind_blanks (drop 1 ss))) (closed_by (λ s. ends_element e s.piece)))

-- ---- the elements that stand in one

-- what was found, and then the elements that are still free
abbrev pub children_left : Element → ℕ → List Found → (Element → Bool) → List Symbol → Outcome Symbol ⊥ (List Found)
children_left e depth before free ss = read_made (λ ms. before ++ joined ms) (read_free e (read_element depth) free ss)

begins_child : (e : Element) (free : Element → Bool) (ss : List Symbol) (c : Element) → first_child e ss ≡ Some c → free c ≡ true → starts (λ s. is_free free (child_begun e s.piece)) ss ≡ true
begins_child e free [] c f g = cc
begins_child e free (s ∷ ss) c f g = rw (f, g) refl

begins_none : (e : Element) (free : Element → Bool) (ss : List Symbol) → where_free free (first_child e ss) ≡ None → starts (λ s. is_free free (child_begun e s.piece)) ss ≡ false
begins_none e free [] h = refl
begins_none e free (s ∷ ss) h = none_free (child_begun e s.piece) h where
  none_free : (o : Option Element) → where_free free o ≡ None → is_free free o ≡ false
  none_free None h = refl
  none_free (Some c) h = elim (free c) as (λ t. (if t then Some c else None) ≡ None → t ≡ false) [ true ↦ λ q. cc | false ↦ λ q. refl ] h

member_is : (e : Element) (read : Element → List Symbol → Outcome Symbol ⊥ (List Found)) (free : Element → Bool) (ss : List Symbol) (c : Element) → first_child e ss ≡ Some c → free c ≡ true
    → read_member (λ s. child_begun e s.piece) (read_child e read) free ss ≡ read_made (λ a. (c, a)) (with_blanks (read c) ss)
member_is e read free [] c f g = cc
member_is e read free (s ∷ ss) c f g = let w = tells_tag e c s.piece f in rw (f, g, w.0) refl

-- the child in sight, where it is free
pub free_child : (free : Element → Bool) (o : Option Element) (c : Element) → Some c ≡ where_free free o → (o ≡ Some c) × (free c ≡ true)
free_child free None c h = cc
free_child free (Some d) c h =
    let P : Bool → Type 0 = λ t. free d ≡ t → Some c ≡ (if t then Some d else None) → (Some d ≡ Some c) × (free c ≡ true) in
    (elim (free d) as P [
      | true ↦ λ q r. let p : c ≡ d = cc in (ap Some (sym p), subst (λ x. free x ≡ true) (sym p) q)
      | false ↦ λ q r. cc
    ]) refl h

module _ (e : Element) (depth : ℕ) where
  less : (free : Element → Bool) → Shrinks (read_member (λ s. child_begun e s.piece) (read_child e (read_element depth)) free)
  less =
      less_member same_element (λ c. allowed (is_child e c) (followed_by (element_within depth c) blanks)) (each_sight e) (λ s. child_begun e s.piece) is_tail (named_children e) (read_child e (read_element depth))
      (reads-child e (element_within depth) (read_element depth) (reads-element depth))

  unrolled : (free : Element → Bool) (ss : List Symbol) → read_free e (read_element depth) free ss ≡ chosen (starts (λ s. is_free free (child_begun e s.piece)) ss) (and_then (read_member (λ s. child_begun e s.piece) (read_child e (read_element depth)) free ss) (λ a left. read_made (λ rest. a ∷ rest) (read_free e (read_element depth) (without same_element a.0 free) left))) (found [] ss)
  unrolled free ss = read_members-unrolled same_element (λ s. child_begun e s.piece) (read_child e (read_element depth)) less free ss

  more_joined : (before more : List Found) (c : Element) (o : Outcome Symbol ⊥ (List (Element × List Found)))
      → read_made (λ ms. before ++ joined ms) (read_made (λ rest. (c, more) ∷ rest) o) ≡ read_made (λ ms. (before ++ more) ++ joined ms) o
  more_joined before more c (found ms left) = ap (λ l. found l left) (sym (append_assoc before more (joined ms)))
  more_joined before more c (failed k left) = refl

  after_child : (before after : List Found) (free : Element → Bool) (c : Element) (o : Outcome Symbol ⊥ (List Found)) (left : List Symbol) → onto before o ≡ found after left
      → read_made (λ ms. before ++ joined ms) (and_then (read_made (λ a. (c, a)) (and_then o (λ a l. found a (behind_blanks l)))) (λ a l. read_made (λ rest. a ∷ rest) (read_free e (read_element depth) (without same_element a.0 free) l)))
      ≡ children_left e depth after (without same_element c free) (behind_blanks left)
  after_child before after free c (found a l) left h =
      let p : before ++ a ≡ after = cc in
      let q : l ≡ left = cc in
      more_joined before a c (read_free e (read_element depth) (without same_element c free) (behind_blanks l)) ∙ rw (p, q) refl
  after_child before after free c (failed k l) left h = cc

  failed_child : (before : List Found) (free : Element → Bool) (c : Element) (o : Outcome Symbol ⊥ (List Found)) (left : List Symbol) → onto before o ≡ failed None left
      → read_made (λ ms. before ++ joined ms) (and_then (read_made (λ a. (c, a)) (and_then o (λ a l. found a (behind_blanks l)))) (λ a l. read_made (λ rest. a ∷ rest) (read_free e (read_element depth) (without same_element a.0 free) l)))
      ≡ failed None left
  failed_child before free c (found a l) left h = cc
  failed_child before free c (failed k l) left h =
      let p : k ≡ None = cc in
      let q : l ≡ left = cc in rw (p, q) refl

  pub children_begin : (before : List Found) (ss : List Symbol) → onto before (read_children e (read_element depth) ss) ≡ children_left e depth before (λ c. true) ss
  children_begin before ss = made_made (λ more. before ++ more) joined (read_free e (read_element depth) (λ c. true) ss)

  pub children_step : (before after : List Found) (free : Element → Bool) (ss left : List Symbol) (c : Element) → first_child e ss ≡ Some c → free c ≡ true
      → onto before (read_element depth c ss) ≡ found after left
      → children_left e depth before free ss ≡ children_left e depth after (without same_element c free) (behind_blanks left)
  children_step before after free ss left c f g h =
      rw (unrolled free ss, begins_child e free ss c f g, member_is e (read_element depth) free ss c f g) (after_child before after free c (read_element depth c ss) left h)

  pub children_fail : (before : List Found) (free : Element → Bool) (ss left : List Symbol) (c : Element) → first_child e ss ≡ Some c → free c ≡ true
      → onto before (read_element depth c ss) ≡ failed None left
      → children_left e depth before free ss ≡ failed None left
  children_fail before free ss left c f g h =
      rw (unrolled free ss, begins_child e free ss c f g, member_is e (read_element depth) free ss c f g) (failed_child before free c (read_element depth c ss) left h)

  pub children_stop : (before : List Found) (free : Element → Bool) (ss : List Symbol) → where_free free (first_child e ss) ≡ None → children_left e depth before free ss ≡ found before ss
  children_stop before free ss h = rw (unrolled free ss, begins_none e free ss h, append-nil) refl

-- an element has at least one piece
pub element_passes : (depth : ℕ) (c : Element) (before after : List Found) (ss left : List Symbol) → onto before (read_element depth c ss) ≡ found after left → length left < length ss
element_passes depth c before after ss left h = passes_of (read_element depth c ss) refl h where
  passes_of : (o : Outcome Symbol ⊥ (List Found)) → read_element depth c ss ≡ o → onto before o ≡ found after left → length left < length ss
  passes_of (found a l) q h =
      let p : l ≡ left = cc in
      subst (λ x. length x < length ss) p (shrinks (element_within depth c) (tag_sight c) (read_element depth c) (reads-element depth c) refl ss a l q)
  passes_of (failed k l) q h = cc

-- ---- an element

pub element_zero : (e : Element) (ss : List Symbol) → read_element 0 e ss ≡ read_leaf e ss
unfolding read_element
element_zero e ss = refl

pub element_leaf : (depth : ℕ) (e : Element) (ss : List Symbol) → is_leaf e ≡ true → read_element depth e ss ≡ read_leaf e ss
unfolding read_element
element_leaf zero e ss h = refl
element_leaf (suc depth) e ss h = rw h refl

pub element_other : (depth less : ℕ) (e : Element) (ss : List Symbol) → is_leaf e ≡ false → depth ≡ suc less → read_element depth e ss ≡ read_container e (read_children e (read_element less)) ss
unfolding read_element
element_other depth less e ss h d = rw (d, h) refl

-- ---- results

-- one more element was found, but for want of memory
pub pushed_gives : {B : Type 0} (outcome : Outcome Symbol ⊥ (List Found)) (r : Result B Failure) (before after : List Found) (one : Found) (left : List Symbol)
    → outcome ≡ found (before ++ one ∷ []) left → MatchResult r (λ b. after ≡ before ++ one ∷ []) (λ e. e ≡ Memory) → Gives outcome r after left
pushed_gives outcome (Ok b) before after one left o h = o ∙ ap (λ l. found l left) (sym h)
pushed_gives outcome (Err Refused) before after one left o h = cc
pushed_gives outcome (Err Memory) before after one left o h = tt

pub fails_on : {A : Type 0} (B : Type 0) (o q : Outcome Symbol ⊥ A) (e : Failure) (value other : A) (left : List Symbol) → (o ≡ failed None left → q ≡ failed None left)
    → Gives {B = B} o (Err e) value left → Gives {B = B} q (Err e) other left
fails_on B o q Refused value other left f g = f g
fails_on B o q Memory value other left f g = tt

pub close_gives : {B : Type 0} (element : Element) (o : Outcome Symbol ⊥ (List Found)) (r : Result B Failure) (items : List Found) (before after : List Symbol)
    → o ≡ closed_by (λ s. ends_element element s.piece) items before
    → MatchResult r (λ b. Closes element before after) (λ e. FailsToClose element before after e) → Gives o r items after
close_gives element o (Ok b) items before after e h = e ∙ rw (h.0, h.1) refl
close_gives element o (Err f) items before after e h = rw h.0 (e ∙ rw (h.1, h.2) refl)

pub behind_shorter : (test : Symbol → Bool) (ss : List Symbol) → length (behind test ss) ≤ length ss
behind_shorter test [] = omega arith
behind_shorter test (s ∷ ss) =
    let P : Bool → Type 0 = λ t. length (if t then ss else s ∷ ss) ≤ suc (length ss) in
    elim (test s) as P [ true ↦ omega arith | false ↦ omega arith ]

-- ---- the body

pub document_reads : (before : List Found) (ss : List Symbol) (after : List Found) (left : List Symbol)
    → onto before (read_element 3 Request (behind_blanks (behind (λ s. is_declaration_piece s.piece) ss))) ≡ found after left → onto before (read_body ss) ≡ found after (behind_blanks left)
unfolding read_body
document_reads before ss after left e = onto_blanks before (read_element 3 Request) (behind_blanks (behind (λ s. is_declaration_piece s.piece) ss)) after left e

pub document_fails : (before : List Found) (ss left : List Symbol)
    → onto before (read_element 3 Request (behind_blanks (behind (λ s. is_declaration_piece s.piece) ss))) ≡ failed None left → onto before (read_body ss) ≡ failed None left
unfolding read_body
document_fails before ss left e = onto_failed before (λ a l. found a (behind_blanks l)) (read_element 3 Request (behind_blanks (behind (λ s. is_declaration_piece s.piece) ss))) left e
