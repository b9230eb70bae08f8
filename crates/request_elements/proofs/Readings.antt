-- The readers of the pieces read the grammar's rules.
use Rattle.std.proofs.Common.{◌≡◌, ℕ, zero, suc, ◌&&◌, ◌||◌, Bool, true, false, List, [], ◌∷◌, ◌++◌, Some, None, is_some, unwrap_or, refl, sym, subst, ◌∙◌, if◌then◌else◌}
use Rattle.std.proofs.Math.Bool.{and-false, or-false}
use Rattle.grammar_rules.specs.Rules.{Rule, Verdict, takes, refuses, terminal, token, made, optional, followed_by, preceded_by, ◌&◌, one_of_two, allowed, members}
use Rattle.grammar_rules.specs.Readers.{Outcome, found, failed, and_then, read_made, read_symbol, read_terminal, is_seen, chosen, closed_by, read_before, read_pair, read_optional, is_free}
use Rattle.grammar_rules.proofs.Lists.{or_left}
use Rattle.grammar_rules.proofs.Clear.{Sight}
use Rattle.grammar_rules.proofs.Sequences.{sequence_sight}
use Rattle.grammar_rules.proofs.Terminals.{terminal_sight}
use Rattle.grammar_rules.proofs.Reading.{Reads, token_sight, reads-terminal, reads-token, reads-made, reads-sequence, reads-pair, reads_as, reads_seen, then_sight, reads_then}
use Rattle.grammar_rules.proofs.Choices.{optional_sight, reads-either, reads-optional}
use Rattle.grammar_rules.proofs.Members.{Named, allowed_sight, members_sight}
use Rattle.grammar_rules.proofs.AnyOrder.{reads-members}
use Rattle.request_elements.specs.declared.element.Element.{Element}
use Rattle.request_elements.specs.declared.element.Element.TheVariants.{Request}
use Rattle.request_elements.specs.declared.found.Found.{Found}
use Rattle.request_elements.specs.Elements.{is_leaf, is_child, same_element}
use Rattle.request_elements.specs.Pieces.{Piece, declaration, start_tag, end_tag, empty_tag, char_data, unfit, Symbol}
use Rattle.request_elements.specs.Grammar.{is_declaration_piece, is_blank_piece, starts_element, ends_element, is_whole_element, characters_of, taken, blanks, start_of, end_of, whole_of, characters, found_alone, leaf, container, joined, children, element_within, request_body}
use Rattle.request_elements.specs.Readers.{behind, behind_blanks, read_token, with_blanks, read_whole, read_characters, read_leaf, read_container, child_begun, read_allowed, read_child, read_free, read_children, read_element, read_body}
use Rattle.request_elements.proofs.ChildLaws.{begins_tag, tells_tag, blank_or_child}

-- the lookahead of a symbol that may be there
abbrev pub maybe_sight : (Symbol → Bool) → Sight Symbol
maybe_sight test = record { first = test; null = true; more = test }

reads-maybe : (test : Symbol → Bool) → Reads (optional (token {K = ⊥} test)) (maybe_sight test) (read_optional test (read_token test))
reads-maybe test =
    reads_seen (optional (token test)) (optional_sight (token_sight test)) (maybe_sight test) (read_optional test (read_token test))
    (record { first = λ x e. sym (or-false (test x)) ∙ e; null = λ e. refl; more = λ x e. sym (or-false (test x)) ∙ e })
    (λ x e. or_left (test x) false e)
    (λ e. refl)
    (reads-optional (token test) (token_sight test) (read_token test) (reads-token test) refl)

-- a rule behind a symbol that may be there
module _ {A : Type 0} (test : Symbol → Bool) (G : Rule Symbol ⊥ A) (s : Sight Symbol) (read : List Symbol → Outcome Symbol ⊥ A) where
  behind_reader : (ss : List Symbol) → and_then (read_optional test (read_token test) ss) (λ a left. read left) ≡ read (behind test ss)
  behind_reader [] = refl
  behind_reader (x ∷ ss) =
      let P : Bool → Type 0 = λ t. and_then (chosen t (read_made Some (read_symbol (if t then takes x else refuses) x ss)) (found None (x ∷ ss))) (λ a left. read left) ≡ read (if t then ss else x ∷ ss) in
      elim (test x) as P [ true ↦ refl | false ↦ refl ]

  pub reads-behind : Reads G s read → ((x : Symbol) → (test x && s.first x) ≡ false) → Reads (preceded_by (optional (token test)) G) (sequence_sight (maybe_sight test) s) (λ ss. read (behind test ss))
  reads-behind g off =
      reads_as (preceded_by (optional (token test)) G) (sequence_sight (maybe_sight test) s) (λ ss. and_then (read_optional test (read_token test) ss) (λ a left. read left)) (λ ss. read (behind test ss)) behind_reader
      (reads-sequence (optional (token test)) (λ a. G) (maybe_sight test) s (read_optional test (read_token test)) (λ a left. read left) (reads-maybe test) (λ a. g) off)

-- a rule whose end is told by a symbol behind it
module _ {A : Type 0} (test : Symbol → Bool) (G : Rule Symbol ⊥ A) (s : Sight Symbol) (read : List Symbol → Outcome Symbol ⊥ A) where
  closed_symbol : (a : A) (b : Bool) (t : Symbol) (ss : List Symbol) → read_made {K = ⊥} (λ u. a) (read_symbol (if b then takes t else refuses) t ss) ≡ chosen b (found a ss) (failed None (t ∷ ss))
  closed_symbol a true t ss = refl
  closed_symbol a false t ss = refl

  closed_reader : (a : A) (ss : List Symbol) → read_made {K = ⊥} (λ u. a) (read_token test ss) ≡ closed_by test a ss
  closed_reader a [] = refl
  closed_reader a (t ∷ ss) = closed_symbol a (test t) t ss

  closed_outcome : (o : Outcome Symbol ⊥ A) → and_then o (λ a left. read_made (λ u. a) (read_token test left)) ≡ and_then o (closed_by test)
  closed_outcome (found a left) = closed_reader a left
  closed_outcome (failed k left) = refl

  pub reads-closed : Reads G s read → ((x : Symbol) → (s.more x && test x) ≡ false) → Reads (followed_by G (token test)) (sequence_sight s (token_sight test)) (read_before test read)
  reads-closed g off =
      reads_as (followed_by G (token test)) (sequence_sight s (token_sight test)) (λ ss. and_then (read ss) (λ a left. read_made (λ u. a) (read_token test left))) (read_before test read) (λ ss. closed_outcome (read ss))
      (reads-sequence G (λ a. made (λ u. a) (token test)) s (token_sight test) read (λ a left. read_made (λ u. a) (read_token test left)) g
      (λ a. reads-made (λ u. a) (token test) (token_sight test) (read_token test) (reads-token test)) off)

-- ---- the elements' tags

abbrev pub tag_sight : Element → Sight Symbol
tag_sight e = record { first = λ x. is_whole_element e x.piece || starts_element e x.piece; null = false; more = λ x. false }

-- and blanks behind the element
abbrev pub child_sight : Element → Sight Symbol
child_sight e = record { first = λ x. is_whole_element e x.piece || starts_element e x.piece; null = false; more = λ x. is_blank_piece x.piece }

module _ {A : Type 0} (e : Element) (G : Rule Symbol ⊥ A) (read : List Symbol → Outcome Symbol ⊥ A) where
  blanks_read : (a : A) (ss : List Symbol) → read_made (λ b. a) (read_optional {K = ⊥} (λ s. is_blank_piece s.piece) (read_token (λ s. is_blank_piece s.piece)) ss) ≡ found a (behind_blanks ss)
  blanks_read a [] = refl
  blanks_read a (x ∷ ss) =
      let P : Bool → Type 0 = λ t. read_made {K = ⊥} (λ b. a) (chosen t (read_made Some (read_symbol (if t then takes x else refuses) x ss)) (found None (x ∷ ss))) ≡ found a (if t then ss else x ∷ ss) in
      elim (is_blank_piece x.piece) as P [ true ↦ refl | false ↦ refl ]

  blanks_outcome : (o : Outcome Symbol ⊥ A) → and_then o (λ a left. read_made (λ b. a) (read_optional (λ s. is_blank_piece s.piece) (read_token (λ s. is_blank_piece s.piece)) left)) ≡ and_then o (λ a left. found a (behind_blanks left))
  blanks_outcome (found a left) = blanks_read a left
  blanks_outcome (failed k left) = refl

  pub reads-with_blanks : Reads G (tag_sight e) read → Reads (followed_by G blanks) (child_sight e) (with_blanks read)
  reads-with_blanks g =
      reads_seen (followed_by G blanks) (then_sight (tag_sight e) (maybe_sight (λ s. is_blank_piece s.piece))) (child_sight e) (with_blanks read)
      (record { first = λ x h. h; null = λ h. h; more = λ x h. sym (or-false _) ∙ h })
      (λ x h. h) (λ h. h)
      (reads_then (followed_by G blanks) (tag_sight e) (maybe_sight (λ s. is_blank_piece s.piece)) (with_blanks read) refl
      (reads_as (followed_by G blanks) (sequence_sight (tag_sight e) (maybe_sight (λ s. is_blank_piece s.piece)))
      (λ ss. and_then (read ss) (λ a left. read_made (λ b. a) (read_optional (λ s. is_blank_piece s.piece) (read_token (λ s. is_blank_piece s.piece)) left))) (with_blanks read) (λ ss. blanks_outcome (read ss))
      (reads-sequence G (λ a. made (λ b. a) blanks) (tag_sight e) (maybe_sight (λ s. is_blank_piece s.piece)) read (λ a left. read_made (λ b. a) (read_optional (λ s. is_blank_piece s.piece) (read_token (λ s. is_blank_piece s.piece)) left)) g
      (λ a. reads-made (λ b. a) blanks (maybe_sight (λ s. is_blank_piece s.piece)) (read_optional (λ s. is_blank_piece s.piece) (read_token (λ s. is_blank_piece s.piece))) (reads-maybe (λ s. is_blank_piece s.piece))) (λ x. refl))))

whole_or_start : (e : Element) (p : Piece) → (is_whole_element e p && starts_element e p) ≡ false
whole_or_start e declaration = refl
whole_or_start e (start_tag name) = refl
whole_or_start e (end_tag name) = refl
whole_or_start e (empty_tag name) = and-false _
whole_or_start e (char_data raw) = refl
whole_or_start e unfit = refl

text_or_end : (e : Element) (p : Piece) → ((is_seen (taken (characters_of p)) || false) && ends_element e p) ≡ false
text_or_end e declaration = refl
text_or_end e (start_tag name) = refl
text_or_end e (end_tag name) = refl
text_or_end e (empty_tag name) = refl
text_or_end e (char_data raw) = and-false _
text_or_end e unfit = refl

abbrev text_look : Symbol → Verdict ⊥ (List ℕ)
text_look s = taken (characters_of s.piece)

reads-characters : Reads characters (optional_sight (terminal_sight text_look)) read_characters
reads-characters =
    reads-made (λ t. unwrap_or t []) (optional (terminal text_look)) (optional_sight (terminal_sight text_look)) (read_optional (λ s. is_seen (text_look s)) (read_terminal text_look))
    (reads-optional (terminal text_look) (terminal_sight text_look) (read_terminal text_look) (reads-terminal text_look) refl)

module _ (e : Element) where
  abbrev whole : Symbol → Bool
  whole s = is_whole_element e s.piece

  abbrev start : Symbol → Bool
  start s = starts_element e s.piece

  abbrev ending : Symbol → Bool
  ending s = ends_element e s.piece

  reads-whole : Reads (made (λ s. found_alone e s.at []) (whole_of e)) (token_sight whole) (read_whole e)
  reads-whole = reads-made (λ s. found_alone e s.at []) (whole_of e) (token_sight whole) (read_token whole) (reads-token whole)

  abbrev leaf_end : Sight Symbol
  leaf_end = sequence_sight (optional_sight (terminal_sight text_look)) (token_sight ending)

  reads-text : Reads (made (λ p. found_alone e p.0.at p.1) (start_of e & followed_by characters (end_of e))) (then_sight (token_sight start) leaf_end) (λ ss. read_made (λ p. found_alone e p.0.at p.1) (read_pair (read_token start) (read_before ending read_characters) ss))
  reads-text =
      reads-made (λ p. found_alone e p.0.at p.1) (start_of e & followed_by characters (end_of e)) (then_sight (token_sight start) leaf_end) (read_pair (read_token start) (read_before ending read_characters))
      (reads_then (start_of e & followed_by characters (end_of e)) (token_sight start) leaf_end (read_pair (read_token start) (read_before ending read_characters)) refl
      (reads-pair (start_of e) (followed_by characters (end_of e)) (token_sight start) leaf_end (read_token start) (read_before ending read_characters) (reads-token start)
      (reads-closed ending characters (optional_sight (terminal_sight text_look)) read_characters reads-characters (λ x. text_or_end e x.piece)) (λ x. refl)))

  pub reads-leaf : Reads (leaf e) (tag_sight e) (read_leaf e)
  unfolding read_leaf
  reads-leaf =
      reads-either (made (λ s. found_alone e s.at []) (whole_of e)) (made (λ p. found_alone e p.0.at p.1) (start_of e & followed_by characters (end_of e)))
      (token_sight whole) (then_sight (token_sight start) leaf_end) (read_whole e) (λ ss. read_made (λ p. found_alone e p.0.at p.1) (read_pair (read_token start) (read_before ending read_characters) ss))
      reads-whole reads-text (λ x. whole_or_start e x.piece) refl

-- ---- containers

abbrev pub is_tail : Symbol → Bool
is_tail s = is_blank_piece s.piece

abbrev pub children_sight : Element → Sight Symbol
children_sight e = members_sight (λ s. child_begun e s.piece) is_tail (λ c. true)

child_or_end : (e : Element) (p : Piece) → ((is_some (child_begun e p) || is_blank_piece p) && ends_element e p) ≡ false
child_or_end e declaration = refl
child_or_end e (start_tag name) = and-false _
child_or_end e (end_tag name) = refl
child_or_end e (empty_tag name) = and-false _
child_or_end e (char_data raw) = and-false _
child_or_end e unfit = refl

blank_or_other : (e : Element) (p : Piece) → (is_blank_piece p && (is_free (λ c. true) (child_begun e p) || ends_element e p)) ≡ false
blank_or_other e declaration = refl
blank_or_other e (start_tag name) = refl
blank_or_other e (end_tag name) = refl
blank_or_other e (empty_tag name) = refl
blank_or_other e (char_data raw) = and-false _
blank_or_other e unfit = refl

module _ (e : Element) (G : Rule Symbol ⊥ (List Found)) (read : List Symbol → Outcome Symbol ⊥ (List Found)) (g : Reads G (children_sight e) read) where
  abbrev inner_sight : Sight Symbol
  inner_sight = sequence_sight (maybe_sight is_tail) (sequence_sight (children_sight e) (token_sight (ending e)))

  abbrev inner : Rule Symbol ⊥ (List Found)
  inner = preceded_by blanks (followed_by G (end_of e))

  abbrev read_inner : List Symbol → Outcome Symbol ⊥ (List Found)
  read_inner ss = read_before (ending e) read (behind_blanks ss)

  reads-inner : Reads inner inner_sight read_inner
  reads-inner =
      reads-behind is_tail (followed_by G (end_of e)) (sequence_sight (children_sight e) (token_sight (ending e))) (read_before (ending e) read)
      (reads-closed (ending e) G (children_sight e) read g (λ x. child_or_end e x.piece))
      (λ x. blank_or_other e x.piece)

  reads-tags : Reads (made (λ p. found_alone e p.0.at [] ++ p.1) (start_of e & inner)) (then_sight (token_sight (start e)) inner_sight) (λ ss. read_made (λ p. found_alone e p.0.at [] ++ p.1) (read_pair (read_token (start e)) read_inner ss))
  reads-tags =
      reads-made (λ p. found_alone e p.0.at [] ++ p.1) (start_of e & inner) (then_sight (token_sight (start e)) inner_sight) (read_pair (read_token (start e)) read_inner)
      (reads_then (start_of e & inner) (token_sight (start e)) inner_sight (read_pair (read_token (start e)) read_inner) refl
      (reads-pair (start_of e) inner (token_sight (start e)) inner_sight (read_token (start e)) read_inner (reads-token (start e)) reads-inner (λ x. refl)))

  pub reads-container : Reads (container e G) (tag_sight e) (read_container e read)
  unfolding read_container
  reads-container =
      reads-either (made (λ s. found_alone e s.at []) (whole_of e)) (made (λ p. found_alone e p.0.at [] ++ p.1) (start_of e & inner))
      (token_sight (whole e)) (then_sight (token_sight (start e)) inner_sight) (read_whole e) (λ ss. read_made (λ p. found_alone e p.0.at [] ++ p.1) (read_pair (read_token (start e)) read_inner ss))
      (reads-whole e) reads-tags (λ x. whole_or_start e x.piece) refl

-- ---- the elements that stand in one

reads-allowed : {A : Type 0} (b : Bool) (G : Rule Symbol ⊥ A) (s : Sight Symbol) (read : List Symbol → Outcome Symbol ⊥ A) → Reads G s read → Reads (allowed b G) (allowed_sight b s) (read_allowed b read)
reads-allowed true G s read g = g
reads-allowed false G s read g = reads-terminal (λ t. refuses)

module _ (e : Element) where
  abbrev pub each_sight : Element → Sight Symbol
  each_sight c = allowed_sight (is_child e c) (child_sight c)

  begins_allowed : (i : Element) (b : Bool) (t : Symbol) → is_child e i ≡ b → (allowed_sight b (child_sight i)).first t ≡ true → child_begun e t.piece ≡ Some i
  begins_allowed i true t k h = begins_tag e i t.piece k h
  begins_allowed i false t k h = cc

  tells_allowed : (i : Element) (t : Symbol) → child_begun e t.piece ≡ Some i → (each_sight i).first t ≡ true
  tells_allowed i t h =
      let w = tells_tag e i t.piece h in
      subst (λ b. (allowed_sight b (child_sight i)).first t ≡ true) (sym w.0) w.1

  wants_allowed : (i : Element) (b : Bool) → (allowed_sight b (child_sight i)).null ≡ false
  wants_allowed i true = refl
  wants_allowed i false = refl

  more_allowed : (i : Element) (b : Bool) (t : Symbol) → (allowed_sight b (child_sight i)).more t ≡ true → is_tail t ≡ true
  more_allowed i true t h = h
  more_allowed i false t h = cc

  pub named_children : Named each_sight (λ s. child_begun e s.piece) is_tail
  named_children = record {
    begins = λ i t h. begins_allowed i (is_child e i) t refl h;
    tells = tells_allowed;
    wants = λ i. wants_allowed i (is_child e i);
    more = λ i t h. more_allowed i (is_child e i) t h;
    apart = λ t. blank_or_child e t.piece;
  }

  module _ (one : Element → Rule Symbol ⊥ (List Found)) (read : Element → List Symbol → Outcome Symbol ⊥ (List Found)) (g : (c : Element) → Reads (one c) (tag_sight c) (read c)) where
    pub reads-child : (c : Element) → Reads (allowed (is_child e c) (followed_by (one c) blanks)) (each_sight c) (read_child e read c)
    reads-child c = reads-allowed (is_child e c) (followed_by (one c) blanks) (child_sight c) (with_blanks (read c)) (reads-with_blanks c (one c) (read c) (g c))

    pub reads-children : Reads (children e one) (children_sight e) (read_children e read)
    reads-children =
        reads-made joined (members same_element (λ c. allowed (is_child e c) (followed_by (one c) blanks)) (λ c. true)) (children_sight e) (read_free e read (λ c. true))
        (reads-members same_element (λ c. allowed (is_child e c) (followed_by (one c) blanks)) each_sight (λ s. child_begun e s.piece) is_tail named_children (read_child e read) reads-child (λ c. true))

-- ---- an element, and the body

reads-two : (e : Element) (G : Rule Symbol ⊥ (List Found)) (read : List Symbol → Outcome Symbol ⊥ (List Found)) (b : Bool) → Reads G (tag_sight e) read
    → Reads (one_of_two (leaf e) G b) (tag_sight e) (λ ss. chosen b (read_leaf e ss) (read ss))
reads-two e G read true g = reads-leaf e
reads-two e G read false g = g

pub reads-element : (depth : ℕ) (e : Element) → Reads (element_within depth e) (tag_sight e) (read_element depth e)
unfolding element_within read_element
reads-element zero e = reads-leaf e
reads-element (suc depth) e =
    reads-two e (container e (children e (element_within depth))) (read_container e (read_children e (read_element depth))) (is_leaf e)
    (reads-container e (children e (element_within depth)) (read_children e (read_element depth))
    (reads-children e (element_within depth) (read_element depth) (reads-element depth)))

blank_or_tag : (e : Element) (p : Piece) → (is_blank_piece p && (is_whole_element e p || starts_element e p)) ≡ false
blank_or_tag e declaration = refl
blank_or_tag e (start_tag name) = refl
blank_or_tag e (end_tag name) = refl
blank_or_tag e (empty_tag name) = refl
blank_or_tag e (char_data raw) = and-false _
blank_or_tag e unfit = refl

declaration_or_rest : (p : Piece) → (is_declaration_piece p && (is_blank_piece p || (is_whole_element Request p || starts_element Request p))) ≡ false
declaration_or_rest declaration = refl
declaration_or_rest (start_tag name) = refl
declaration_or_rest (end_tag name) = refl
declaration_or_rest (empty_tag name) = refl
declaration_or_rest (char_data raw) = refl
declaration_or_rest unfit = refl

abbrev pub is_declared_first : Symbol → Bool
is_declared_first s = is_declaration_piece s.piece

abbrev pub root_sight : Sight Symbol
root_sight = sequence_sight (maybe_sight is_tail) (child_sight Request)

abbrev pub body_sight : Sight Symbol
body_sight = sequence_sight (maybe_sight is_declared_first) root_sight

pub reads-body : Reads request_body body_sight read_body
unfolding request_body read_body
reads-body =
    reads-behind is_declared_first (preceded_by blanks (followed_by (element_within 3 Request) blanks)) root_sight (λ ss. with_blanks (read_element 3 Request) (behind_blanks ss))
    (reads-behind is_tail (followed_by (element_within 3 Request) blanks) (child_sight Request) (with_blanks (read_element 3 Request))
    (reads-with_blanks Request (element_within 3 Request) (read_element 3 Request) (reads-element 3 Request)) (λ x. blank_or_tag Request x.piece))
    (λ x. declaration_or_rest x.piece)
