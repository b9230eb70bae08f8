-- Readers of a body's pieces, which mirror the grammar's rules one by one.
use Rattle.std.specs.Prelude.{◌≡◌, ℕ, zero, suc, Bool, true, false, not, List, [], ◌∷◌, ◌++◌, drop, Option, None, Some, Result, Ok, Err, unwrap_or, slice_index_or, if◌then◌else◌}
use Rattle.grammar_rules.specs.Rules.{takes, refuses}
use Rattle.grammar_rules.specs.Readers.{Outcome, found, failed, and_then, read_made, read_terminal, is_seen, starts, chosen, read_before, read_pair, read_either, read_optional, read_members}
use Rattle.request_elements.specs.declared.element.Element.{Element}
use Rattle.request_elements.specs.declared.element.Element.TheVariants.{Request}
use Rattle.request_elements.specs.declared.found.Found.{Found}
use Rattle.request_elements.specs.declared.elements.Failure.{Failure}
use Rattle.request_elements.specs.declared.elements.Failure.TheVariants.{Refused, Memory}
use Rattle.request_elements.specs.Elements.{is_leaf, is_child, same_element, number_of, child_named}
use Rattle.request_elements.specs.Pieces.{Piece, declaration, start_tag, end_tag, empty_tag, char_data, unfit, Symbol}
use Rattle.request_elements.specs.Grammar.{is_declaration_piece, is_blank_piece, starts_element, ends_element, is_whole_element, characters_of, taken, found_alone, joined}

-- behind a symbol that passes the test, where one stands at the front
abbrev pub behind : (Symbol → Bool) → List Symbol → List Symbol
behind test [] = []
behind test (s ∷ ss) = if test s then ss else s ∷ ss

abbrev pub behind_blanks : List Symbol → List Symbol
behind_blanks ss = behind (λ s. is_blank_piece s.piece) ss

-- a symbol that passes the test
abbrev pub read_token : (Symbol → Bool) → List Symbol → Outcome Symbol ⊥ Symbol
read_token test ss = read_terminal (λ s. if test s then takes s else refuses) ss

-- and blanks behind it
abbrev pub with_blanks : {A : Type 0} → (List Symbol → Outcome Symbol ⊥ A) → List Symbol → Outcome Symbol ⊥ A
with_blanks read ss = and_then (read ss) (λ a left. found a (behind_blanks left))

abbrev pub read_whole : Element → List Symbol → Outcome Symbol ⊥ (List Found)
read_whole e ss = read_made (λ s. found_alone e s.at []) (read_token (λ s. is_whole_element e s.piece) ss)

abbrev pub read_characters : List Symbol → Outcome Symbol ⊥ (List ℕ)
read_characters ss =
    read_made (λ t. unwrap_or t []) (read_optional (λ s. is_seen (taken (characters_of s.piece))) (read_terminal (λ s. taken (characters_of s.piece))) ss)

unfoldable pub read_leaf : Element → List Symbol → Outcome Symbol ⊥ (List Found)
read_leaf e ss =
    read_either (λ s. is_whole_element e s.piece) (read_whole e)
    (λ left. read_made (λ p. found_alone e p.0.at p.1) (read_pair (read_token (λ s. starts_element e s.piece)) (read_before (λ s. ends_element e s.piece) read_characters) left)) ss

unfoldable pub read_container : Element → (List Symbol → Outcome Symbol ⊥ (List Found)) → List Symbol → Outcome Symbol ⊥ (List Found)
read_container e read ss =
    read_either (λ s. is_whole_element e s.piece) (read_whole e)
    (λ left. read_made (λ p. found_alone e p.0.at [] ++ p.1)
    (read_pair (read_token (λ s. starts_element e s.piece)) (λ inner. read_before (λ s. ends_element e s.piece) read (behind_blanks inner)) left)) ss

-- the element that stands in this one and that a piece begins
abbrev pub child_begun : Element → Piece → Option Element
child_begun e declaration = None
child_begun e (start_tag name) = child_named e name
child_begun e (end_tag name) = None
child_begun e (empty_tag name) = child_named e name
child_begun e (char_data raw) = None
child_begun e unfit = None

-- an element where it may stand
abbrev pub read_allowed : {A : Type 0} → Bool → (List Symbol → Outcome Symbol ⊥ A) → List Symbol → Outcome Symbol ⊥ A
read_allowed true read ss = read ss
read_allowed false read ss = read_terminal (λ s. refuses) ss

abbrev pub read_child : Element → (Element → List Symbol → Outcome Symbol ⊥ (List Found)) → Element → List Symbol → Outcome Symbol ⊥ (List Found)
read_child e read c ss = read_allowed (is_child e c) (with_blanks (read c)) ss

-- the elements of these that are free, in any order
abbrev pub read_free : Element → (Element → List Symbol → Outcome Symbol ⊥ (List Found)) → (Element → Bool) → List Symbol → Outcome Symbol ⊥ (List (Element × List Found))
read_free e read free ss = read_members same_element (λ s. child_begun e s.piece) (read_child e read) free ss

abbrev pub read_children : Element → (Element → List Symbol → Outcome Symbol ⊥ (List Found)) → List Symbol → Outcome Symbol ⊥ (List Found)
read_children e read ss = read_made joined (read_free e read (λ c. true) ss)

unfoldable pub read_element : ℕ → Element → List Symbol → Outcome Symbol ⊥ (List Found)
read_element zero e ss = read_leaf e ss
read_element (suc depth) e ss =
    chosen (is_leaf e) (read_leaf e ss) (read_container e (read_children e (read_element depth)) ss)

unfoldable pub read_body : List Symbol → Outcome Symbol ⊥ (List Found)
read_body ss = with_blanks (read_element 3 Request) (behind_blanks (behind (λ s. is_declaration_piece s.piece) ss))

-- ---- the child in sight

-- an element is free that isn't marked
unfoldable pub free_of : List Bool → Element → Bool
free_of marked e = not (slice_index_or marked (number_of e) false)

-- the element that stands in this one and that the first piece begins
abbrev pub first_child : Element → List Symbol → Option Element
first_child e [] = None
first_child e (s ∷ ss) = child_begun e s.piece

-- the same where it is free
abbrev pub where_free : (Element → Bool) → Option Element → Option Element
where_free free None = None
where_free free (Some c) = if free c then Some c else None

-- ---- what the functions give

-- the outcome behind elements that were found before
abbrev pub onto : List Found → Outcome Symbol ⊥ (List Found) → Outcome Symbol ⊥ (List Found)
onto before outcome = read_made (λ more. before ++ more) outcome

-- the result is that outcome, with the list of elements and with what is left, but for want of memory
abbrev pub Gives : {A B : Type 0} → Outcome Symbol ⊥ A → Result B Failure → A → List Symbol → Type 0
Gives outcome (Ok b) value left = outcome ≡ found value left
Gives outcome (Err Refused) value left = outcome ≡ failed None left
Gives outcome (Err Memory) value left = Unit {0}

-- the end tag at the front is passed, or none stands there and nothing is
abbrev pub Closes : Element → List Symbol → List Symbol → Type 0
Closes e before after = (starts (λ s. ends_element e s.piece) before ≡ true) × (after ≡ drop 1 before)

abbrev pub FailsToClose : Element → List Symbol → List Symbol → Failure → Type 0
FailsToClose e before after failure = (failure ≡ Refused) × (starts (λ s. ends_element e s.piece) before ≡ false) × (after ≡ before)

-- the outcome's text
abbrev pub GivesCharacters : Outcome Symbol ⊥ (List ℕ) → Result (List ℕ) Failure → List Symbol → Type 0
GivesCharacters outcome (Ok text) left = outcome ≡ found text left
GivesCharacters outcome (Err failure) left = failure ≡ Memory
