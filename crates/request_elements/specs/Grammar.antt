-- The grammar of a request body over its pieces (Amazon S3 API Reference, SelectObjectContent; XML 1.0). Its value is the
-- list of the elements found, in the order in which they begin.
use Rattle.std.specs.Prelude.{ℕ, zero, suc, Bool, true, false, List, [], ◌∷◌, ◌++◌, Option, Some, None, bytes_eq, unwrap_or}
use Rattle.grammar_rules.specs.Rules.{Rule, Verdict, takes, refuses, terminal, token, made, either, optional, followed_by, preceded_by, ◌&◌, one_of_two, allowed, members}
use Rattle.request_elements.specs.declared.element.Element.{Element}
use Rattle.request_elements.specs.declared.element.Element.TheVariants.{Request}
use Rattle.request_elements.specs.declared.found.Found.{Found}
use Rattle.request_elements.specs.Elements.{name_of, is_leaf, is_child, same_element}
use Rattle.request_elements.specs.Pieces.{Piece, declaration, start_tag, end_tag, empty_tag, char_data, unfit, Symbol, are_blanks}
use Rattle.request_elements.specs.TextValue.{text_value}

-- ---- what a piece is

abbrev pub is_declaration_piece : Piece → Bool
is_declaration_piece declaration = true
is_declaration_piece (start_tag name) = false
is_declaration_piece (end_tag name) = false
is_declaration_piece (empty_tag name) = false
is_declaration_piece (char_data raw) = false
is_declaration_piece unfit = false

abbrev pub is_blank_piece : Piece → Bool
is_blank_piece declaration = false
is_blank_piece (start_tag name) = false
is_blank_piece (end_tag name) = false
is_blank_piece (empty_tag name) = false
is_blank_piece (char_data raw) = are_blanks raw
is_blank_piece unfit = false

-- <X S>
abbrev pub starts_element : Element → Piece → Bool
starts_element e declaration = false
starts_element e (start_tag name) = bytes_eq name (name_of e)
starts_element e (end_tag name) = false
starts_element e (empty_tag name) = false
starts_element e (char_data raw) = false
starts_element e unfit = false

-- </X S>
abbrev pub ends_element : Element → Piece → Bool
ends_element e declaration = false
ends_element e (start_tag name) = false
ends_element e (end_tag name) = bytes_eq name (name_of e)
ends_element e (empty_tag name) = false
ends_element e (char_data raw) = false
ends_element e unfit = false

-- <X S/>
abbrev pub is_whole_element : Element → Piece → Bool
is_whole_element e declaration = false
is_whole_element e (start_tag name) = false
is_whole_element e (end_tag name) = false
is_whole_element e (empty_tag name) = bytes_eq name (name_of e)
is_whole_element e (char_data raw) = false
is_whole_element e unfit = false

-- the characters of a text
abbrev pub characters_of : Piece → Option (List ℕ)
characters_of declaration = None
characters_of (start_tag name) = None
characters_of (end_tag name) = None
characters_of (empty_tag name) = None
characters_of (char_data raw) = text_value raw
characters_of unfit = None

-- the value is taken where there is one; no fault has a name
abbrev pub taken : {A : Type 0} → Option A → Verdict ⊥ A
taken None = refuses
taken (Some a) = takes a

-- ---- the rules

-- S
abbrev pub blanks : Rule Symbol ⊥ (Option Symbol)
blanks = optional (token (λ s. is_blank_piece s.piece))

-- start tag and end tag, and a tag that is the whole element
abbrev pub start_of : Element → Rule Symbol ⊥ Symbol
start_of e = token (λ s. starts_element e s.piece)

abbrev pub end_of : Element → Rule Symbol ⊥ Symbol
end_of e = token (λ s. ends_element e s.piece)

abbrev pub whole_of : Element → Rule Symbol ⊥ Symbol
whole_of e = token (λ s. is_whole_element e s.piece)

-- the text of a leaf, which may be empty
abbrev pub characters : Rule Symbol ⊥ (List ℕ)
characters = made (λ t. unwrap_or t []) (optional (terminal (λ s. taken (characters_of s.piece))))

-- an element with this text, at this place
abbrev pub found_alone : Element → ℕ → List ℕ → List Found
found_alone e at text = record { element = e; at = at; text = text } ∷ []

-- leaf X = "<X" S ">" text "</X" S ">" | "<X" S "/>"
abbrev pub leaf : Element → Rule Symbol ⊥ (List Found)
leaf e =
    either (made (λ s. found_alone e s.at []) (whole_of e))
    (made (λ p. found_alone e p.0.at p.1) (start_of e & followed_by characters (end_of e)))

-- container X = "<X" S ">" S children "</X" S ">" | "<X" S "/>"
abbrev pub container : Element → Rule Symbol ⊥ (List Found) → Rule Symbol ⊥ (List Found)
container e children =
    either (made (λ s. found_alone e s.at []) (whole_of e))
    (made (λ p. found_alone e p.0.at [] ++ p.1) (start_of e & preceded_by blanks (followed_by children (end_of e))))

-- what was found in all of them
abbrev pub joined : List (Element × List Found) → List Found
joined [] = []
joined (m ∷ members) = m.1 ++ joined members

-- the elements that stand in this one, in any order, each at most once, and each followed by S
abbrev pub children : Element → (Element → Rule Symbol ⊥ (List Found)) → Rule Symbol ⊥ (List Found)
children e element = made joined (members same_element (λ c. allowed (is_child e c) (followed_by (element c) blanks)) (λ c. true))

-- the element, where others stand in it at most so deep; the innermost are leaves
unfoldable pub element_within : ℕ → Element → Rule Symbol ⊥ (List Found)
element_within zero e = leaf e
element_within (suc depth) e = one_of_two (leaf e) (container e (children e (element_within depth))) (is_leaf e)

-- body = [ declaration ] S root S
unfoldable pub request_body : Rule Symbol ⊥ (List Found)
request_body =
    preceded_by (optional (token (λ s. is_declaration_piece s.piece)))
    (preceded_by blanks (followed_by (element_within 3 Request) blanks))
