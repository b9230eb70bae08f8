-- A request that was read has no NUL, so it is printed where its expression is short enough.
use Rattle.std.specs.Prelude.{◌≡◌, ℕ, zero, suc, ◌+◌, ◌/◌, ◌%◌, ◌<◌, ◌≤◌, Bool, true, false, ◌&&◌, ◌==◌, not, nat_lt, nat_le, List, [], ◌∷◌, ◌++◌, length, Option, None, Some, option_map, unwrap_or, codes, bytes_eq, encode_utf8, refl}
use Rattle.std.specs.Str.{is_utf8}
use Rattle.std.proofs.Common.{sym, ap, subst, arith}
use Rattle.std.proofs.lemmas.Bool.{and_from, or_from, or_parts, cond_both, not-true, not_from_false, le-leb}
use Rattle.std.proofs.lemmas.Bool.Decides.{nat_tests}
use lib.Utf8.{encode}
use Rattle.grammar_rules.specs.Rules.{Rule, takes, refuses, terminal, token, nothing, made, sequence, ◌&◌, followed_by, preceded_by, optional, allowed, member, without, some_members, members}
use Rattle.grammar_rules.specs.Spelled.{Each}
use Rattle.grammar_rules.proofs.EachValue.{each-terminal, each-nothing, each-made, each-of_two, each-either, each-sequence, each-allowed}
use Rattle.request_elements.specs.declared.element.Element.{Element}
use Rattle.request_elements.specs.declared.element.Element.TheVariants.{Request, Expression}
use Rattle.request_elements.specs.declared.found.Found.{Found}
use Rattle.request_elements.specs.Elements.{is_leaf, is_child, same_element}
use Rattle.request_elements.specs.Pieces.{Piece, declaration, start_tag, end_tag, empty_tag, char_data, unfit, Symbol, has, up_to, symbols_of}
use Rattle.request_elements.specs.TextValue.{number_after, is_character, if_character, numbered, by_number, by_name, referred, reference_in, then_resolved, resolved_behind, resolved, text_value}
use Rattle.request_elements.specs.Grammar.{is_declaration_piece, characters_of, taken, blanks, start_of, end_of, whole_of, characters, found_alone, joined, leaf, container, children, element_within, request_body}
use Rattle.request_elements.specs.Body.{HasElements}
use Rattle.select_request.specs.Request.{find, text_at, text_in, request_from}
use Rattle.select_request.specs.Checks.{first_fault}
use Rattle.select_request.specs.Printable.{longest_expression, is_expression, is_valid, is_printable}
use Rattle.select_request.specs.declared.request.SelectRequest.{SelectRequest}
use Rattle.select_request.proofs.Printables.{and_right}
use Rattle.select_request.proofs.Resolved.{any_append}
use Rattle.select_request.proofs.Trees.{child_rule}
use Rattle.select_request.proofs.ValidRequests.{spelled_is_valid}

-- ---- characters

-- a character that is there isn't NUL
abbrev NotNul : Option ℕ → Type 0
NotNul o = (c : ℕ) → o ≡ Some c → 0 < c

no_character : NotNul None
no_character c e = absurd ((λ (e : None ≡ Some c). let no : ⊥ = cc in no) e)

some_character : (n : ℕ) → 0 < n → NotNul (Some n)
some_character n h c e = let same : n ≡ c = cc in omega arith

character_above : (n : ℕ) → is_character n ≡ true → 0 < n
character_above n h = grind (arith, nat_tests)

checked_not_nul : (o : Option ℕ) → NotNul (if_character o)
checked_not_nul None = no_character
checked_not_nul (Some n) = cond_both (is_character n) (Some n) None NotNul (λ t. some_character n (character_above n t)) (λ _. no_character)

numbered_not_nul : (base : ℕ) (digits : List ℕ) → NotNul (numbered base digits)
numbered_not_nul base digits =
    cond_both (nat_lt 0 (length digits) && nat_le (length digits) 8) _ None NotNul (λ _. checked_not_nul (number_after base 0 digits)) (λ _. no_character)

by_number_not_nul : (number : List ℕ) → NotNul (by_number number)
by_number_not_nul [] = no_character
by_number_not_nul (d ∷ digits) = cond_both (d == 120) _ _ NotNul (λ _. numbered_not_nul 16 digits) (λ _. numbered_not_nul 10 (d ∷ digits))

by_name_not_nul : (name : List ℕ) → NotNul (by_name name)
by_name_not_nul name =
    cond_both (bytes_eq name (codes "lt")) _ _ NotNul (λ _. some_character 60 (omega arith))
    (λ _. cond_both (bytes_eq name (codes "gt")) _ _ NotNul (λ _. some_character 62 (omega arith))
    (λ _. cond_both (bytes_eq name (codes "amp")) _ _ NotNul (λ _. some_character 38 (omega arith))
    (λ _. cond_both (bytes_eq name (codes "quot")) _ _ NotNul (λ _. some_character 34 (omega arith))
    (λ _. cond_both (bytes_eq name (codes "apos")) _ _ NotNul (λ _. some_character 39 (omega arith)) (λ _. no_character)))))

referred_not_nul : (name : List ℕ) → NotNul (referred name)
unfolding referred
referred_not_nul [] = no_character
referred_not_nul (c ∷ name) = cond_both (c == 35) _ _ NotNul (λ _. by_number_not_nul name) (λ _. by_name_not_nul (c ∷ name))

reference_not_nul : (bytes : List ℕ) → NotNul (reference_in bytes)
reference_not_nul bytes = cond_both (has 59 bytes) _ None NotNul (λ _. referred_not_nul (up_to 59 bytes)) (λ _. no_character)

-- ---- texts

abbrev NoNul : List ℕ → Type 0
NoNul text = has 0 text ≡ false

above_zero : (b : ℕ) → 0 < b → (b == 0) ≡ false
above_zero b h = grind (arith, nat_tests)

cons_no_nul : (b : ℕ) (text : List ℕ) → 0 < b → NoNul text → NoNul (b ∷ text)
cons_no_nul b text h none = or_from (b == 0) (has 0 text) (above_zero b h) none

encode_no_nul : (c : ℕ) → 0 < c → NoNul (encode_utf8 c)
unfolding encode
encode_no_nul c h =
    let one : List ℕ = (128 + c % 64) ∷ [] in
    let two : List ℕ = (128 + c / 64 % 64) ∷ one in
    let three : List ℕ = (128 + c / 4096 % 64) ∷ two in
    let none_in_one : NoNul one = cons_no_nul (128 + c % 64) [] (omega arith) refl in
    let none_in_two : NoNul two = cons_no_nul (128 + c / 64 % 64) one (omega arith) none_in_one in
    let none_in_three : NoNul three = cons_no_nul (128 + c / 4096 % 64) two (omega arith) none_in_two in
    cond_both (nat_lt c 128) _ _ NoNul (λ _. cons_no_nul c [] h refl)
    (λ _. cond_both (nat_lt c 2048) _ _ NoNul (λ _. cons_no_nul (192 + c / 64) one (omega arith) none_in_one)
    (λ _. cond_both (nat_lt c 65536) _ _ NoNul (λ _. cons_no_nul (224 + c / 4096) two (omega arith) none_in_two)
    (λ _. cons_no_nul (240 + c / 262144) three (omega arith) none_in_three)))

-- a text that is there has no NUL
abbrev Clean : Option (List ℕ) → Type 0
Clean o = (text : List ℕ) → o ≡ Some text → NoNul text

no_text : Clean None
no_text text e = absurd ((λ (e : None ≡ Some text). let no : ⊥ = cc in no) e)

some_text : (text : List ℕ) → NoNul text → Clean (Some text)
some_text text h other e = let same : text ≡ other = cc in subst NoNul same h

behind_clean : (front : List ℕ) (o : Option (List ℕ)) → NoNul front → Clean o → Clean (option_map (λ rest. front ++ rest) o)
behind_clean front None h clean = no_text
behind_clean front (Some rest) h clean = some_text (front ++ rest) (any_append (λ x. x == 0) front rest h (clean rest refl))

then_clean : (o : Option ℕ) (rest : Option (List ℕ)) → NotNul o → Clean rest → Clean (then_resolved o rest)
then_clean None rest above clean = no_text
then_clean (Some c) rest above clean = behind_clean (encode_utf8 c) rest (encode_no_nul c (above c refl)) clean

resolved_clean : (skip : ℕ) (bytes : List ℕ) → NoNul bytes → Clean (resolved_behind skip bytes)
resolved_clean zero [] h = some_text [] refl
resolved_clean (suc skip) [] h = some_text [] refl
resolved_clean (suc skip) (b ∷ bytes) h = resolved_clean skip bytes (or_parts (b == 0) (has 0 bytes) h).1
resolved_clean zero (b ∷ bytes) h =
    let parts = or_parts (b == 0) (has 0 bytes) h in
    cond_both (b == 38) _ _ Clean
    (λ _. then_clean (reference_in bytes) _ (reference_not_nul bytes) (resolved_clean (length (up_to 59 bytes) + 1) bytes parts.1))
    (λ _. behind_clean (b ∷ []) (resolved_behind 0 bytes) (or_from (b == 0) false parts.0 refl) (resolved_clean 0 bytes parts.1))

value_clean : (raw : List ℕ) → Clean (text_value raw)
unfolding text_value resolved
value_clean raw =
    cond_both (is_utf8 raw && not (has 0 raw)) _ None Clean
    (λ t. resolved_clean 0 raw (not-true (has 0 raw) (and_right (is_utf8 raw) (not (has 0 raw)) t))) (λ _. no_text)

-- ---- the rules of a body

abbrev AllClean : List Found → Type 0
AllClean [] = Unit {0}
AllClean (f ∷ found) = NoNul f.text × AllClean found

all_clean_append : (xs ys : List Found) → AllClean xs → AllClean ys → AllClean (xs ++ ys)
all_clean_append [] ys h k = k
all_clean_append (x ∷ xs) ys h k = (h.0, all_clean_append xs ys h.1 k)

piece_clean : (piece : Piece) → Clean (characters_of piece)
piece_clean declaration = no_text
piece_clean (start_tag name) = no_text
piece_clean (end_tag name) = no_text
piece_clean (empty_tag name) = no_text
piece_clean (char_data raw) = value_clean raw
piece_clean unfit = no_text

taken_some : (o : Option (List ℕ)) (text : List ℕ) → taken o ≡ takes text → o ≡ Some text
taken_some None text e = absurd ((λ (e : refuses ≡ takes text). let no : ⊥ = cc in no) e)
taken_some (Some other) text e = let same : other ≡ text = cc in ap Some same

abbrev text_piece : Rule Symbol ⊥ (List ℕ)
text_piece = terminal (λ s. taken (characters_of s.piece))

characters_clean : Each NoNul characters
characters_clean =
    let Unwrapped : Option (List ℕ) → Type 0 = λ o. NoNul (unwrap_or o []) in
    each-made (λ t. unwrap_or t []) (optional text_piece) NoNul
    (each-either (made Some text_piece) (nothing None) Unwrapped
    (each-made Some text_piece Unwrapped (each-terminal (λ s. taken (characters_of s.piece)) NoNul (λ s text e. piece_clean s.piece text (taken_some (characters_of s.piece) text e))))
    (each-nothing Symbol ⊥ None Unwrapped refl))

leaf_clean : (e : Element) → Each AllClean (leaf e)
leaf_clean e =
    each-either (made (λ s. found_alone e s.at []) (whole_of e)) (made (λ p. found_alone e p.0.at p.1) (start_of e & followed_by characters (end_of e))) AllClean
    (each-made (λ s. found_alone e s.at []) (whole_of e) AllClean (λ s ts w. (refl, tt)))
    (each-made (λ p. found_alone e p.0.at p.1) (start_of e & followed_by characters (end_of e)) AllClean
    (each-sequence (start_of e) (λ s. made (λ b. (s, b)) (followed_by characters (end_of e))) (λ p. AllClean (found_alone e p.0.at p.1))
    (λ s ts w. each-made (λ b. (s, b)) (followed_by characters (end_of e)) (λ p. AllClean (found_alone e p.0.at p.1))
    (each-sequence characters (λ t. made (λ b. t) (end_of e)) (λ t. AllClean (found_alone e s.at t))
    (λ t us v. each-made (λ b. t) (end_of e) (λ t. AllClean (found_alone e s.at t)) (λ b vs u. (characters_clean t us v, tt)))))))

container_clean : (e : Element) (C : Rule Symbol ⊥ (List Found)) → Each AllClean C → Each AllClean (container e C)
container_clean e C clean =
    each-either (made (λ s. found_alone e s.at []) (whole_of e))
    (made (λ p. found_alone e p.0.at [] ++ p.1) (start_of e & preceded_by blanks (followed_by C (end_of e)))) AllClean
    (each-made (λ s. found_alone e s.at []) (whole_of e) AllClean (λ s ts w. (refl, tt)))
    (each-made (λ p. found_alone e p.0.at [] ++ p.1) (start_of e & preceded_by blanks (followed_by C (end_of e))) AllClean
    (each-sequence (start_of e) (λ s. made (λ b. (s, b)) (preceded_by blanks (followed_by C (end_of e)))) (λ p. AllClean (found_alone e p.0.at [] ++ p.1))
    (λ s ts w. each-made (λ b. (s, b)) (preceded_by blanks (followed_by C (end_of e))) (λ p. AllClean (found_alone e p.0.at [] ++ p.1))
    (each-sequence blanks (λ o. followed_by C (end_of e)) (λ b. AllClean (found_alone e s.at [] ++ b))
    (λ o us v. each-sequence C (λ found. made (λ b. found) (end_of e)) (λ b. AllClean (found_alone e s.at [] ++ b))
    (λ found vs u. each-made (λ b. found) (end_of e) (λ b. AllClean (found_alone e s.at [] ++ b)) (λ b ws x. (refl, clean found vs u))))))))

abbrev JoinedClean : List (Element × List Found) → Type 0
JoinedClean ms = AllClean (joined ms)

member_clean : (G : Element → Rule Symbol ⊥ (List Found)) (free : Element → Bool) → ((c : Element) → Each AllClean (G c)) → Each (λ m. AllClean m.1) (member G free)
member_clean G free clean m ts w =
    each-made (λ a. (w.0, a)) (allowed (free w.0) (G w.0)) (λ m. AllClean m.1) (each-allowed (free w.0) (G w.0) AllClean (clean w.0)) m ts w.1

members_clean : (G : Element → Rule Symbol ⊥ (List Found)) → ((c : Element) → Each AllClean (G c)) → (n : ℕ) (free : Element → Bool)
    → Each JoinedClean (some_members same_element G n free)
members_clean G clean zero free = each-nothing Symbol ⊥ [] JoinedClean tt
members_clean G clean (suc n) free =
    each-either (sequence (member G free) (λ m. made (λ rest. m ∷ rest) (some_members same_element G n (without same_element m.0 free)))) (nothing []) JoinedClean
    (each-sequence (member G free) (λ m. made (λ rest. m ∷ rest) (some_members same_element G n (without same_element m.0 free))) JoinedClean
    (λ m ts w. each-made (λ rest. m ∷ rest) (some_members same_element G n (without same_element m.0 free)) JoinedClean
    (λ rest us v. all_clean_append m.1 (joined rest) (member_clean G free clean m ts w) (members_clean G clean n (without same_element m.0 free) rest us v))))
    (each-nothing Symbol ⊥ [] JoinedClean tt)

child_clean : (e : Element) (element : Element → Rule Symbol ⊥ (List Found)) → ((c : Element) → Each AllClean (element c)) → (c : Element) → Each AllClean (child_rule e element c)
child_clean e element clean c =
    each-allowed (is_child e c) (followed_by (element c) blanks) AllClean
    (each-sequence (element c) (λ found. made (λ b. found) blanks) AllClean
    (λ found ts w. each-made (λ b. found) blanks AllClean (λ b us v. clean c found ts w)))

children_clean : (e : Element) (element : Element → Rule Symbol ⊥ (List Found)) → ((c : Element) → Each AllClean (element c)) → Each AllClean (children e element)
children_clean e element clean =
    each-made joined (members same_element (child_rule e element) (λ c. true)) AllClean
    (λ ms ts w. members_clean (child_rule e element) (child_clean e element clean) w.0 (λ c. true) ms ts w.1)

element_clean : (depth : ℕ) (e : Element) → Each AllClean (element_within depth e)
unfolding element_within
element_clean zero e = leaf_clean e
element_clean (suc depth) e =
    let nested = children e (element_within depth) in
    each-of_two (leaf e) (container e nested) AllClean (leaf_clean e) (container_clean e nested (children_clean e (element_within depth) (element_clean depth))) (is_leaf e)

body_clean : Each AllClean request_body
unfolding request_body
body_clean =
    each-sequence (optional (token (λ s. is_declaration_piece s.piece))) (λ o. preceded_by blanks (followed_by (element_within 3 Request) blanks)) AllClean
    (λ o ts w. each-sequence blanks (λ o. followed_by (element_within 3 Request) blanks) AllClean
    (λ o us v. each-sequence (element_within 3 Request) (λ found. made (λ b. found) blanks) AllClean
    (λ found vs u. each-made (λ b. found) blanks AllClean (λ b ws x. element_clean 3 Request found vs u))))

-- ---- the expression

find_clean : (e : Element) (found : List Found) → AllClean found → Clean (text_in e found)
find_clean e [] clean = no_text
find_clean e (f ∷ found) clean =
    cond_both (same_element f.element e) (Some f) (find e found) (λ o. Clean (text_at o)) (λ _. some_text f.text clean.0) (λ _. find_clean e found clean.1)

unwrapped : (o : Option (List ℕ)) → Clean o → NoNul (unwrap_or o [])
unwrapped None clean = refl
unwrapped (Some text) clean = clean text refl

expression_no_nul : (found : List Found) → AllClean found → NoNul (request_from found).expression
unfolding request_from
expression_no_nul found clean = unwrapped (text_in Expression found) (find_clean Expression found clean)

-- a request that was read is printed, where its expression is short enough
pub read_is_printable : (body : List ℕ) (request : SelectRequest) (found : List Found) → HasElements body found → request ≡ request_from found → first_fault found ≡ None
    → length request.expression ≤ longest_expression → is_printable request ≡ true
unfolding is_printable
read_is_printable body request found elements values passes short =
    let expression = subst (λ (r : SelectRequest). NoNul r.expression) (sym values) (expression_no_nul found (body_clean found (symbols_of body) elements)) in
    and_from (is_expression request.expression) (is_valid request)
    (and_from (nat_le (length request.expression) longest_expression) (not (has 0 request.expression)) (le-leb _ _ short) (not_from_false (has 0 request.expression) expression))
    (spelled_is_valid request found values passes)
