-- What the bytes of a JSON value tell of its members and elements is what its tree tells.
use Rattle.std.proofs.Common.{◌≡◌, ℕ, zero, suc, ◌+◌, ◌-◌, ◌≤◌, ◌<◌, Bool, true, false, cond, ◌==◌, List, [], ◌∷◌, ◌++◌, length, take, drop, map, length-append, refl, sym, ◌∙◌, ap, subst, arith}
use Rattle.std.specs.Prelude.{Option, None, Some}
use Rattle.std.proofs.lemmas.Bool.Decides.{nat_tests}
use Rattle.json_text.specs.Grammar.{Json, null, truth, number, string, empty_array, array, empty_object, object, Element, element, Elements, no_elements, more_elements, Member, member, Members, no_members, more_members, Number, unsigned, negative, zero_int, nonzero_int, print_number, IsNumber, print, print_element, print_elements, print_member, print_members, IsValue, IsElement, AreElements, IsMember, AreMembers, AreBlanks, IsInside, is_nonzero_digit}
use Rattle.json_text.specs.Texts.{levels}
use Rattle.json_text.specs.Trimmed.{skip_blanks}
use Rattle.json_text.specs.Skipped.{string_rest, value_rest}
use Rattle.json_text.specs.Nodes.{Spells}
use Rattle.json_text.specs.Walks.{Placed, items_from, elements_of}
use Rattle.json_text.specs.Naming.{Named, members_from, members_of, value_place}
use Rattle.json_text.proofs.Prints.{skip_app, value_front, value_front_apart}
use Rattle.json_text.proofs.Skips.{Stops, inside_rest, value_passed}
use Rattle.json_text.proofs.Walking.{blanks_stop}
use Rattle.sql_eval.specs.Paths.{front_of, value_in, behind_value, one_more, read_all, Spelled, name_in, value_behind, member_at, first_member, members_in, element_at, first_element, elements_in}

-- ---- fronts

take_front : (xs ys : List ℕ) → take (length xs) (xs ++ ys) ≡ xs
take_front [] ys = refl
take_front (x ∷ xs) ys = ap (λ l. x ∷ l) (take_front xs ys)

front_is : (xs ys : List ℕ) → front_of (xs ++ ys) ys ≡ xs
front_is xs ys =
    let n : length (xs ++ ys) - length ys ≡ length xs = omega (arith, length-append xs ys) in
    ap (λ k. take k (xs ++ ys)) n ∙ take_front xs ys

-- ---- a value and what follows it

value_is : (v : Json) (d : ℕ) (rest : List ℕ) → IsValue levels d v → Stops rest → value_in (print v rest) ≡ print v []
value_is v d rest h s =
    ap (λ r. front_of (print v rest) r) (value_passed v levels d rest h s)
    ∙ ap (λ l. front_of l rest) (value_front_apart v rest) ∙ front_is (print v []) rest

behind_is : (v : Json) (d : ℕ) (gap rest : List ℕ) → IsValue levels d v → AreBlanks gap → Stops rest → behind_value (print v (gap ++ rest)) ≡ drop 1 (skip_blanks rest)
behind_is v d gap rest h g s =
    ap (λ r. drop 1 (skip_blanks r)) (value_passed v levels d (gap ++ rest) h (blanks_stop gap rest g s)) ∙ ap (drop 1) (skip_app gap rest g)

-- ---- members

abbrev pub spelled : Named → Spelled
spelled n = record { name = n.name; value = print n.value [] }

name_is : (name more : List ℕ) → IsInside name → name_in (name ++ 34 ∷ more) ≡ name
name_is name more h =
    let r : string_rest false (name ++ 34 ∷ more) ≡ more = inside_rest name more h in
    let n : length (name ++ 34 ∷ more) - length (string_rest false (name ++ 34 ∷ more)) - 1 ≡ length name = omega (arith, length-append name (34 ∷ more), ap length r) in
    ap (λ k. take k (name ++ 34 ∷ more)) n ∙ take_front name (34 ∷ more)

one_member : (before name gap front behind rest : List ℕ) (v : Json) (d : ℕ) → IsMember levels d (member before name gap (element front v behind)) → Stops rest
    → first_member (print_member (member before name gap (element front v behind)) rest) ≡ Some (record { name = name; value = print v [] }, drop 1 (skip_blanks rest))
unfolding print IsValue
one_member before name gap front behind rest v d h s =
    let tail : List ℕ = front ++ print v (behind ++ rest) in
    let more : List ℕ = gap ++ 58 ∷ tail in
    let found : value_behind (name ++ 34 ∷ more) ≡ print v (behind ++ rest) =
    ap (λ l. skip_blanks (drop 1 (skip_blanks l))) (inside_rest name more h.1)
    ∙ ap (λ l. skip_blanks (drop 1 l)) (skip_app gap (58 ∷ tail) h.2)
    ∙ skip_app front (print v (behind ++ rest)) h.3.0 ∙ value_front v levels d (behind ++ rest) h.3.1 in
    ap member_at (skip_app before (34 ∷ (name ++ 34 ∷ more)) h.0)
    ∙ ap (λ l. Some (record { name = l; value = value_in (value_behind (name ++ 34 ∷ more)) }, behind_value (value_behind (name ++ 34 ∷ more)))) (name_is name more h.1)
    ∙ ap (λ l. Some (record { name = name; value = value_in l }, behind_value l)) found
    ∙ ap (λ l. Some (record { name = name; value = l }, behind_value (print v (behind ++ rest)))) (value_is v d (behind ++ rest) h.3.1 (blanks_stop behind rest h.3.2 s))
    ∙ ap (λ l. Some (record { name = name; value = print v [] }, l)) (behind_is v d behind rest h.3.1 h.3.2 s)

abbrev count : Members → ℕ
count no_members = 0
count (more_members m ms) = suc (count ms)

none_there : (n : ℕ) → read_all first_member n [] ≡ []
none_there zero = refl
none_there (suc n) = refl

all_members : (before name gap front behind : List ℕ) (v : Json) (ms : Members) (n at : ℕ) → IsMember levels 1 (member before name gap (element front v behind)) → AreMembers levels 1 ms
    → count ms ≤ n
    → read_all first_member (suc n) (print_member (member before name gap (element front v behind)) (print_members ms []))
    ≡ map spelled (members_from at (member before name gap (element front v behind)) ms)
unfolding print IsValue
all_members before name gap front behind v no_members n at h hs le =
    ap (λ o. one_more o (read_all first_member n)) (one_member before name gap front behind (125 ∷ []) v 1 h refl)
    ∙ ap (λ l. record { name = name; value = print v [] } ∷ l) (none_there n)
all_members before name gap front behind v (more_members m ms) zero at h hs le = absurd (omega (arith, le))
all_members before name gap front behind v (more_members (member before2 name2 gap2 (element front2 w behind2)) ms) (suc n) at h hs le =
    let next : List ℕ = print_member (member before2 name2 gap2 (element front2 w behind2)) (print_members ms []) in
    ap (λ o. one_more o (read_all first_member (suc n))) (one_member before name gap front behind (44 ∷ next) v 1 h refl)
    ∙ ap (λ l. record { name = name; value = print v [] } ∷ l)
    (all_members before2 name2 gap2 front2 behind2 w ms n (value_place at before name gap front + length (print v []) + length behind + 1) hs.0 hs.1 (omega (arith, le)))

-- ---- the members of an object

longer : (xs ys : List ℕ) → length ys ≤ length (xs ++ ys)
longer xs ys = omega (arith, length-append xs ys)

value_longer : (v : Json) (rest : List ℕ) → length rest ≤ length (print v rest)
value_longer v rest = omega (arith, ap length (value_front_apart v rest), length-append (print v []) rest)

member_longer : (m : Member) (rest : List ℕ) → suc (length rest) ≤ length (print_member m rest)
unfolding print
member_longer (member before name gap (element front v behind)) rest =
    let tail : List ℕ = front ++ print v (behind ++ rest) in
    let more : List ℕ = gap ++ 58 ∷ tail in
    omega (arith, longer before (34 ∷ (name ++ 34 ∷ more)), longer name (34 ∷ more), longer gap (58 ∷ tail), longer front (print v (behind ++ rest)), value_longer v (behind ++ rest), longer behind rest)

count_fits : (ms : Members) (rest : List ℕ) → count ms ≤ length (print_members ms rest)
unfolding print
count_fits no_members rest = omega arith
count_fits (more_members m ms) rest = omega (arith, member_longer m (print_members ms rest), count_fits ms rest)

nonzero_apart : (d : ℕ) → is_nonzero_digit d ≡ true → ((d == 123) ≡ false) × ((d == 91) ≡ false) × ((d == 93) ≡ false)
nonzero_apart d h = (grind (arith, nat_tests), grind (arith, nat_tests), grind (arith, nat_tests))

number_members : (n : Number) (rest : List ℕ) → IsNumber n → members_in (print_number n rest) ≡ []
number_members (unsigned zero_int f e) rest h = refl
number_members (unsigned (nonzero_int d ds) f e) rest h = rw (nonzero_apart d h.0.0).0 refl
number_members (negative i f e) rest h = refl

no_members_in : (blanks : List ℕ) (n : ℕ) → AreBlanks blanks → read_all first_member n (blanks ++ 125 ∷ []) ≡ []
no_members_in blanks zero h = refl
no_members_in blanks (suc n) h = ap (λ l. one_more (member_at l) (read_all first_member n)) (skip_app blanks (125 ∷ []) h)

enough : (m : Member) (ms : Members) (n at : ℕ) → IsMember levels 1 m → AreMembers levels 1 ms → n ≡ length (print_member m (print_members ms []))
    → read_all first_member n (print_member m (print_members ms [])) ≡ map spelled (members_from at m ms)
enough m ms zero at h hs e = absurd (omega (arith, e, member_longer m (print_members ms [])))
enough (member before name gap (element front v behind)) ms (suc n) at h hs e =
    all_members before name gap front behind v ms n at h hs
    (omega (arith, e, member_longer (member before name gap (element front v behind)) (print_members ms []), count_fits ms []))

tree_members : (v : Json) → IsValue levels 0 v → members_in (print v []) ≡ map spelled (members_of v)
unfolding print IsValue
tree_members null h = refl
tree_members (truth true) h = refl
tree_members (truth false) h = refl
tree_members (number n) h = number_members n [] h
tree_members (string raw) h = refl
tree_members (empty_array b) h = refl
tree_members (array x xs) h = refl
tree_members (empty_object b) h = no_members_in b (length (b ++ 125 ∷ [])) h.1
tree_members (object m ms) h = enough m ms (length (print_member m (print_members ms []))) 1 h.1 h.2 refl

pub members_law : (bytes : List ℕ) (tree : Json) → Spells bytes tree → members_in bytes ≡ map spelled (members_of tree)
members_law bytes tree x = ap members_in x.spelled ∙ tree_members tree x.valid

-- ---- the elements of an array

abbrev pub value_there : Placed → List ℕ
value_there p = print p.value []

number_element : (n : Number) (rest : List ℕ) → IsNumber n → element_at (print_number n rest) ≡ Some (value_in (print_number n rest), behind_value (print_number n rest))
number_element (unsigned zero_int f e) rest h = refl
number_element (unsigned (nonzero_int d ds) f e) rest h = rw (nonzero_apart d h.0.0).2 refl
number_element (negative i f e) rest h = refl

value_element : (v : Json) (d : ℕ) (rest : List ℕ) → IsValue levels d v → element_at (print v rest) ≡ Some (value_in (print v rest), behind_value (print v rest))
unfolding print IsValue
value_element null d rest h = refl
value_element (truth true) d rest h = refl
value_element (truth false) d rest h = refl
value_element (number n) d rest h = number_element n rest h
value_element (string raw) d rest h = refl
value_element (empty_array b) d rest h = refl
value_element (array x xs) d rest h = refl
value_element (empty_object b) d rest h = refl
value_element (object m ms) d rest h = refl

one_element : (before behind rest : List ℕ) (v : Json) (d : ℕ) → IsElement levels d (element before v behind) → Stops rest
    → first_element (print_element (element before v behind) rest) ≡ Some (print v [], drop 1 (skip_blanks rest))
unfolding print IsValue
one_element before behind rest v d h s =
    let there : List ℕ = print v (behind ++ rest) in
    ap element_at (skip_app before there h.0 ∙ value_front v levels d (behind ++ rest) h.1)
    ∙ value_element v d (behind ++ rest) h.1
    ∙ ap (λ l. Some (l, behind_value there)) (value_is v d (behind ++ rest) h.1 (blanks_stop behind rest h.2 s))
    ∙ ap (λ l. Some (print v [], l)) (behind_is v d behind rest h.1 h.2 s)

abbrev count_of : Elements → ℕ
count_of no_elements = 0
count_of (more_elements x xs) = suc (count_of xs)

no_more : (n : ℕ) → read_all first_element n [] ≡ []
no_more zero = refl
no_more (suc n) = refl

all_elements : (before behind : List ℕ) (v : Json) (xs : Elements) (n at : ℕ) → IsElement levels 1 (element before v behind) → AreElements levels 1 xs → count_of xs ≤ n
    → read_all first_element (suc n) (print_element (element before v behind) (print_elements xs [])) ≡ map value_there (items_from at (element before v behind) xs)
unfolding print IsValue
all_elements before behind v no_elements n at h hs le =
    ap (λ o. one_more o (read_all first_element n)) (one_element before behind (93 ∷ []) v 1 h refl) ∙ ap (λ l. print v [] ∷ l) (no_more n)
all_elements before behind v (more_elements x xs) zero at h hs le = absurd (omega (arith, le))
all_elements before behind v (more_elements (element before2 w behind2) xs) (suc n) at h hs le =
    let next : List ℕ = print_element (element before2 w behind2) (print_elements xs []) in
    ap (λ o. one_more o (read_all first_element (suc n))) (one_element before behind (44 ∷ next) v 1 h refl)
    ∙ ap (λ l. print v [] ∷ l)
    (all_elements before2 behind2 w xs n (at + length before + length (print v []) + length behind + 1) hs.0 hs.1 (omega (arith, le)))

element_longer : (x : Element) (rest : List ℕ) → length rest ≤ length (print_element x rest)
unfolding print
element_longer (element before v behind) rest =
    omega (arith, longer before (print v (behind ++ rest)), value_longer v (behind ++ rest), longer behind rest)

count_elements : (xs : Elements) (rest : List ℕ) → suc (count_of xs) ≤ length (print_elements xs rest)
unfolding print
count_elements no_elements rest = omega arith
count_elements (more_elements x xs) rest = omega (arith, element_longer x (print_elements xs rest), count_elements xs rest)

enough_elements : (x : Element) (xs : Elements) (n at : ℕ) → IsElement levels 1 x → AreElements levels 1 xs → n ≡ length (print_element x (print_elements xs []))
    → read_all first_element n (print_element x (print_elements xs [])) ≡ map value_there (items_from at x xs)
enough_elements x xs zero at h hs e = absurd (omega (arith, e, element_longer x (print_elements xs []), count_elements xs []))
enough_elements (element before v behind) xs (suc n) at h hs e =
    all_elements before behind v xs n at h hs (omega (arith, e, element_longer (element before v behind) (print_elements xs []), count_elements xs []))

number_elements : (n : Number) (rest : List ℕ) → IsNumber n → elements_in (print_number n rest) ≡ []
number_elements (unsigned zero_int f e) rest h = refl
number_elements (unsigned (nonzero_int d ds) f e) rest h = rw (nonzero_apart d h.0.0).1 refl
number_elements (negative i f e) rest h = refl

no_elements_in : (blanks : List ℕ) (n : ℕ) → AreBlanks blanks → read_all first_element n (blanks ++ 93 ∷ []) ≡ []
no_elements_in blanks zero h = refl
no_elements_in blanks (suc n) h = ap (λ l. one_more (element_at l) (read_all first_element n)) (skip_app blanks (93 ∷ []) h)

tree_elements : (v : Json) → IsValue levels 0 v → elements_in (print v []) ≡ map value_there (elements_of v)
unfolding print IsValue
tree_elements null h = refl
tree_elements (truth true) h = refl
tree_elements (truth false) h = refl
tree_elements (number n) h = number_elements n [] h
tree_elements (string raw) h = refl
tree_elements (empty_array b) h = no_elements_in b (length (b ++ 93 ∷ [])) h.1
tree_elements (array x xs) h = enough_elements x xs (length (print_element x (print_elements xs []))) 1 h.1 h.2 refl
tree_elements (empty_object b) h = refl
tree_elements (object m ms) h = refl

pub elements_law : (bytes : List ℕ) (tree : Json) → Spells bytes tree → elements_in bytes ≡ map value_there (elements_of tree)
elements_law bytes tree x = ap elements_in x.spelled ∙ tree_elements tree x.valid
