-- The least place whose left neighbour in the order of names has the same name is the place of the first
-- header whose name came before.
use Rattle.std.proofs.Common.{◌≡◌, ℕ, ◌+◌, ◌-◌, ◌/◌, ◌%◌, ◌<◌, ◌≤◌, zero, suc, List, [], ◌∷◌, ◌++◌, length, get_or, take, drop, Bool, true, false, cond, eqb, ltb, Option, None, Some, ◌⊎◌, inl, inr, refl, sym, ap, subst, ◌∙◌, arith, append_assoc, length-append}
use Rattle.std.proofs.Math.Nat.{eq-or-lt_of_le}
use Rattle.std.proofs.Math.Seq.{append_snoc, take-append_seam, drop-append_seam}
use Rattle.std.proofs.lemmas.Bool.{eqb-true, eq-eqb, ltb-true, ltb-false}
use Rattle.std.proofs.lemmas.Cmp.{ranked, nat_eq_equiv, nat_list_cmp_total, tied_itself}
use Rattle.std.proofs.lemmas.Grind.{flat_map-append}
use Rattle.std.proofs.lemmas.List.{append-nil, get_or_default}
use Rattle.std.proofs.lemmas.List.MinMax.{ranks_by}
use Rattle.std.proofs.lemmas.List.Sorted.{Contains-permutation, IsPermutation-sym, sorted_far}
use Rattle.std.proofs.lemmas.Map.Keys.{IsDistinct-IsPermutation, apart_from_distinct}
use Rattle.std.proofs.lemmas.Map.Text.{is_eq-slice_cmp}
use Rattle.std.specs.Cmp.Lexicographic.{slice_cmp}
use Rattle.std.specs.List.{Contains, IsDistinct, AllByRecursion}
use Rattle.std.specs.List.Sorted.{IsPermutation, IsSortedBy}
use Rattle.std.specs.Ordering.{is_eq, is_lt, nat_cmp, ordering_reverse, ordering_then, MatchOrdering}
use Rattle.std.specs.Str.{bytes_eq}
use Rattle.std.specs.declared.cmp.Ordering.{Ordering}
use Rattle.std.specs.declared.cmp.Ordering.TheVariants.{Less, Equal, Greater}
use Rattle.event_frame.specs.Message.{Header, print_header, print_headers}
use Rattle.event_frame.specs.Reading.{IsHeader, AreHeaders, value_of}
use Rattle.event_frame.specs.HeaderFront.{HasNoHeader, EndsWell, EndsBadly}
use Rattle.event_frame.specs.HeaderPlaces.{CanBeWritten, places_from, ListsAllHeaders, IsLeastRepeat, by_name, name_at, front_name}
use Rattle.event_frame.proofs.HeaderLaws.{flat, header-some, header-unique}
use Rattle.event_frame.proofs.HeaderList.{bytes_eq-true, bytes_eq-same, first_differs, others_lack, are_headers-more, GoodUpTo, good-end, bad-header, ends_badly}
use Rattle.event_frame.proofs.HeaderSort.{places_from-append, by_name-total}

-- ---- places

-- the place is in the list
abbrev pub IsIn : ℕ → List ℕ → Type 0
IsIn p [] = ⊥
IsIn p (x ∷ xs) = (p ≡ x) ⊎ IsIn p xs

is_in-at : (xs : List ℕ) (k d : ℕ) → k < length xs → IsIn (get_or xs k d) xs
is_in-at [] k d h = absurd (omega arith)
is_in-at (x ∷ xs) zero d h = inl refl
is_in-at (x ∷ xs) (suc k) d h = inr (is_in-at xs k d (omega arith))

contains : (p : ℕ) (xs : List ℕ) → IsIn p xs → Contains xs p
contains p [] h = absurd h
contains p (x ∷ xs) (inl e) = (0, omega arith, sym e)
contains p (x ∷ xs) (inr h) = let later = contains p xs h in (suc later.0, omega (arith, later.1), later.2)

is_in : (p : ℕ) (xs : List ℕ) → Contains xs p → IsIn p xs
is_in p xs h = subst (λ q. IsIn q xs) h.2 (is_in-at xs h.0 p h.1)

is_in-moved : (p : ℕ) (xs ys : List ℕ) → IsPermutation xs ys → IsIn p xs → IsIn p ys
is_in-moved p xs ys moved h = is_in p ys (Contains-permutation xs ys p moved (contains p xs h))

is_in-append : (p : ℕ) (xs ys : List ℕ) → IsIn p (xs ++ ys) → IsIn p xs ⊎ IsIn p ys
is_in-append p [] ys h = inr h
is_in-append p (x ∷ xs) ys (inl e) = inl (inl e)
is_in-append p (x ∷ xs) ys (inr h) = elim (is_in-append p xs ys h) [ inl l ↦ inl (inr l) | inr r ↦ inr r ]

is_in-left : (p : ℕ) (xs ys : List ℕ) → IsIn p xs → IsIn p (xs ++ ys)
is_in-left p [] ys h = absurd h
is_in-left p (x ∷ xs) ys (inl e) = inl e
is_in-left p (x ∷ xs) ys (inr h) = inr (is_in-left p xs ys h)

is_in-right : (p : ℕ) (xs ys : List ℕ) → IsIn p ys → IsIn p (xs ++ ys)
is_in-right p [] ys h = h
is_in-right p (x ∷ xs) ys h = inr (is_in-right p xs ys h)

print-some : (h : Header) → 0 < length (print_header h)
print-some h =
    let some : 0 < length (print_header h ++ []) = header-some h [] in
    subst (λ (l : List ℕ). 0 < length l) (append-nil (print_header h)) some

-- no place lies before the first
is_in-low : (p at : ℕ) (headers : List Header) → IsIn p (places_from at headers) → at ≤ p
is_in-low p at [] h = absurd h
is_in-low p at (g ∷ headers) (inl e) = omega arith
is_in-low p at (g ∷ headers) (inr h) =
    let low : at + length (print_header g) ≤ p = is_in-low p (at + length (print_header g)) headers h in
    omega arith

-- a place among the first headers
is_in-before : (p : ℕ) (pre post : List Header) → IsIn p (places_from 0 (pre ++ post)) → p < length (print_headers pre) → IsIn p (places_from 0 pre)
is_in-before p pre post h before =
    elim (is_in-append p (places_from 0 pre) (places_from (0 + length (print_headers pre)) post)
    (subst (λ (l : List ℕ). IsIn p l) (places_from-append 0 pre post) h)) [
      | inl l ↦ l
      | inr r ↦ absurd (let low : 0 + length (print_headers pre) ≤ p = is_in-low p (0 + length (print_headers pre)) post r in omega arith)
    ]

-- places differ
above : (x at : ℕ) (headers : List Header) → x < at → AllByRecursion (λ y. eqb x y ≡ false) (places_from at headers)
above x at [] h = tt
above x at (g ∷ headers) h = (not_same (eqb x at) refl, above x (at + length (print_header g)) headers (omega arith))
  where
    not_same : (b : Bool) → eqb x at ≡ b → b ≡ false
    not_same false e = refl
    not_same true e = absurd (let same : x ≡ at = eqb-true x at e in omega arith)

distinct : (at : ℕ) (headers : List Header) → IsDistinct eqb (places_from at headers)
unfolding IsDistinct
distinct at [] = tt
distinct at (g ∷ headers) =
    let some : 0 < length (print_header g) = print-some g in
    (above at (at + length (print_header g)) headers (omega arith), distinct (at + length (print_header g)) headers)

-- ---- names

-- the headers' names, each where its place is
Named : (ℕ → List ℕ) → ℕ → List Header → Type 0
Named name at [] = Unit {0}
Named name at (h ∷ headers) = (name at ≡ h.name) × Named name (at + length (print_header h)) headers

named-append_left : (name : ℕ → List ℕ) (at : ℕ) (pre post : List Header) → Named name at (pre ++ post) → Named name at pre
unfolding Named
named-append_left name at [] post n = tt
named-append_left name at (h ∷ pre) post n = (n.0, named-append_left name (at + length (print_header h)) pre post n.1)

named-append_right : (name : ℕ → List ℕ) (at : ℕ) (pre post : List Header) → Named name at (pre ++ post)
    → Named name (at + length (print_headers pre)) post
unfolding Named
named-append_right name at [] post n = subst (λ k. Named name k post) (let e : at ≡ at + length (print_headers []) = omega arith in e) n
named-append_right name at (h ∷ pre) post n =
    let size : length (print_headers (h ∷ pre)) ≡ length (print_header h) + length (print_headers pre) = length-append (print_header h) (print_headers pre) in
    subst (λ k. Named name k post) (let e : at + length (print_header h) + length (print_headers pre) ≡ at + length (print_headers (h ∷ pre)) = omega arith in e)
    (named-append_right name (at + length (print_header h)) pre post n.1)

name_at-front : (bytes front : List ℕ) (h : Header) (more : List ℕ) → bytes ≡ front ++ (print_header h ++ more) → name_at bytes (length front) ≡ h.name
unfolding name_at
name_at-front bytes front h more is =
    let body : List ℕ = 7 ∷ length h.value / 256 % 256 ∷ length h.value % 256 ∷ (h.value ++ more) in
    let behind : drop (length front) bytes ≡ length h.name ∷ (h.name ++ body) =
    ap (drop (length front)) is ∙ drop-append_seam front (print_header h ++ more) ∙ flat h more in
    ap front_name behind ∙ take-append_seam h.name body

named : (bytes front : List ℕ) (headers : List Header) (rest : List ℕ) → bytes ≡ front ++ (print_headers headers ++ rest)
    → Named (name_at bytes) (length front) headers
unfolding Named
named bytes front [] rest is = tt
named bytes front (h ∷ headers) rest is =
    let apart : bytes ≡ front ++ (print_header h ++ (print_headers headers ++ rest)) =
    is ∙ ap (λ (l : List ℕ). front ++ l) (append_assoc (print_header h) (print_headers headers) rest) in
    let next = named bytes (front ++ print_header h) headers rest (apart ∙ sym (append_assoc front (print_header h) (print_headers headers ++ rest))) in (
      name_at-front bytes front h (print_headers headers ++ rest) apart,
      subst (λ n. Named (name_at bytes) n headers) (length-append front (print_header h)) next,
    )

-- a name that comes among headers has a place there
record PlaceOf (name : ℕ → List ℕ) (at : ℕ) (headers : List Header) (wanted : List ℕ) : Type 0 where
  place : ℕ
  is_in : IsIn place (places_from at headers)
  below : place < at + length (print_headers headers)
  is_named : name place ≡ wanted

place_of : (name : ℕ → List ℕ) (at : ℕ) (headers : List Header) (wanted v : List ℕ) → Named name at headers → value_of wanted headers ≡ Some v
    → PlaceOf name at headers wanted
unfolding Named
place_of name at [] wanted v n e = absurd (cc)
place_of name at (h ∷ headers) wanted v n e =
    go (λ later. place_of name (at + length (print_header h)) headers wanted v n.1 later) (bytes_eq h.name wanted) refl
  where
    size : length (print_headers (h ∷ headers)) ≡ length (print_header h) + length (print_headers headers)
    size = length-append (print_header h) (print_headers headers)

    go : (value_of wanted headers ≡ Some v → PlaceOf name (at + length (print_header h)) headers wanted) → (b : Bool) → bytes_eq h.name wanted ≡ b
        → PlaceOf name at (h ∷ headers) wanted
    go later true is =
        let some : 0 < length (print_header h) = print-some h in
        let here : length (print_headers (h ∷ headers)) ≡ length (print_header h) + length (print_headers headers) = size in
        record { place = at; is_in = inl refl; below = omega arith; is_named = n.0 ∙ bytes_eq-true h.name wanted is }
    go later false is =
        let found = later (sym (ap (λ (b : Bool). cond b (Some h.value) (value_of wanted headers)) is) ∙ e) in
        record { place = found.place; is_in = inr found.is_in; below = omega (arith, found.below, size); is_named = found.is_named }

-- the name at a place comes among the headers
name_comes : (name : ℕ → List ℕ) (at : ℕ) (headers : List Header) (p : ℕ) → Named name at headers → IsIn p (places_from at headers)
    → value_of (name p) headers ≡ None → ⊥
unfolding Named
name_comes name at [] p n h none = absurd h
name_comes name at (g ∷ headers) p n (inl e) none =
    let same : g.name ≡ name p = sym n.0 ∙ ap name (sym e) in
    let equal : bytes_eq g.name (name p) ≡ true = ap (λ (l : List ℕ). bytes_eq g.name l) (sym same) ∙ bytes_eq-same g.name in
    let other : bytes_eq g.name (name p) ≡ false = first_differs (bytes_eq g.name (name p)) g.value (value_of (name p) headers) none in
    cc
name_comes name at (g ∷ headers) p n (inr h) none =
    name_comes name (at + length (print_header g)) headers p n.1 h (others_lack (bytes_eq g.name (name p)) g.value (value_of (name p) headers) none)

-- good headers have no name at two places
no_repeat : (name : ℕ → List ℕ) (at : ℕ) (headers : List Header) (p q : ℕ) → Named name at headers → AreHeaders headers
    → IsIn p (places_from at headers) → IsIn q (places_from at headers) → q < p → name q ≡ name p → ⊥
unfolding Named
no_repeat name at [] p q n are hp hq lower same = absurd hp
no_repeat name at (g ∷ headers) p q n are (inl e) (inl d) lower same = omega arith
no_repeat name at (g ∷ headers) p q n are (inl e) (inr hq) lower same =
    let low : at + length (print_header g) ≤ q = is_in-low q (at + length (print_header g)) headers hq in
    omega arith
no_repeat name at (g ∷ headers) p q n are (inr hp) (inl d) lower same =
    let is : g.name ≡ name p = sym n.0 ∙ ap name (sym d) ∙ same in
    name_comes name (at + length (print_header g)) headers p n.1 hp (ap (λ (l : List ℕ). value_of l headers) (sym is) ∙ are.1)
no_repeat name at (g ∷ headers) p q n are (inr hp) (inr hq) lower same =
    no_repeat name (at + length (print_header g)) headers p q n.1 are.2 hp hq lower same

-- ---- the first repeat

-- what the least repeat says of the places of headers
record LeastOf (name : ℕ → List ℕ) (headers : List Header) (least : ℕ) : Type 0 where
  within : least ≤ length (print_headers headers)
  is_one : least < length (print_headers headers)
      → IsIn least (places_from 0 headers)
      × ((q : ℕ) × IsIn q (places_from 0 headers) × (q < least) × (name q ≡ name least))
  is_least : (p q : ℕ) → IsIn p (places_from 0 headers) → IsIn q (places_from 0 headers) → q < p → name q ≡ name p → least ≤ p

-- the header at the front of these comes again
Again : List Header → List Header → Type 0
Again pre [] = ⊥
Again pre (h ∷ post) = IsHeader h × (value_of h.name pre ≡ None → ⊥)

-- the headers go on well up to a place, and there they end or one comes again
record Cut (headers : List Header) (least : ℕ) : Type 0 where
  pre : List Header
  post : List Header
  joined : headers ≡ pre ++ post
  are_headers : AreHeaders pre
  place : least ≡ length (print_headers pre)
  next : (post ≡ []) ⊎ Again pre post

lower_or_not : (a b : ℕ) → (a < b) ⊎ (b ≤ a)
lower_or_not a b = go (ltb a b) refl
  where
    go : (t : Bool) → ltb a b ≡ t → (a < b) ⊎ (b ≤ a)
    go true e = inl (ltb-true a b e)
    go false e = inr (ltb-false a b e)

-- no repeat lies among good headers
not_among : (name : ℕ → List ℕ) (pre post : List Header) (least : ℕ) → Named name 0 (pre ++ post) → LeastOf name (pre ++ post) least → AreHeaders pre
    → least < length (print_headers pre) → ⊥
not_among name pre post least n l are before =
    let size : length (print_headers (pre ++ post)) ≡ length (print_headers pre) + length (print_headers post) =
    ap length (flat_map-append print_header pre post) ∙ length-append (print_headers pre) (print_headers post) in
    let one = l.is_one (omega arith) in
    no_repeat name 0 pre least one.1.0 (named-append_left name 0 pre post n) are (is_in-before least pre post one.0 before)
    (is_in-before one.1.0 pre post one.1.1 (omega (arith, one.1.2))) one.1.2 one.1.3

-- the repeat is the first header whose name came among good headers
at_repeat : (name : ℕ → List ℕ) (pre : List Header) (h : Header) (post : List Header) (least : ℕ) (v : List ℕ) → Named name 0 (pre ++ h ∷ post)
    → LeastOf name (pre ++ h ∷ post) least → AreHeaders pre → value_of h.name pre ≡ Some v → least ≡ length (print_headers pre)
unfolding Named
at_repeat name pre h post least v n l are e =
    let here : ℕ = 0 + length (print_headers pre) in
    let q : PlaceOf name 0 pre h.name = place_of name 0 pre h.name v (named-append_left name 0 pre (h ∷ post) n) e in
    let all : places_from 0 (pre ++ h ∷ post) ≡ places_from 0 pre ++ places_from (0 + length (print_headers pre)) (h ∷ post) =
    places_from-append 0 pre (h ∷ post) in
    let most : least ≤ 0 + length (print_headers pre) =
    l.is_least here q.place
    (subst (λ (k : List ℕ). IsIn here k) (sym all) (is_in-right here (places_from 0 pre) (places_from here (h ∷ post)) (inl refl)))
    (subst (λ (k : List ℕ). IsIn q.place k) (sym all) (is_in-left q.place (places_from 0 pre) (places_from here (h ∷ post)) q.is_in))
    q.below (q.is_named ∙ sym (named-append_right name 0 pre (h ∷ post) n).0) in
    elim (lower_or_not least (length (print_headers pre))) [
      | inl before ↦ absurd (not_among name pre (h ∷ post) least n l are before)
      | inr enough ↦ omega arith
    ]

cut : (name : ℕ → List ℕ) (pre post : List Header) (least : ℕ) → Named name 0 (pre ++ post) → LeastOf name (pre ++ post) least → AreHeaders pre
    → CanBeWritten post → Cut (pre ++ post) least
unfolding Again
cut name pre [] least n l are can =
    let all : length (print_headers (pre ++ [])) ≡ length (print_headers pre) = ap (λ (k : List Header). length (print_headers k)) (append-nil pre) in
    record {
      pre = pre;
      post = [];
      joined = refl;
      are_headers = are;
      place =
          elim (lower_or_not least (length (print_headers pre))) [
            | inl before ↦ absurd (not_among name pre [] least n l are before)
            | inr end ↦ omega (arith, l.within)
          ];
      next = inl refl;
    }
cut name pre (h ∷ post) least n l are can =
    go
    (λ new.
    cut name (pre ++ h ∷ []) post least (subst (λ (k : List Header). Named name 0 k) (sym (append_snoc pre h post)) n)
    (subst (λ (k : List Header). LeastOf name k least) (sym (append_snoc pre h post)) l) (are_headers-more pre h are can.0 new) can.1)
    (value_of h.name pre) refl
  where
    go : (value_of h.name pre ≡ None → Cut ((pre ++ h ∷ []) ++ post) least) → (o : Option (List ℕ)) → value_of h.name pre ≡ o
        → Cut (pre ++ h ∷ post) least
    go later None e = subst (λ (k : List Header). Cut k least) (append_snoc pre h post) (later e)
    go later (Some v) e =
        record {
          pre = pre;
          post = h ∷ post;
          joined = refl;
          are_headers = are;
          place = at_repeat name pre h post least v n l are e;
          next = inr (can.0, λ none. let clash : Some v ≡ None = sym e ∙ none in cc);
        }

-- ---- sorted places

-- a place in the list has an index
index_of : (p : ℕ) (xs : List ℕ) → IsIn p xs → (k : ℕ) × (k < length xs) × (get_or xs k 0 ≡ p)
index_of p xs h =
    let c = contains p xs h in
    (c.0, c.1, get_or_default xs c.0 0 p c.1 ∙ c.2)

-- at one name the places rise
not_above : (bytes : List ℕ) (p q : ℕ) → is_lt (by_name bytes p q) ≡ false → name_at bytes p ≡ name_at bytes q → q ≤ p
not_above bytes p q not_lower same =
    let tie : slice_cmp nat_cmp (name_at bytes p) (name_at bytes q) ≡ Equal =
    ap (slice_cmp nat_cmp (name_at bytes p)) (sym same) ∙ tied_itself nat_list_cmp_total (name_at bytes p) in
    let order : by_name bytes p q ≡ nat_cmp p q = ap (λ o. ordering_then o (nat_cmp p q)) tie in
    go (nat_cmp p q) (ranked p q (nat_cmp p q) refl) (ap is_lt (sym order) ∙ not_lower)
  where
    go : (o : Ordering) → MatchOrdering o (p < q) (p ≡ q) (q < p) → is_lt o ≡ false → q ≤ p
    go Less h e = absurd (cc)
    go Equal h e = omega arith
    go Greater h e = omega arith

first_not : (a b : Ordering) → is_lt (ordering_then a b) ≡ false → is_lt a ≡ false
first_not Less b e = e
first_not Equal b e = refl
first_not Greater b e = refl

-- texts of which neither comes first are one
level : (m n : List ℕ) → is_lt (slice_cmp nat_cmp m n) ≡ false → is_lt (slice_cmp nat_cmp n m) ≡ false → m ≡ n
level m n low high =
    bytes_eq-true m n (sym (is_eq-slice_cmp m n) ∙ go (slice_cmp nat_cmp m n) low (ap is_lt (sym (nat_list_cmp_total.antisymm n m)) ∙ high))
  where
    go : (o : Ordering) → is_lt o ≡ false → is_lt (ordering_reverse o) ≡ false → is_eq o ≡ true
    go Less e d = absurd (cc)
    go Equal e d = refl
    go Greater e d = absurd (cc)

-- between two places of one name all have it
between : (bytes sorted : List ℕ) (i j k : ℕ) → IsSortedBy (λ p q. is_lt (by_name bytes p q)) sorted → i ≤ j → j ≤ k → k < length sorted
    → name_at bytes (get_or sorted i 0) ≡ name_at bytes (get_or sorted k 0) → name_at bytes (get_or sorted j 0) ≡ name_at bytes (get_or sorted k 0)
between bytes sorted i j k in_order ij jk inside same =
    let order = ranks_by (by_name-total bytes) (λ (p : ℕ). p) in
    let low = sorted_far (λ p q. is_lt (by_name bytes p q)) order sorted in_order i j 0 ij (omega arith) in
    let high = sorted_far (λ p q. is_lt (by_name bytes p q)) order sorted in_order j k 0 jk inside in
    level (name_at bytes (get_or sorted j 0)) (name_at bytes (get_or sorted k 0))
    (ap (λ (n : List ℕ). is_lt (slice_cmp nat_cmp (name_at bytes (get_or sorted j 0)) n)) (sym same)
    ∙ first_not (slice_cmp nat_cmp (name_at bytes (get_or sorted j 0)) (name_at bytes (get_or sorted i 0))) (nat_cmp (get_or sorted j 0) (get_or sorted i 0)) low)
    (first_not (slice_cmp nat_cmp (name_at bytes (get_or sorted k 0)) (name_at bytes (get_or sorted j 0))) (nat_cmp (get_or sorted k 0) (get_or sorted j 0)) high)

-- of two places of one name, the later one's left neighbour has it
least_below : (bytes sorted : List ℕ) (end least p q : ℕ) → IsSortedBy (λ p q. is_lt (by_name bytes p q)) sorted → IsLeastRepeat bytes sorted end least
    → IsIn p sorted → IsIn q sorted → q < p → name_at bytes q ≡ name_at bytes p → least ≤ p
least_below bytes sorted end least p q in_order r hp hq lower same =
    let b = index_of p sorted hp in
    let a = index_of q sorted hq in
    let names : name_at bytes (get_or sorted a.0 0) ≡ name_at bytes (get_or sorted b.0 0) = ap (name_at bytes) a.2 ∙ same ∙ ap (name_at bytes) (sym b.2) in
    elim (lower_or_not a.0 b.0) [
      | inl ab ↦
          let k : ℕ = b.0 - 1 in
          let e : b.0 ≡ b.0 - 1 + 1 = omega arith in
          let here = subst (λ n. name_at bytes (get_or sorted a.0 0) ≡ name_at bytes (get_or sorted n 0)) e names in
          let most : least ≤ get_or sorted (b.0 - 1 + 1) 0 =
          r.is_least k (omega (arith, b.1)) (between bytes sorted a.0 k (k + 1) in_order (omega arith) (omega arith) (omega (arith, b.1)) here) in
          let is : get_or sorted (b.0 - 1 + 1) 0 ≡ p = ap (λ n. get_or sorted n 0) (sym e) ∙ b.2 in
          omega arith
      | inr ba ↦
          let not_lower = sorted_far (λ p q. is_lt (by_name bytes p q)) (ranks_by (by_name-total bytes) (λ (p : ℕ). p)) sorted in_order b.0 a.0 0 ba a.1 in
          let up : get_or sorted b.0 0 ≤ get_or sorted a.0 0 = not_above bytes (get_or sorted a.0 0) (get_or sorted b.0 0) not_lower names in
          absurd (omega (arith, a.2, b.2))
    ]

-- a place whose left neighbour has its name is a repeat
repeat_here : (bytes sorted : List ℕ) (k : ℕ) → IsSortedBy (λ p q. is_lt (by_name bytes p q)) sorted → IsDistinct eqb sorted → k + 1 < length sorted
    → name_at bytes (get_or sorted k 0) ≡ name_at bytes (get_or sorted (k + 1) 0) → get_or sorted k 0 < get_or sorted (k + 1) 0
repeat_here bytes sorted k in_order apart inside same =
    let up : get_or sorted k 0 ≤ get_or sorted (k + 1) 0 =
    not_above bytes (get_or sorted (k + 1) 0) (get_or sorted k 0) (in_order k 0 (omega arith) inside) (sym same) in
    elim (eq-or-lt_of_le up) [
      | inl e ↦
          absurd (let equal : eqb (get_or sorted k 0) (get_or sorted (k + 1) 0) ≡ true = eq-eqb (get_or sorted k 0) (get_or sorted (k + 1) 0) e in
          let other : eqb (get_or sorted k 0) (get_or sorted (k + 1) 0) ≡ false = apart_from_distinct eqb sorted k (k + 1) 0 apart (omega arith) inside in
          cc)
      | inr lower ↦ lower
    ]

-- the least repeat in the order of names is the least of the headers
least_of : (bytes places sorted : List ℕ) (headers : List Header) (end least : ℕ) → places ≡ places_from 0 headers → end ≡ length (print_headers headers)
    → IsPermutation places sorted → IsSortedBy (λ p q. is_lt (by_name bytes p q)) sorted → IsLeastRepeat bytes sorted end least
    → LeastOf (name_at bytes) headers least
least_of bytes places sorted headers end least listed end_is moved in_order r =
    record {
      within = omega (arith, r.within);
      is_one = λ below.
          let one = r.is_one (omega arith) in
          let here : IsIn least (places_from 0 headers) = subst (λ p. IsIn p (places_from 0 headers)) one.2 (back (one.0 + 1) one.1) in
          let before : IsIn (get_or sorted one.0 0) (places_from 0 headers) = back one.0 (omega (arith, one.1)) in (
            here,
            (
              get_or sorted one.0 0,
              before,
              subst (λ p. get_or sorted one.0 0 < p) one.2 (repeat_here bytes sorted one.0 in_order apart one.1 one.3),
              one.3 ∙ ap (name_at bytes) one.2,
            ),
          );
      is_least = λ p q hp hq lower same.
          least_below bytes sorted end least p q in_order r (forth p hp) (forth q hq) lower same;
    }
  where
    apart : IsDistinct eqb sorted
    apart =
        IsDistinct-IsPermutation eqb nat_eq_equiv.symm places sorted moved (subst (λ (l : List ℕ). IsDistinct eqb l) (sym listed) (distinct 0 headers))

    forth : (p : ℕ) → IsIn p (places_from 0 headers) → IsIn p sorted
    forth p h = is_in-moved p places sorted moved (subst (λ (l : List ℕ). IsIn p l) (sym listed) h)

    back : (k : ℕ) → k < length sorted → IsIn (get_or sorted k 0) (places_from 0 headers)
    back k h =
        subst (λ (l : List ℕ). IsIn (get_or sorted k 0) l) listed
        (is_in-moved (get_or sorted k 0) sorted places (IsPermutation-sym places sorted moved) (is_in-at sorted k 0 h))

-- ---- the bytes

-- the bytes are headers, or go bad at the place
pub record StopsAtPlace (bytes : List ℕ) (place : ℕ) : Type 0 where
  pub well : length bytes ≤ place → EndsWell bytes
  pub badly : place < length bytes → EndsBadly bytes place

good_up_to : (bytes : List ℕ) (pre : List Header) (more : List ℕ) (place : ℕ) → AreHeaders pre → bytes ≡ print_headers pre ++ more
    → place ≡ length (print_headers pre) → GoodUpTo bytes place
good_up_to bytes pre more place are spelled is =
    let size : length bytes ≡ length (print_headers pre) + length more = ap length spelled ∙ length-append (print_headers pre) more in
    record {
      headers = pre;
      are_headers = are;
      front = ap (λ n. take n bytes) is ∙ ap (take (length (print_headers pre))) spelled ∙ take-append_seam (print_headers pre) more;
      within = omega arith;
    }

behind : (bytes : List ℕ) (pre : List Header) (more : List ℕ) (place : ℕ) → bytes ≡ print_headers pre ++ more → place ≡ length (print_headers pre)
    → more ≡ drop place bytes
behind bytes pre more place spelled is =
    sym (ap (λ n. drop n bytes) is ∙ ap (drop (length (print_headers pre))) spelled ∙ drop-append_seam (print_headers pre) more)

stops_at_end : (bytes : List ℕ) (pre : List Header) (rest : List ℕ) (place : ℕ) → AreHeaders pre → bytes ≡ print_headers pre ++ rest
    → place ≡ length (print_headers pre) → HasNoHeader rest → StopsAtPlace bytes place
stops_at_end bytes pre rest place are spelled is nothing =
    let good : GoodUpTo bytes place = good_up_to bytes pre rest place are spelled is in
    record {
      well = good-end bytes place good;
      badly = λ inside. bad-header bytes rest place good inside (behind bytes pre rest place spelled is) nothing;
    }

stops_at_repeat : (bytes : List ℕ) (pre : List Header) (h : Header) (more : List ℕ) (place : ℕ) → AreHeaders pre
    → bytes ≡ print_headers pre ++ (print_header h ++ more) → place ≡ length (print_headers pre) → IsHeader h → (value_of h.name pre ≡ None → ⊥)
    → StopsAtPlace bytes place
unfolding good_up_to
stops_at_repeat bytes pre h more place are spelled is h_is again =
    let rest : List ℕ = print_header h ++ more in
    let good : GoodUpTo bytes place = good_up_to bytes pre rest place are spelled is in
    let after : print_header h ++ more ≡ drop place bytes = behind bytes pre rest place spelled is in
    record {
      well = λ out.
          absurd (let some : 0 < length (print_header h ++ more) = header-some h more in
          let size : length bytes ≡ length (print_headers pre) + length (print_header h ++ more) =
          ap length spelled ∙ length-append (print_headers pre) (print_header h ++ more) in
          omega arith);
      badly = λ inside.
          ends_badly bytes place good inside
          (λ g other g_is new e.
          let u = header-unique h g more other h_is g_is (after ∙ e) in
          again (ap (λ (n : List ℕ). value_of n pre) u.name ∙ new));
    }

stops : (bytes : List ℕ) (headers : List Header) (rest : List ℕ) (least : ℕ) → bytes ≡ print_headers headers ++ rest → HasNoHeader rest
    → Cut headers least → StopsAtPlace bytes least
unfolding Again
stops bytes headers rest least spelled nothing cut = go cut.post cut.joined cut.next
  where
    go : (post : List Header) → headers ≡ cut.pre ++ post → (post ≡ []) ⊎ Again cut.pre post → StopsAtPlace bytes least
    go [] joined next =
        let all : headers ≡ cut.pre = joined ∙ append-nil cut.pre in
        stops_at_end bytes cut.pre rest least cut.are_headers (spelled ∙ ap (λ (k : List Header). print_headers k ++ rest) all) cut.place nothing
    go (h ∷ post) joined (inl none) = absurd (cc)
    go (h ∷ post) joined (inr again) =
        stops_at_repeat bytes cut.pre h (print_headers post ++ rest) least cut.are_headers
        (spelled ∙ ap (λ (k : List Header). print_headers k ++ rest) joined
        ∙ ap (λ (l : List ℕ). l ++ rest) (flat_map-append print_header cut.pre (h ∷ post))
        ∙ append_assoc (print_headers cut.pre) (print_headers (h ∷ post)) rest
        ∙ ap (λ (l : List ℕ). print_headers cut.pre ++ l) (append_assoc (print_header h) (print_headers post) rest))
        cut.place again.0 again.1

pub stops_at_least : (bytes places sorted : List ℕ) (end least : ℕ) → ListsAllHeaders bytes places end → IsPermutation places sorted
    → IsSortedBy (λ p q. is_lt (by_name bytes p q)) sorted → IsLeastRepeat bytes sorted end least → StopsAtPlace bytes least
stops_at_least bytes places sorted end least lists moved in_order r =
    let headers : List Header = lists.lists.headers in
    let rest : List ℕ = lists.rest in
    let size : length bytes ≡ length (print_headers lists.lists.headers) + length lists.rest =
    ap length lists.lists.spelled ∙ length-append (print_headers lists.lists.headers) lists.rest in
    stops bytes headers rest least lists.lists.spelled lists.last
    (cut (name_at bytes) [] headers least (named bytes [] headers rest lists.lists.spelled)
    (least_of bytes places sorted headers end least lists.lists.places_are (omega (arith, lists.end_is)) moved in_order r) tt lists.lists.can_be_written)
