-- The places of headers, listed and sorted by the names that stand there.
use Rattle.std.proofs.Common.{◌≡◌, ℕ, ◌+◌, ◌-◌, ◌*◌, ◌/◌, ◌%◌, ◌<◌, ◌≤◌, min, suc, List, [], ◌∷◌, ◌++◌, length, get_or, Bool, Bor, ◌⊎◌, inl, inr, refl, sym, ap, subst, ◌∙◌, arith, append_assoc, length-append}
use Rattle.std.proofs.Math.Nat.{eq-or-lt_of_le}
use Rattle.std.proofs.lemmas.List.{append-nil}
use Rattle.std.proofs.lemmas.Cmp.{nat_cmp_total, nat_list_cmp_total, on_total, then_total}
use Rattle.std.proofs.lemmas.Fn.{always_returns_same}
use Rattle.std.proofs.lemmas.Grind.{flat_map-append}
use Rattle.std.proofs.lemmas.List.MinMax.{ranks_by}
use Rattle.std.specs.Cmp.{IsTotalOrder, IsStrictWeakOrder}
use Rattle.std.specs.Fn.{Called, ComparesAs, Mut}
use Rattle.std.specs.List.Sorted.{IsSortedBy}
use Rattle.std.specs.Ordering.{is_lt}
use Rattle.std.specs.declared.cmp.Ordering.{Ordering}
use Rattle.event_frame.specs.Message.{Header, print_header, print_headers}
use Rattle.event_frame.specs.Event.{header}
use Rattle.event_frame.specs.Reading.{IsHeader}
use Rattle.event_frame.specs.HeaderFront.{SpellsHeader}
use Rattle.event_frame.specs.HeaderPlaces.{CanBeWritten, places_from, ListsHeaders, by_name, name_at}
use Rattle.event_frame.proofs.HeaderLaws.{flat}

pub by_name-total : (bytes : List ℕ) → IsTotalOrder (by_name bytes)
by_name-total bytes = then_total (on_total (name_at bytes) nat_list_cmp_total) nat_cmp_total

-- what a sort by a comparison gives
pub sorted_by : {F : Type 0} {g : Mut F (Bor ℕ × (Bor ℕ × Unit {0})) Ordering} {f : F} (R : ℕ → ℕ → Ordering) → IsTotalOrder R → (xs : List ℕ)
    → ((lt : ℕ → ℕ → Bool) → IsStrictWeakOrder lt → ComparesAs g lt f → IsSortedBy lt xs)
    → ((a : Bor ℕ × (Bor ℕ × Unit {0})) (r : Ordering) (f' : F) → Called g f a r f' → (r ≡ R a.0.now a.1.0.now) × (f' ≡ f))
    → IsSortedBy (λ p q. is_lt (R p q)) xs
sorted_by {g = g} {f = f} R order xs sorted compares =
    sorted (λ p q. is_lt (R p q)) (ranks_by order (λ (p : ℕ). p))
    (always_returns_same g (λ a r. is_lt r ≡ is_lt (R a.0.now a.1.0.now)) f
    (λ a r f' k. (ap is_lt (compares a r f' k).0, (compares a r f' k).1)))

-- ---- listing

can_be_written-more : (headers : List Header) (h : Header) → CanBeWritten headers → IsHeader h → CanBeWritten (headers ++ h ∷ [])
can_be_written-more [] h can h_is = (h_is, tt)
can_be_written-more (g ∷ headers) h can h_is = (can.0, can_be_written-more headers h can.1 h_is)

pub places_from-append : (at : ℕ) (headers more : List Header)
    → places_from at (headers ++ more) ≡ places_from at headers ++ places_from (at + length (print_headers headers)) more
places_from-append at [] more = ap (λ n. places_from n more) (let e : at ≡ at + length (print_headers []) = omega arith in e)
places_from-append at (h ∷ headers) more =
    let size : length (print_headers (h ∷ headers)) ≡ length (print_header h) + length (print_headers headers) = length-append (print_header h) (print_headers headers) in
    let place : at + length (print_header h) + length (print_headers headers) ≡ at + length (print_headers (h ∷ headers)) = omega arith in
    ap (λ (l : List ℕ). at ∷ l)
    (places_from-append (at + length (print_header h)) headers more
    ∙ ap (λ n. places_from (at + length (print_header h)) headers ++ places_from n more) place)

-- what the loop keeps: the headers before the rest are listed, and there is room for as many as can follow
pub record Listing (bytes places rest : List ℕ) : Type 0 where
  pub lists : ListsHeaders bytes places rest
  pub few : 5 * length places + length rest ≤ length bytes

-- a header takes five bytes or more
pub header-size : (rest name value after : List ℕ) → SpellsHeader rest name value after → 5 + length after ≤ length rest
header-size rest name value after found =
    let h : Header = header name value in
    let size : length rest ≡ suc (length (h.name ++ (7 ∷ length h.value / 256 % 256 ∷ length h.value % 256 ∷ (h.value ++ after)))) =
    ap length (found.spelled ∙ flat h after) in
    omega (arith, found.is_header.named, length-append h.name (7 ∷ length h.value / 256 % 256 ∷ length h.value % 256 ∷ (h.value ++ after)), length-append h.value after)

pub listing-more : (bytes places rest name value after places' : List ℕ) → Listing bytes places rest → SpellsHeader rest name value after
    → places' ≡ places ++ (length bytes - length rest) ∷ [] → Listing bytes places' after
listing-more bytes places rest name value after places' listing found added =
    let h : Header = header name value in
    let headers : List Header = listing.lists.headers in
    let size : length bytes ≡ length (print_headers listing.lists.headers) + length rest =
    ap length listing.lists.spelled ∙ length-append (print_headers listing.lists.headers) rest in
    let place : length bytes - length rest ≡ 0 + length (print_headers listing.lists.headers) = omega arith in
    let printed : print_headers (headers ++ h ∷ []) ≡ print_headers headers ++ print_header h =
    flat_map-append print_header headers (h ∷ []) ∙ ap (λ (l : List ℕ). print_headers headers ++ l) (append-nil (print_header h)) in
    let count : length places' ≡ length places + 1 = ap length added ∙ length-append places ((length bytes - length rest) ∷ []) in
    record {
      lists = record {
        headers = headers ++ h ∷ [];
        can_be_written = can_be_written-more headers h listing.lists.can_be_written found.is_header;
        spelled =
            listing.lists.spelled
            ∙ ap (λ (l : List ℕ). print_headers headers ++ l) found.spelled
            ∙ sym (append_assoc (print_headers headers) (print_header h) after)
            ∙ ap (λ (l : List ℕ). l ++ after) (sym printed);
        places_are =
            added
            ∙ ap (λ (l : List ℕ). l ++ (length bytes - length rest) ∷ []) listing.lists.places_are
            ∙ ap (λ n. places_from 0 headers ++ n ∷ []) place
            ∙ sym (places_from-append 0 headers (h ∷ []));
      };
      few = omega (arith, listing.few, header-size rest name value after found);
    }

-- ---- looking at neighbours

-- the least repeat among the places before an index
pub record RepeatSoFar (bytes places : List ℕ) (end i least : ℕ) : Type 0 where
  pub within : least ≤ end
  pub is_one : least < end
      → (k : ℕ) × (k + 1 < length places) × (get_or places (k + 1) 0 ≡ least)
      × (name_at bytes (get_or places k 0) ≡ name_at bytes (get_or places (k + 1) 0))
  pub is_least : (k : ℕ) → k + 1 < i → name_at bytes (get_or places k 0) ≡ name_at bytes (get_or places (k + 1) 0)
      → least ≤ get_or places (k + 1) 0

-- the next place, whose left neighbour is at k
repeat-more : (bytes places : List ℕ) (end k least least' : ℕ) → RepeatSoFar bytes places end (k + 1) least → k + 1 < length places → least' ≤ least
    → (least' ≡ least)
    ⊎ ((least' ≡ get_or places (k + 1) 0) × (name_at bytes (get_or places k 0) ≡ name_at bytes (get_or places (k + 1) 0)))
    → (name_at bytes (get_or places k 0) ≡ name_at bytes (get_or places (k + 1) 0) → least' ≤ get_or places (k + 1) 0)
    → RepeatSoFar bytes places end (k + 1 + 1) least'
repeat-more bytes places end k least least' so_far inside below from here =
    record {
      within = omega (arith, so_far.within);
      is_one = one from;
      is_least = λ j h same. least_of j same (eq-or-lt_of_le (let le : j ≤ k = omega arith in le));
    }
  where
    one : (least' ≡ least)
        ⊎ ((least' ≡ get_or places (k + 1) 0) × (name_at bytes (get_or places k 0) ≡ name_at bytes (get_or places (k + 1) 0)))
        → least' < end
        → (j : ℕ) × (j + 1 < length places) × (get_or places (j + 1) 0 ≡ least')
        × (name_at bytes (get_or places j 0) ≡ name_at bytes (get_or places (j + 1) 0))
    one (inl kept) h =
        let old = so_far.is_one (omega (arith, kept)) in
        (old.0, old.1, old.2 ∙ sym kept, old.3)
    one (inr new) h = (k, inside, sym new.0, new.1)

    least_of : (j : ℕ) → name_at bytes (get_or places j 0) ≡ name_at bytes (get_or places (j + 1) 0) → (j ≡ k) ⊎ (j < k) → least' ≤ get_or places (j + 1) 0
    least_of j same (inl is) =
        let at_k = here (subst (λ n. name_at bytes (get_or places n 0) ≡ name_at bytes (get_or places (n + 1) 0)) is same) in
        subst (λ n. least' ≤ get_or places (n + 1) 0) (sym is) at_k
    least_of j same (inr lower) = let old : least ≤ get_or places (j + 1) 0 = so_far.is_least j (omega arith) same in omega arith

at_index : (i : ℕ) → 1 ≤ i → i ≡ i - 1 + 1
at_index i h = omega arith

pub repeat-yes : (bytes places : List ℕ) (end i least least' : ℕ) → RepeatSoFar bytes places end i least → 1 ≤ i → i < length places
    → name_at bytes (get_or places (i - 1) 0) ≡ name_at bytes (get_or places i 0) → least' ≡ min least (get_or places i 0)
    → RepeatSoFar bytes places end (i + 1) least'
repeat-yes bytes places end i least least' so_far low high same is =
    let e : i ≡ i - 1 + 1 = at_index i low in
    subst (λ n. RepeatSoFar bytes places end (n + 1) least') (sym e)
    (repeat-more bytes places end (i - 1) least least' (subst (λ n. RepeatSoFar bytes places end n least) e so_far) (omega arith) (omega arith)
    (which (subst (λ n. name_at bytes (get_or places (i - 1) 0) ≡ name_at bytes (get_or places n 0)) e same)
    (is ∙ ap (λ n. min least (get_or places n 0)) e))
    (λ _. let here : least' ≡ min least (get_or places (i - 1 + 1) 0) = is ∙ ap (λ n. min least (get_or places n 0)) e in omega arith))
  where
    which : name_at bytes (get_or places (i - 1) 0) ≡ name_at bytes (get_or places (i - 1 + 1) 0) → least' ≡ min least (get_or places (i - 1 + 1) 0)
        → (least' ≡ least)
        ⊎ ((least' ≡ get_or places (i - 1 + 1) 0) × (name_at bytes (get_or places (i - 1) 0) ≡ name_at bytes (get_or places (i - 1 + 1) 0)))
    which same least_is =
        elim (eq-or-lt_of_le (let le : least' ≤ least = omega arith in le)) [ inl kept ↦ inl kept | inr lower ↦ inr (omega arith, same) ]

pub repeat-no : (bytes places : List ℕ) (end i least : ℕ) → RepeatSoFar bytes places end i least → 1 ≤ i → i < length places
    → (name_at bytes (get_or places (i - 1) 0) ≡ name_at bytes (get_or places i 0) → ⊥) → RepeatSoFar bytes places end (i + 1) least
repeat-no bytes places end i least so_far low high differ =
    let e : i ≡ i - 1 + 1 = at_index i low in
    subst (λ n. RepeatSoFar bytes places end (n + 1) least) (sym e)
    (repeat-more bytes places end (i - 1) least least (subst (λ n. RepeatSoFar bytes places end n least) e so_far) (omega arith) (omega arith) (inl refl)
    (λ same. absurd (differ (subst (λ n. name_at bytes (get_or places (i - 1) 0) ≡ name_at bytes (get_or places n 0)) (sym e) same))))
