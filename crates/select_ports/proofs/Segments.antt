-- The segments of a name, cut at its first slash.
use Rattle.std.proofs.Common.{◌≡◌, ◌≢◌, ℕ, suc, ◌<◌, List, [], ◌∷◌, ◌++◌, Bool, true, false, ◌&&◌, eqb, length, get_or, refl, sym, ap, ◌∙◌, arith}
use Rattle.std.specs.List.{list_all}
use Rattle.select_ports.specs.Names.{names_entry, segments_of, with_first}

-- another byte than a slash goes on with its segment
goes_on : (b : ℕ) (bs : List ℕ) → b ≢ 47 → segments_of (b ∷ bs) ≡ with_first b (segments_of bs)
goes_on b bs other = let test : eqb b 47 ≡ false = grind arith in rw test refl

-- no slash: one segment
pub one_segment : (bs : List ℕ) → ((i : ℕ) → i < length bs → get_or bs i 0 ≢ 47) → segments_of bs ≡ bs ∷ []
one_segment [] none = refl
one_segment (b ∷ bs) none =
    goes_on b bs (none 0 (omega arith)) ∙ ap (with_first b) (one_segment bs (λ i h. none (suc i) (omega arith)))

-- the bytes before the first slash are the first segment
pub first_segment : (xs ys : List ℕ) → ((i : ℕ) → i < length xs → get_or xs i 0 ≢ 47) → segments_of (xs ++ 47 ∷ ys) ≡ xs ∷ segments_of ys
first_segment [] ys none = refl
first_segment (x ∷ xs) ys none =
    goes_on x (xs ++ 47 ∷ ys) (none 0 (omega arith)) ∙ ap (with_first x) (first_segment xs ys (λ i h. none (suc i) (omega arith)))

and_true : (b : Bool) → (b && true) ≡ b
and_true true = refl
and_true false = refl

-- a whole name is judged as its one segment
pub judged_whole : (bs : List ℕ) → ((i : ℕ) → i < length bs → get_or bs i 0 ≢ 47) → names_entry bs ≡ list_all names_entry (segments_of bs)
judged_whole bs none = sym (ap (list_all names_entry) (one_segment bs none) ∙ and_true (names_entry bs))

-- the first segment decides, or what follows it
pub judged_cut : (bs xs ys : List ℕ) → bs ≡ xs ++ (47 ∷ ys) → ((i : ℕ) → i < length xs → get_or xs i 0 ≢ 47)
    → list_all names_entry (segments_of bs) ≡ (names_entry xs && list_all names_entry (segments_of ys))
judged_cut bs xs ys cut none = ap (λ l. list_all names_entry (segments_of l)) cut ∙ ap (list_all names_entry) (first_segment xs ys none)
