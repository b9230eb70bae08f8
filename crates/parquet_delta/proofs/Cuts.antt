-- Byte arrays cut by their lengths.
use Rattle.std.proofs.Common.{◌≡◌, ℕ, Bool, true, false, ◌-◌, ◌<◌, ◌≤◌, List, [], ◌∷◌, length, take, drop, Option, None, Some, refl, sym, ap, ◌∙◌, subst, arith}
use Rattle.std.specs.Prelude.{ℤ, nat_le, ◌&&◌, ◌==◌, if◌then◌else◌}
use Rattle.std.specs.Option.{option_and_then}
use Rattle.std.proofs.lemmas.Bool.{leb-true, le-leb, lt-leb}
use Rattle.std.proofs.lemmas.Option.{option_and_then_some}
use Rattle.parquet_delta.specs.declared.word.Word.{Word}
use Rattle.parquet_delta.specs.declared.word.Word.TheVariants.{Bits32}
use Rattle.parquet_delta.specs.Lists.{ListState, IsOpened, list_at, list_behind, head_at, Start}
use Rattle.parquet_delta.specs.Blocks.{end_of}
use Rattle.parquet_delta.specs.Arrays.{is_natural, size_of, are_lengths, arrays, arrays_at}
use Rattle.parquet_delta.proofs.Behind.{Behind, behind_drop, behind_both, behind_head, behind_end, begins, some_same}

pub all_cut : (lengths : List ℤ) (n : ℕ) → lengths ≡ [] → are_lengths lengths n ≡ true
unfolding are_lengths
all_cut lengths n none = ap (λ ls. are_lengths ls n) none

pub none_cut : (lengths : List ℤ) (bytes : List ℕ) → lengths ≡ [] → arrays lengths bytes ≡ []
unfolding arrays
none_cut lengths bytes none = ap (λ ls. arrays ls bytes) none

-- what the test says of a length: it isn't negative, is short enough, and the others are
parts : (natural : Bool) (size n : ℕ) (others : Bool) → (natural && nat_le size n && others) ≡ true → (natural ≡ true) × (size ≤ n) × (others ≡ true)
parts true size n others is = within (nat_le size n) refl is
  where
    within : (t : Bool) → nat_le size n ≡ t → (t && others) ≡ true → (true ≡ true) × (size ≤ n) × (others ≡ true)
    within true short is = (refl, leb-true size n short, is)
    within false long is = cc
parts false size n others is = cc

pub first_fits : (old new : List ℤ) (z : ℤ) (n : ℕ) → old ≡ z ∷ new → are_lengths old n ≡ true
    → (is_natural z ≡ true) × (size_of z ≤ n) × (are_lengths new (n - size_of z) ≡ true)
unfolding are_lengths
first_fits old new z n is fits = parts (is_natural z) (size_of z) n (are_lengths new (n - size_of z)) (sym (ap (λ ls. are_lengths ls n) is) ∙ fits)

pub next_fits : (old new : List ℤ) (z : ℤ) (n : ℕ) → old ≡ z ∷ new → is_natural z ≡ true → size_of z ≤ n → are_lengths old n ≡ are_lengths new (n - size_of z)
unfolding are_lengths
next_fits old new z n is natural short =
    let e : nat_le (size_of z) n ≡ true = le-leb (size_of z) n short in
    ap (λ ls. are_lengths ls n) is ∙ ap (λ t. t && nat_le (size_of z) n && are_lengths new (n - size_of z)) natural
    ∙ ap (λ t. t && are_lengths new (n - size_of z)) e

pub negative_fails : (old new : List ℤ) (z : ℤ) (n : ℕ) → old ≡ z ∷ new → is_natural z ≡ false → are_lengths old n ≡ false
unfolding are_lengths
negative_fails old new z n is negative =
    ap (λ ls. are_lengths ls n) is ∙ ap (λ t. t && nat_le (size_of z) n && are_lengths new (n - size_of z)) negative

pub long_fails : (old new : List ℤ) (z : ℤ) (n : ℕ) → old ≡ z ∷ new → is_natural z ≡ true → n < size_of z → are_lengths old n ≡ false
unfolding are_lengths
long_fails old new z n is natural long =
    let e : nat_le (size_of z) n ≡ false = lt-leb (size_of z) n long in
    ap (λ ls. are_lengths ls n) is ∙ ap (λ t. t && nat_le (size_of z) n && are_lengths new (n - size_of z)) natural
    ∙ ap (λ t. t && are_lengths new (n - size_of z)) e

pub next_cut : (old new : List ℤ) (z : ℤ) (bytes : List ℕ) → old ≡ z ∷ new → arrays old bytes ≡ take (size_of z) bytes ∷ arrays new (drop (size_of z) bytes)
unfolding arrays
next_cut old new z bytes is = ap (λ ls. arrays ls bytes) is

-- the bytes behind a list are a rest of the bytes
behind_parts : (word : Word) (count : ℕ) (bytes : List ℕ) (start : Start) (x : List ℤ × List ℕ) → head_at count bytes ≡ Some start
    → list_behind word count start ≡ Some x → Behind x.1 bytes
behind_parts word count bytes start x head is =
    option_and_then_some _ (end_of _ start.place) x is
    (λ rest end found. subst (λ y. Behind y.1 bytes) (some_same _ x found)
    (behind_both bytes start.place.bytes rest (behind_end _ start.place rest end) (behind_head count bytes start head)))

behind_if : (t : Bool) (word : Word) (count : ℕ) (bytes : List ℕ) (x : List ℤ × List ℕ)
    → (if t then Some ([], bytes) else option_and_then (list_behind word count) (head_at count bytes)) ≡ Some x → Behind x.1 bytes
behind_if true word count bytes x is = subst (λ y. Behind y.1 bytes) (some_same _ x is) (behind_drop 0 bytes)
behind_if false word count bytes x is =
    option_and_then_some _ (head_at count bytes) x is (λ start head found. behind_parts word count bytes start x head found)

pub behind_list : (word : Word) (count : ℕ) (bytes : List ℕ) (x : List ℤ × List ℕ) → list_at word count bytes ≡ Some x → Behind x.1 bytes
unfolding list_at
behind_list word count bytes x is = behind_if (count == 0) word count bytes x is

-- what was opened: the list, and where the bytes behind it begin
pub record Opened (word : Word) (count : ℕ) (bytes : List ℕ) (state : ListState) : Type 0 where
  pub is : list_at word count bytes ≡ Some (state.left, drop state.used bytes)
  pub within : state.used ≤ length bytes

opened_by : (word : Word) (count : ℕ) (bytes : List ℕ) (state : ListState) (found : Option (List ℤ × List ℕ)) → list_at word count bytes ≡ found
    → IsOpened bytes state found → Opened word count bytes state
opened_by word count bytes state None is opened = absurd opened
opened_by word count bytes state (Some x) is opened =
    let rest = behind_list word count bytes x is in
    let begin : x.1 ≡ drop state.used bytes = begins x.1 bytes rest ∙ ap (λ n. drop n bytes) (sym opened.1) in
    record {
      is = is ∙ ap (λ y. Some (y, x.1)) (sym opened.0) ∙ ap (λ y. Some (state.left, y)) begin;
      within = omega (arith, opened.1);
    }

pub opened : (word : Word) (count : ℕ) (bytes : List ℕ) (state : ListState) → IsOpened bytes state (list_at word count bytes) → Opened word count bytes state
opened word count bytes state is = opened_by word count bytes state (list_at word count bytes) refl is

-- the arrays of a list, none where they aren't there
pub arrays_there : (count used : ℕ) (bytes rest : List ℕ) (lengths : List ℤ) → list_at Bits32 count bytes ≡ Some (lengths, drop used bytes)
    → rest ≡ drop used bytes → are_lengths lengths (length rest) ≡ true → arrays_at count bytes ≡ Some (arrays lengths rest)
unfolding arrays_at
arrays_there count used bytes rest lengths is same fits =
    let all : list_at Bits32 count bytes ≡ Some (lengths, rest) = is ∙ ap (λ r. Some (lengths, r)) (sym same) in
    ap (option_and_then (λ x. if are_lengths x.0 (length x.1) then Some (arrays x.0 x.1) else None)) all
    ∙ ap (λ t. if t then Some (arrays lengths rest) else None) fits

pub arrays_lack : (count used : ℕ) (bytes rest : List ℕ) (lengths : List ℤ) → list_at Bits32 count bytes ≡ Some (lengths, drop used bytes)
    → rest ≡ drop used bytes → are_lengths lengths (length rest) ≡ false → arrays_at count bytes ≡ None
unfolding arrays_at
arrays_lack count used bytes rest lengths is same fails =
    let all : list_at Bits32 count bytes ≡ Some (lengths, rest) = is ∙ ap (λ r. Some (lengths, r)) (sym same) in
    ap (option_and_then (λ x. if are_lengths x.0 (length x.1) then Some (arrays x.0 x.1) else None)) all
    ∙ ap (λ t. if t then Some (arrays lengths rest) else None) fails

pub no_list : (count : ℕ) (bytes : List ℕ) → list_at Bits32 count bytes ≡ None → arrays_at count bytes ≡ None
unfolding arrays_at
no_list count bytes none = ap (option_and_then (λ x. if are_lengths x.0 (length x.1) then Some (arrays x.0 x.1) else None)) none
