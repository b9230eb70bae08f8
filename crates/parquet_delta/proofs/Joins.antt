-- Values that begin with a front of the one before.
use Rattle.std.proofs.Common.{◌≡◌, ℕ, Bool, true, false, ◌+◌, ◌≤◌, List, [], ◌∷◌, ◌++◌, length, take, drop, Option, None, Some, refl, sym, ap, ◌∙◌, subst, arith, length-append, length-take-le}
use Rattle.std.specs.Prelude.{ℤ, nat_le, max, ◌&&◌, if◌then◌else◌}
use Rattle.std.specs.Option.{option_and_then, option_map}
use Rattle.std.proofs.lemmas.Bool.{leb-true}
use Rattle.parquet_delta.specs.declared.word.Word.TheVariants.{Bits32}
use Rattle.parquet_delta.specs.Lists.{list_at}
use Rattle.parquet_delta.specs.Arrays.{is_natural, size_of, longest_value, may_join, longest_of, joined, joined_by, arrays_at, fronts_at, HasRoom}

map_max : (a b : ℕ) (o : Option ℕ) → option_map (max a) (option_map (max b) o) ≡ option_map (max (max a b)) o
map_max a b None = refl
map_max a b (Some n) = let e : max a (max b n) ≡ max (max a b) n = omega arith in ap Some e

next_longest : (before : ℕ) (old new : List ℤ) (olds news : List (List ℕ)) (z : ℤ) (s : List ℕ) → old ≡ z ∷ new → olds ≡ s ∷ news
    → longest_of before old olds
    ≡ (if may_join z before (length s) then option_map (max (size_of z + length s)) (longest_of (size_of z + length s) new news) else None)
unfolding longest_of
next_longest before old new olds news z s is are = ap (λ l. longest_of before l olds) is ∙ ap (longest_of before (z ∷ new)) are

pub goes_on : (before longest len : ℕ) (old new : List ℤ) (olds news : List (List ℕ)) (z : ℤ) (s : List ℕ) → old ≡ z ∷ new → olds ≡ s ∷ news
    → may_join z before (length s) ≡ true → len ≡ size_of z + length s
    → option_map (max longest) (longest_of before old olds) ≡ option_map (max (max longest len)) (longest_of len new news)
goes_on before longest len old new olds news z s is are may sum =
    let next = next_longest before old new olds news z s is are
    ∙ ap (λ t. if t then option_map (max (size_of z + length s)) (longest_of (size_of z + length s) new news) else None) may in
    ap (option_map (max longest)) next ∙ ap (λ n. option_map (max longest) (option_map (max n) (longest_of n new news))) (sym sum)
    ∙ map_max longest len (longest_of len new news)

pub stops_there : (before : ℕ) (old new : List ℤ) (olds news : List (List ℕ)) (z : ℤ) (s : List ℕ) → old ≡ z ∷ new → olds ≡ s ∷ news
    → may_join z before (length s) ≡ false → longest_of before old olds ≡ None
stops_there before old new olds news z s is are may =
    next_longest before old new olds news z s is are
    ∙ ap (λ t. if t then option_map (max (size_of z + length s)) (longest_of (size_of z + length s) new news) else None) may

pub stops_short : (before : ℕ) (old new : List ℤ) (olds : List (List ℕ)) (z : ℤ) → old ≡ z ∷ new → olds ≡ [] → longest_of before old olds ≡ None
unfolding longest_of
stops_short before old new olds z is none = ap (λ l. longest_of before l olds) is ∙ ap (longest_of before (z ∷ new)) none

pub ends : (before longest : ℕ) (old : List ℤ) (olds : List (List ℕ)) → old ≡ [] → option_map (max longest) (longest_of before old olds) ≡ Some longest
unfolding longest_of
ends before longest old olds none =
    let e : max longest 0 ≡ longest = omega arith in
    ap (λ l. option_map (max longest) (longest_of before l olds)) none ∙ ap Some e

-- what room says of the next value
room_parts : (n room : ℕ) (o : Option ℕ) → HasRoom (option_map (max n) o) room → (n ≤ room) × HasRoom o room
room_parts n room None has = absurd has
room_parts n room (Some m) has = (omega (arith, has), omega (arith, has))

pub more_room : (o : Option ℕ) (few room : ℕ) → HasRoom o few → few ≤ room → HasRoom o room
more_room None few room has more = absurd has
more_room (Some n) few room has more = omega (arith, has, more)

pub record Next (before room : ℕ) (z : ℤ) (s : List ℕ) (new : List ℤ) (news : List (List ℕ)) : Type 0 where
  pub natural : is_natural z ≡ true
  pub front : size_of z ≤ before
  pub fits : size_of z + length s ≤ room
  pub others : HasRoom (longest_of (size_of z + length s) new news) room

next_parts : (natural front short : Bool) (n : ℕ) (o : Option ℕ) (room : ℕ)
    → HasRoom (if natural && front && short then option_map (max n) o else None) room
    → (natural ≡ true) × (front ≡ true) × (n ≤ room) × HasRoom o room
next_parts true true true n o room has = let parts = room_parts n room o has in (refl, refl, parts.0, parts.1)
next_parts true true false n o room has = absurd has
next_parts true false short n o room has = absurd has
next_parts false front short n o room has = absurd has

pub next_of : (before room : ℕ) (old new : List ℤ) (olds news : List (List ℕ)) (z : ℤ) (s : List ℕ) → old ≡ z ∷ new → olds ≡ s ∷ news
    → HasRoom (longest_of before old olds) room → Next before room z s new news
next_of before room old new olds news z s is are has =
    let parts = next_parts (is_natural z) (nat_le (size_of z) before) (nat_le (size_of z + length s) longest_value) (size_of z + length s)
    (longest_of (size_of z + length s) new news) room (subst (λ o. HasRoom o room) (next_longest before old new olds news z s is are) has) in
    record { natural = parts.0; front = leb-true (size_of z) before parts.1; fits = parts.2; others = parts.3 }

pub has_suffix : (before room : ℕ) (old new : List ℤ) (olds : List (List ℕ)) (z : ℤ) → old ≡ z ∷ new → olds ≡ []
    → HasRoom (longest_of before old olds) room → ⊥
has_suffix before room old new olds z is none has = absurd (subst (λ o. HasRoom o room) (stops_short before old new olds z is none) has)

pub next_joined : (before : List ℕ) (old new : List ℤ) (olds news : List (List ℕ)) (z : ℤ) (s : List ℕ) → old ≡ z ∷ new → olds ≡ s ∷ news
    → joined before old olds ≡ (take (size_of z) before ++ s) ∷ joined (take (size_of z) before ++ s) new news
unfolding joined
next_joined before old new olds news z s is are = ap (λ l. joined before l olds) is ∙ ap (joined before (z ∷ new)) are

pub none_joined : (before : List ℕ) (old : List ℤ) (olds : List (List ℕ)) → old ≡ [] → joined before old olds ≡ []
unfolding joined
none_joined before old olds none = ap (λ l. joined before l olds) none

pub length_joined : (size : ℕ) (before s : List ℕ) → size ≤ length before → length (take size before ++ s) ≡ size + length s
length_joined size before s within =
    length-append (take size before) s ∙ ap (λ n. n + length s) (length-take-le size before within)

-- the whole list
pub fronts_there : (count used n : ℕ) (bytes rest : List ℕ) (prefixes : List ℤ) (suffixes : List (List ℕ))
    → list_at Bits32 count bytes ≡ Some (prefixes, drop used bytes) → rest ≡ drop used bytes → arrays_at count rest ≡ Some suffixes
    → longest_of 0 prefixes suffixes ≡ Some n → fronts_at count bytes ≡ Some (joined [] prefixes suffixes)
unfolding fronts_at
fronts_there count used n bytes rest prefixes suffixes is same arrays longest =
    ap (option_and_then (λ x. option_and_then (joined_by x.0) (arrays_at count x.1))) is
    ∙ ap (option_and_then (joined_by prefixes)) (ap (arrays_at count) (sym same) ∙ arrays) ∙ ap (option_map (λ m. joined [] prefixes suffixes)) longest

pub fronts_unfit : (count used : ℕ) (bytes rest : List ℕ) (prefixes : List ℤ) (suffixes : List (List ℕ))
    → list_at Bits32 count bytes ≡ Some (prefixes, drop used bytes) → rest ≡ drop used bytes → arrays_at count rest ≡ Some suffixes
    → longest_of 0 prefixes suffixes ≡ None → fronts_at count bytes ≡ None
unfolding fronts_at
fronts_unfit count used bytes rest prefixes suffixes is same arrays none =
    ap (option_and_then (λ x. option_and_then (joined_by x.0) (arrays_at count x.1))) is
    ∙ ap (option_and_then (joined_by prefixes)) (ap (arrays_at count) (sym same) ∙ arrays) ∙ ap (option_map (λ m. joined [] prefixes suffixes)) none

pub fronts_no_suffixes : (count used : ℕ) (bytes rest : List ℕ) (prefixes : List ℤ) → list_at Bits32 count bytes ≡ Some (prefixes, drop used bytes)
    → rest ≡ drop used bytes → arrays_at count rest ≡ None → fronts_at count bytes ≡ None
unfolding fronts_at
fronts_no_suffixes count used bytes rest prefixes is same none =
    ap (option_and_then (λ x. option_and_then (joined_by x.0) (arrays_at count x.1))) is
    ∙ ap (option_and_then (joined_by prefixes)) (ap (arrays_at count) (sym same) ∙ none)

pub fronts_no_prefixes : (count : ℕ) (bytes : List ℕ) → list_at Bits32 count bytes ≡ None → fronts_at count bytes ≡ None
unfolding fronts_at
fronts_no_prefixes count bytes none = ap (option_and_then (λ x. option_and_then (joined_by x.0) (arrays_at count x.1))) none
