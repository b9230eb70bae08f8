-- Grammars as values. A rule says which texts, as lists of symbols, spell which values, and which
-- lists of symbols are a front: the beginning of a text, told by the cases of the grammar.
use Rattle.std.specs.Prelude.{◌≡◌, ℕ, zero, suc, Bool, true, false, ◌&&◌, not, List, [], ◌∷◌, ◌++◌, Option, Some, None, if◌then◌else◌, ◌⊎◌}

-- how the last symbol of a front stands: it fits, or it is where a fault of that kind is told
pub data Last (K : Type 0) : Type 0 where
  fits : Last K
  faulty : K → Last K

-- a rule of a grammar over symbols T with faults K for values A: `Spells a ts` says that ts is a text
-- of a, `Front fits ts` that ts is a front, and `Front (faulty k) ts` that ts is a front but for its
-- last symbol, which has the fault k
pub record Rule (T K A : Type 0) : Type 1 where
  pub Spells : A → List T → Type 0
  pub Front : Last K → List T → Type 0

-- what a terminal makes of a symbol: it takes it for a value, finds a fault in it, or refuses it
pub data Verdict (K A : Type 0) : Type 0 where
  takes : A → Verdict K A
  faults : K → Verdict K A
  refuses : Verdict K A

-- the symbol is taken for the value
abbrev pub SpelledByOne : {T K A : Type 0} → (T → Verdict K A) → A → List T → Type 0
SpelledByOne look a [] = ⊥
SpelledByOne look a (t ∷ []) = look t ≡ takes a
SpelledByOne look a (t ∷ u ∷ ts) = ⊥

-- nothing, a symbol that is taken, or one in which a fault is found
abbrev pub FrontOfOne : {T K A : Type 0} → (T → Verdict K A) → Last K → List T → Type 0
FrontOfOne look fits [] = Unit {0}
FrontOfOne {A = A} look fits (t ∷ []) = (a : A) × (look t ≡ takes a)
FrontOfOne look fits (t ∷ u ∷ ts) = ⊥
FrontOfOne look (faulty k) [] = ⊥
FrontOfOne look (faulty k) (t ∷ []) = look t ≡ faults k
FrontOfOne look (faulty k) (t ∷ u ∷ ts) = ⊥

-- a terminal: one symbol
abbrev pub terminal : {T K A : Type 0} → (T → Verdict K A) → Rule T K A
terminal look = record { Spells = SpelledByOne look; Front = FrontOfOne look }

-- the empty text, for this value
abbrev pub nothing : {T K A : Type 0} → A → Rule T K A
nothing a = record { Spells = λ b ts. (a ≡ b) × (ts ≡ []); Front = λ last ts. (last ≡ fits) × (ts ≡ []) }

-- the texts of G, each for the value that f makes of G's
abbrev pub made : {T K A B : Type 0} → (A → B) → Rule T K A → Rule T K B
made {A = A} f G = record { Spells = λ b ts. (a : A) × (f a ≡ b) × G.Spells a ts; Front = G.Front }

-- an alternative for each i: a text is one of a member, and so is a front; the empty list is a front
abbrev pub alternatives : {T K A I : Type 0} → (I → Rule T K A) → Rule T K A
alternatives {I = I} G = record {
  Spells = λ a ts. (i : I) × (G i).Spells a ts;
  Front = λ last ts. ((last ≡ fits) × (ts ≡ [])) ⊎ ((i : I) × (G i).Front last ts);
}

-- ts is a whole text of G, for some value, and then something that holds of that value
pub record Joined {T K A : Type 0} (G : Rule T K A) (After : A → List T → Type 0) (ts : List T) : Type 0 where
  pub value : A
  pub left : List T
  pub right : List T
  pub joined : ts ≡ left ++ right
  pub whole : G.Spells value left
  pub after : After value right

-- a sequence, whose second rule may depend on the first one's value: a text of G, and then a text of
-- H at G's value; a front of G, or a whole text of G and then a front of H
abbrev pub sequence : {T K A B : Type 0} → Rule T K A → (A → Rule T K B) → Rule T K B
sequence G H = record {
  Spells = λ b ts. Joined G (λ a. (H a).Spells b) ts;
  Front = λ last ts. G.Front last ts ⊎ Joined G (λ a. (H a).Front last) ts;
}

-- the symbols that pass the test, each for itself
abbrev pub token : {T K : Type 0} → (T → Bool) → Rule T K T
token test = terminal (λ t. if test t then takes t else refuses)

-- no text: a symbol that passes the test has this fault
abbrev pub fault : {T K A : Type 0} → K → (T → Bool) → Rule T K A
fault k test = terminal (λ t. if test t then faults k else refuses)

-- no text
abbrev pub never : {T K A : Type 0} → Rule T K A
never = terminal (λ t. refuses)

infixr 35 ◌&◌
-- one after the other, for the pair of the values
abbrev pub ◌&◌ : {T K A B : Type 0} → Rule T K A → Rule T K B → Rule T K (A × B)
G & H = sequence G (λ a. made (λ b. (a, b)) H)

-- one after the other, for the first one's value
abbrev pub followed_by : {T K A B : Type 0} → Rule T K A → Rule T K B → Rule T K A
followed_by G H = sequence G (λ a. made (λ b. a) H)

-- one after the other, for the second one's value
abbrev pub preceded_by : {T K A B : Type 0} → Rule T K A → Rule T K B → Rule T K B
preceded_by G H = sequence G (λ a. H)

-- the first rule at true, the second at false
abbrev pub one_of_two : {T K A : Type 0} → Rule T K A → Rule T K A → Bool → Rule T K A
one_of_two G H true = G
one_of_two G H false = H

-- an alternative of two
abbrev pub either : {T K A : Type 0} → Rule T K A → Rule T K A → Rule T K A
either G H = alternatives (one_of_two G H)

-- the alternative of the part and nothing
abbrev pub optional : {T K A : Type 0} → Rule T K A → Rule T K (Option A)
optional G = either (made Some G) (nothing None)

-- a choice that begins with a terminal, whose value tells what follows
abbrev pub begun : {T K A B : Type 0} → (T → Verdict K A) → (A → Rule T K B) → Rule T K B
begun look H = sequence (terminal look) H

-- a symbol that is taken has this fault where there is no room for it; a fault that it has goes before
abbrev pub limited : {K A : Type 0} → K → Bool → Verdict K A → Verdict K A
limited k true v = v
limited k false (takes a) = faults k
limited k false (faults j) = faults j
limited k false refuses = refuses

-- the verdict on a symbol that has this fault
abbrev pub told : {K A : Type 0} → Option K → Verdict K A
told None = refuses
told (Some k) = faults k

-- the rule where there is room for it; else the symbol that would begin it has the fault that `over` tells
abbrev pub where_room : {T K A : Type 0} → Bool → (T → Option K) → Rule T K A → Rule T K A
where_room room over G = one_of_two G (terminal (λ t. told (over t))) room

-- one after the other, for the list of the first one's value and the second one's
abbrev pub headed : {T K A : Type 0} → Rule T K A → Rule T K (List A) → Rule T K (List A)
headed G H = sequence G (λ a. made (λ rest. a ∷ rest) H)

-- up to n times G, where what may follow the n-th is `end`, and nothing may follow fewer
abbrev pub bounded : {T K A : Type 0} → ℕ → Rule T K A → Rule T K (List A) → Rule T K (List A)
bounded zero G end = end
bounded (suc n) G end = either (headed G (bounded n G end)) (nothing [])

-- a repetition: any number of times G
abbrev pub many : {T K A : Type 0} → Rule T K A → Rule T K (List A)
many G = alternatives (λ n. bounded n G (nothing []))

-- the rule where the test is passed
abbrev pub allowed : {T K A : Type 0} → Bool → Rule T K A → Rule T K A
allowed true G = G
allowed false G = never

-- one of the members that are free, for its name and its value
abbrev pub member : {T K A I : Type 0} → (I → Rule T K A) → (I → Bool) → Rule T K (I × A)
member G free = alternatives (λ i. made (λ a. (i, a)) (allowed (free i) (G i)))

-- the members that are free without this one
abbrev pub without : {I : Type 0} → (I → I → Bool) → I → (I → Bool) → I → Bool
without same i free j = free j && not (same i j)

-- up to n of the free members, in any order and each at most once, for their names and values as
-- they stand
abbrev pub some_members : {T K A I : Type 0} → (I → I → Bool) → (I → Rule T K A) → ℕ → (I → Bool) → Rule T K (List (I × A))
some_members same G zero free = nothing []
some_members same G (suc n) free =
    either (sequence (member G free) (λ m. made (λ rest. m ∷ rest) (some_members same G n (without same m.0 free)))) (nothing [])

-- the free members in any order, each at most once
abbrev pub members : {T K A I : Type 0} → (I → I → Bool) → (I → Rule T K A) → (I → Bool) → Rule T K (List (I × A))
members same G free = alternatives (λ n. some_members same G n free)

-- the second rule says all that the first one says
pub record Within {T K A : Type 0} (G H : Rule T K A) : Type 0 where
  pub spells : (a : A) (ts : List T) → G.Spells a ts → H.Spells a ts
  pub front : (last : Last K) (ts : List T) → G.Front last ts → H.Front last ts

-- two rules say the same
pub record Same {T K A : Type 0} (G H : Rule T K A) : Type 0 where
  pub there : Within G H
  pub back : Within H G

-- the first rule's texts are texts of the second, and each of its fronts begins a text of the second:
-- where a rule completes itself, a front is exactly what begins a text
pub record Completes {T K A : Type 0} (G H : Rule T K A) : Type 0 where
  pub spells : (a : A) (ts : List T) → G.Spells a ts → H.Spells a ts
  pub completed : (ts : List T) → G.Front fits ts → (rest : List T) × (a : A) × H.Spells a (ts ++ rest)

-- ts is, up to some symbol, a front but for that symbol, in which a fault is found
pub record MeetsFault {T K A : Type 0} (G : Rule T K A) (ts : List T) : Type 0 where
  pub pre : List T
  pub at : T
  pub rest : List T
  pub kind : K
  pub is : ts ≡ pre ++ at ∷ rest
  pub front : G.Front (faulty kind) (pre ++ at ∷ [])

-- the first rule is the second with limits: it says what the second says, but behind a fault of its own
pub record Limits {T K A : Type 0} (G H : Rule T K A) : Type 0 where
  pub spells : (a : A) (ts : List T) → G.Spells a ts → H.Spells a ts
  pub front : (ts : List T) → G.Front fits ts → H.Front fits ts
  pub spelled : (a : A) (ts : List T) → H.Spells a ts → G.Spells a ts ⊎ MeetsFault G ts
  pub fronted : (last : Last K) (ts : List T) → H.Front last ts → G.Front last ts ⊎ MeetsFault G ts
