-- What a text is to a grammar: a text of a value, or a text with a first fault at its place.
use Rattle.std.specs.Prelude.{◌≡◌, ℕ, ◌+◌, ◌<◌, ◌≤◌, List, [], ◌∷◌, length, take, drop, Option, Some, None}
use Rattle.grammar_rules.specs.Rules.{Rule, Last, fits, faulty}

-- the first symbol with which the symbols so far are no front stands at this place, or the symbols end
-- there too early: those before it are a front, those up to it are none, and ts is no text
pub record RefusedThere {T K A : Type 0} (G : Rule T K A) (ts : List T) (place : ℕ) : Type 0 where
  pub within : place ≤ length ts
  pub front : G.Front fits (take place ts)
  pub refused : place < length ts → (last : Last K) → G.Front last (take (place + 1) ts) → ⊥
  pub unspelled : (a : A) → G.Spells a ts → ⊥

-- the symbol at this place has the fault k, behind a front
pub record FaultyThere {T K A : Type 0} (G : Rule T K A) (ts : List T) (k : K) (place : ℕ) : Type 0 where
  pub within : place < length ts
  pub front : G.Front (faulty k) (take (place + 1) ts)

-- the first fault of ts: a refused or missing symbol (None), or a symbol with a fault k
abbrev pub FirstFault : {T K A : Type 0} → Rule T K A → List T → Option K → ℕ → Type 0
FirstFault G ts None place = RefusedThere G ts place
FirstFault G ts (Some k) place = FaultyThere G ts k place

-- an answer on a text: its value, or a fault and its place
pub data Answer (K A : Type 0) : Type 0 where
  value : A → Answer K A
  refusal : Option K → ℕ → Answer K A

-- the answer is what the grammar says of ts
abbrev pub Answers : {T K A : Type 0} → Rule T K A → List T → Answer K A → Type 0
Answers G ts (value a) = G.Spells a ts
Answers G ts (refusal e place) = FirstFault G ts e place

-- the name of the first symbol's fault, where it has one
abbrev pub named_first : {T K : Type 0} → (T → Option K) → List T → Option K
named_first name [] = None
named_first name (t ∷ ts) = name t

-- the answer, where a refusal at a symbol that has a name is told by that name
abbrev pub named : {T K A : Type 0} → (T → Option K) → List T → Answer K A → Answer K A
named name ts (value a) = value a
named name ts (refusal None place) = refusal (named_first name (drop place ts)) place
named name ts (refusal (Some k) place) = refusal (Some k) place

-- the answer is what the grammar says of ts, where a refusal at a symbol that has a name is told by that name
abbrev pub AnswersNamed : {T K A : Type 0} → (T → Option K) → Rule T K A → List T → Answer K A → Type 0
AnswersNamed {K = K} {A = A} name G ts y = (x : Answer K A) × Answers G ts x × (named name ts x ≡ y)
